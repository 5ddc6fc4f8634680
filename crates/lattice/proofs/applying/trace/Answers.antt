-- What is read is the number of an arc, since it is not yet changed.
use Rattle.std.proofs.Common.{ℕ, List, ◌<◌, ◌++◌, ◌∙◌, ap, arith, get_or, take, drop, get_or-take, length-take-le}
use Rattle.lattice.proofs.Tracing.{still_there, one_changed, all_changed, front_changed}
use Rattle.lattice.proofs.applying.trace.Goals as goal

pub bounds-arcs-origin : goal.bounds-arcs-origin
bounds-arcs-origin c =
    let h = c.loop-origin in
    let origins = c.args.origins.now in
    let below : h.origin-index < c.args.count = omega (arith, length-take-le c.args.count origins c.requires.0) in
    omega (
      arith,
      still_there (λ k. get_or c.args.arcs.now k 0) (take c.args.count origins) h.origin-items h.origin-index h.invariant c.loop-origin-test.true,
      get_or-take c.args.count origins h.origin-index 0 below,
      c.requires.1 h.origin-index below,
    )

pub loop-origin-preserved : goal.loop-origin-preserved
loop-origin-preserved c =
    one_changed (λ k. get_or c.args.arcs.now k 0) (take c.args.count c.args.origins.now) _ _ c.loop-origin.invariant c.loop-origin-test.true

pub returns : goal.returns
returns c =
    let origins = c.args.origins.now in
    let traced : ℕ → ℕ = λ k. get_or c.args.arcs.now k 0 in
    ap (λ (l : List ℕ). l ++ drop c.args.count origins) (all_changed traced (take c.args.count origins) _ _ c.loop-origin.invariant c.loop-origin-test.false)
    ∙ front_changed traced origins c.args.count c.requires.0
