-- What is copied and what is filled, one behind the other (`put_all`).
use mathlib.Core.Path.{refl}
use native.Mathlib.Omega.{arith}
use Rattle.transducer.specs.Format.{max_states}
use Rattle.distance.proofs.Written.{put_all, spanned}
use Rattle.distance.proofs.cells.put.Goals as goal

pub returns : goal.returns
returns c =
    let a = c.args in
    let cells = c.copy.new.cells in
    let none = spanned a.states max_states _ cells _ c.requires.0 (omega arith) (c.fill.ensures.after (λ x e. e)) in
    let zeros = spanned max_states _ _ _ _ (omega arith) (omega arith) (c.fill-2.ensures.after (λ x e. e)) in
    put_all a.states _ a.costs.now a.cells.now cells _ _ c.requires.0 c.requires.2 refl c.copy.ensures none zeros
