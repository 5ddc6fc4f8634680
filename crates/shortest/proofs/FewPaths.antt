-- If accepting paths are not infinitely many, each costs little and no cycle below zero lies on one. Assumes nothing.
use mathlib.Core.Path.{◌≡◌}
use mathlib.Core.Bool.{true, false}
use mathlib.Core.List.{List}
use Prim.Native.Nat.{ℕ, ◌+◌, ◌*◌, ◌≤◌, ◌<◌}
use native.Mathlib.Omega.{arith}
use lib.IntN.{pos, negsuc}
use lib.ListN.{length}
use mir.Syntax.{w32}
use mir.Val.{SFits}
use Rattle.wire.proofs.Bool.{is_false}
use Rattle.wire.proofs.Ints.{size}
use Rattle.transducer.specs.Format.{Transducer, Good}
use Rattle.transducer.specs.Path.{accepts, path_cost}
use Rattle.transducer.specs.Weight.{Weight, magnitude}
use Rattle.transducer.proofs.Runs.{good_within, accepts_accepting}
use Rattle.transducer.proofs.Weights.{sums, magnitude_is}
use Rattle.reach.proofs.Sized.{Sized, good_sized}
use Rattle.paths.specs.Count.{endless}
use Rattle.paths.proofs.Endless.{not_endless_short}
use Rattle.cycles.specs.Cycles.{negative_cycle}
use Rattle.cycles.proofs.Costs.{cost_start}
use Rattle.cycles.proofs.NoLeast.{negative_cycle_no_least}
use Rattle.relax.proofs.Bounds.{Bounded, cost_bounded}

-- The most that a path of 1,023 arcs costs, on either side of zero.
abbrev pub most_cost : ℕ
most_cost = 1024000000

module _ (t : Transducer) (good : Good t) (finite : endless t ≡ false) where
  pub few_bounded : (p : List ℕ) → accepts t p ≡ true → Bounded most_cost (path_cost t p)
  few_bounded p a =
      let z : Sized t = good_sized t good in
      let l : length p < t.states = not_endless_short t (good_within t good) finite p a in
      let b : Bounded (1000000 * length p + 1000000) (path_cost t p) =
      rw (cost_start t p) at (cost_bounded t z t.start p (accepts_accepting t p a).goes) in
      record { up = omega (arith, sums, b.up, l, z.states); down = omega (arith, sums, b.down, l, z.states) }

  -- 19 cannot arise: round such a cycle cost falls below any bound.
  pub few_rises : negative_cycle t ≡ false
  few_rises =
      is_false (negative_cycle t)
      (λ f.
      let r = negative_cycle_no_least t f (negsuc most_cost) in
      let b : Bounded most_cost (path_cost t r.0) = few_bounded r.0 r.1 in
      omega (arith, sums, b.down, r.2))

pub bounded_small : (w : Weight) → Bounded most_cost w → magnitude w ≤ most_cost
bounded_small (pos n) b = omega (arith, sums, b.up, b.down)
bounded_small (negsuc n) b = omega (arith, sums, b.up, b.down)

pub small_fits : (w : Weight) → magnitude w ≤ most_cost → SFits w32 w
small_fits w b = record { sfits = omega (arith, magnitude_is w, size w) }
