-- How large costs are: a path costs at most 1,000,000 for each arc and for its end, of either sign, so that what is kept stays far from the ends of 32 bits.
-- Assumes nothing.
use mathlib.Core.Path.{◌≡◌, refl}
use mathlib.Core.Bool.{Bool, true, false, cond}
use mathlib.Core.List.{List, [], ◌∷◌}
use Prim.Native.Nat.{ℕ, ◌+◌, ◌*◌, ◌≤◌, ◌<◌}
use native.Mathlib.Omega.{arith}
use lib.ListN.{length, get_or}
use mir.Syntax.{w32}
use mir.Val.{SFits, to_z, of_z}
use mir.Facts.{to_z-of_z}
use Rattle.wire.proofs.Ints.{size}
use Rattle.transducer.specs.declared.Arc.{Arc}
use Rattle.transducer.specs.Format.{Transducer, weight_good}
use Rattle.transducer.specs.Path.{arc, no_arc, is_final, final_weight, runs, ends, arcs_cost}
use Rattle.transducer.specs.Weight.{Weight, no_weight, amount, plus, AtMost, Below, below}
use Rattle.transducer.proofs.Finals.{final_weight_good}
use Rattle.transducer.proofs.Good.{finals_light, arc_light}
use Rattle.transducer.proofs.Paths.{Runs, runs_cons}
use Rattle.transducer.proofs.Weights.{sums, sum, InRange, good_range, good_fits}
use Rattle.reach.proofs.Sized.{Sized}
use Rattle.cycles.specs.Costs.{cost_from}
use Rattle.relax.specs.Size.{Size}
use Rattle.relax.specs.Tentative.{Sizes, unreached, cost_at, onward, cost_by, own_cost, Reached, Cells, least_cost}
use Rattle.relax.proofs.Packed.{pack_unpack}

-- A cost is at most so far from zero.
pub record Bounded (k : ℕ) (x : Weight) : Type 0 where
  pub up : AtMost x (amount k)
  pub down : AtMost no_weight (plus x (amount k))

range_bounded : (w : Weight) → InRange w → Bounded 1000000 w
range_bounded w r = record { up = omega (arith, sums, r.high); down = omega (arith, sums, r.low) }

plus_bounded : (a b : Weight) (j k : ℕ) → Bounded j a → Bounded k b → Bounded (j + k) (plus a b)
plus_bounded a b j k p q =
    record { up = omega (arith, sums, p.up, q.up); down = omega (arith, sums, sum a b, p.down, q.down) }

pub arc_bounded : (t : Transducer) → Sized t → (i : ℕ) → i < length t.arcs → Bounded 1000000 (arc t i).weight
unfolding arc
arc_bounded t z i b = let w : Weight = (arc t i).weight in range_bounded w (good_range w (arc_light t z.content i no_arc b))

pub final_bounded : (t : Transducer) → Sized t → (s : ℕ) → Bounded 1000000 (final_weight t.finals s)
final_bounded t z s =
    let w : Weight = final_weight t.finals s in
    range_bounded w (good_range w (final_weight_good t.finals s (finals_light t z.content)))

arcs_bounded : (t : Transducer) → Sized t → (s : ℕ) (p : List ℕ) → runs t s p ≡ true → Bounded (1000000 * length p) (arcs_cost t p)
unfolding arcs_cost
arcs_bounded t z s [] h = record { up = omega (arith, sums); down = omega (arith, sums) }
arcs_bounded t z s (i ∷ p) h =
    let r : Runs t s i p = runs_cons t s i p h in
    let b : Bounded (1000000 + 1000000 * length p) (plus (arc t i).weight (arcs_cost t p)) =
    plus_bounded (arc t i).weight (arcs_cost t p) 1000000 (1000000 * length p) (arc_bounded t z i r.below)
    (arcs_bounded t z (arc t i).target p r.rest) in
    record { up = omega (arith, sums, b.up); down = omega (arith, sums, b.down) }

pub cost_bounded : (t : Transducer) → Sized t → (s : ℕ) (p : List ℕ) → runs t s p ≡ true → Bounded (1000000 * length p + 1000000) (cost_from t s p)
unfolding cost_from
cost_bounded t z s p h =
    plus_bounded (arcs_cost t p) (final_weight t.finals (ends t s p)) (1000000 * length p) 1000000 (arcs_bounded t z s p h) (final_bounded t z (ends t s p))

-- What is kept.
pub reached_bounded : (t : Transducer) → Sized t → (c : ℕ → Weight) (l : ℕ → Size) (s : ℕ) → Reached t c l s → Bounded 1024000000 (c s)
reached_bounded t z c l s r =
    let b : Bounded (1000000 * length r.path + 1000000) (c s) = rw r.costs at (cost_bounded t z s r.path r.goes) in
    record { up = omega (arith, sums, b.up, r.few, z.states); down = omega (arith, sums, b.down, r.few, z.states) }

-- By way of an arc: none where there is none from its target.

pub cost_by_some : (t : Transducer) (c : ℕ → Weight) (i : ℕ) → Below (c (arc t i).target) unreached
    → cost_by t c i ≡ plus (arc t i).weight (c (arc t i).target)
unfolding cost_by onward
cost_by_some t c i h = let b : below (c (arc t i).target) unreached ≡ true = omega (arith, sums) in rw b refl

pub cost_by_none : (t : Transducer) (c : ℕ → Weight) (i : ℕ) → AtMost unreached (c (arc t i).target) → cost_by t c i ≡ unreached
unfolding cost_by onward
cost_by_none t c i h = let b : below (c (arc t i).target) unreached ≡ false = omega (arith, sums) in rw b refl

pub cost_by_there : (t : Transducer) (c : ℕ → Weight) (i : ℕ) → Below (cost_by t c i) unreached → Below (c (arc t i).target) unreached
cost_by_there t c i h = on (below (c (arc t i).target) unreached) refl
  where
    on : (b : Bool) → below (c (arc t i).target) unreached ≡ b → Below (c (arc t i).target) unreached
    on true e = omega (arith, sums)
    on false e = let n : cost_by t c i ≡ unreached = cost_by_none t c i (omega (arith, sums)) in absurd (omega (arith, sums, n))

pub own_most : (t : Transducer) → Sized t → (s : ℕ) → (AtMost (own_cost t s) unreached) × (AtMost least_cost (own_cost t s))
unfolding own_cost
own_most t z s = on
  where
    b : Bounded 1000000 (final_weight t.finals s)
    b = final_bounded t z s

    at : (d : Bool) → (AtMost (cond d (final_weight t.finals s) unreached) unreached) × (AtMost least_cost (cond d (final_weight t.finals s) unreached))
    at true = (omega (arith, sums, b.up), omega (arith, sums, b.down))
    at false = (omega (arith, sums), omega (arith, sums))

    on : (AtMost (own_cost t s) unreached) × (AtMost least_cost (own_cost t s))
    on = at (is_final t.finals s)

-- As they are read and handed on in 32 bits.

pub cell_fits : {n : ℕ} {cs : List Weight} {ls : Sizes} → Cells n cs ls → (s : ℕ) → SFits w32 (cost_at cs s)
cell_fits {cs = cs} k s = record { sfits = omega (arith, sums, size (cost_at cs s), k.low s, k.high s) }

-- A size fits into 32 bits, and so does it with one more arc.
pub cell_most : {n : ℕ} {cs : List Weight} {ls : Sizes} → Cells n cs ls → (s : ℕ) → get_or ls s 0 ≤ 67109888
cell_most {ls = ls} cells s = omega (arith, pack_unpack (get_or ls s 0), cells.few s, cells.few_labels s)

pub cell_back : {n : ℕ} {cs : List Weight} {ls : Sizes} → Cells n cs ls → (s : ℕ) → to_z w32 (of_z w32 (cost_at cs s)) ≡ cost_at cs s
cell_back k s = to_z-of_z (cell_fits k s)

pub read_good : (t : Transducer) → Sized t → (i : ℕ) → i < length t.arcs → (a : Arc) → a ≡ arc t i → weight_good a.weight ≡ true
unfolding arc
read_good t z i b a is = rw is (arc_light t z.content i no_arc b)

pub weight_fits : (t : Transducer) → Sized t → (i : ℕ) → i < length t.arcs → (a : Arc) → a ≡ arc t i → SFits w32 a.weight
weight_fits t z i b a is = good_fits a.weight (read_good t z i b a is)

pub weight_back : (t : Transducer) → Sized t → (i : ℕ) → i < length t.arcs → (a : Arc) → a ≡ arc t i → to_z w32 (of_z w32 a.weight) ≡ a.weight
weight_back t z i b a is = to_z-of_z (weight_fits t z i b a is)

pub onward_back : (t : Transducer) → Sized t → {n : ℕ} {cs : List Weight} {ls : Sizes} → Cells n cs ls → (i : ℕ) → i < length t.arcs
    → (a : Arc) → a ≡ arc t i → {r : Weight} → r ≡ onward (to_z w32 (of_z w32 a.weight)) (to_z w32 (of_z w32 (cost_at cs a.target)))
    → r ≡ onward a.weight (cost_at cs a.target)
onward_back t z k i b a is e = rw (weight_back t z i b a is, cell_back k a.target) at e

pub sum_by_arc : (t : Transducer) → Sized t → {n : ℕ} {cs : List Weight} {ls : Sizes} → Cells n cs ls → (i : ℕ) → i < length t.arcs → (a : Arc) → a ≡ arc t i
    → {r : Weight} → r ≡ onward (to_z w32 (of_z w32 a.weight)) (to_z w32 (of_z w32 (cost_at cs a.target))) → r ≡ cost_by t (cost_at cs) i
unfolding cost_by
sum_by_arc t z k i b a is e = rw is at (onward_back t z k i b a is e)
