-- The steps of a composed state, one by one: each is a move of the left alone, of the right alone, or of both. Assumes nothing.
use mathlib.Core.Path.{◌≡◌, refl}
use mathlib.Core.Bool.{Bool, true, false, cond}
use mathlib.Core.Logic.{◌⊎◌, inl, inr}
use mathlib.Core.List.{List, [], ◌∷◌}
use mathlib.Core.List.Memᴰ.{append_cases as in_either}
use mathlib.Core.List.Memᴰ.{eq_of_singleton as only}
use mathlib.Core.List.Memᴰ.{head as first}
use mathlib.Core.List.{Memᴰ as Mem}
use mathlib.Core.List.Memᴰ.{append_left as in_front}
use mathlib.Core.List.Memᴰ.{append_right as in_back}
use Prim.Native.Nat.{ℕ, ◌<◌, ◌≤◌}
use native.Mathlib.Omega.{arith}
use lib.Dec.{eqb}
use lib.ListN.{length}
use borrow.Author.Tests.{eqb-true, eqb-false, eq-eqb, ne_eqb}
use Rattle.transducer.specs.declared.Arc.{Arc}
use Rattle.transducer.specs.Format.{Transducer}
use Rattle.transducer.specs.Path.{arc}
use Rattle.transducer.specs.Each.{each_arc, fits}
use Rattle.explore.specs.Explore.{Step}
use Rattle.steps.specs.declared.Origin.{Origin}
use Rattle.steps.specs.declared.State.{State}
use Rattle.steps.specs.Steps.{left_alone, right_alone, both_step, left_steps, right_steps, steps}
use Rattle.transducer.proofs.Members.{in_cond, cond_has}
use Rattle.transducer.proofs.Each.{FromArc, in_each_arc, each_arc_has}

-- A left arc that writes nothing, where the filter allows it.
pub record LeftMove (t : Transducer) (x : State) (s : Step State Origin) : Type 0 where
  pub left_arc : ℕ
  pub below : left_arc < length t.arcs
  pub leaves : (arc t left_arc).source ≡ x.left
  pub silent : (arc t left_arc).output ≡ 0
  pub allowed : x.filter ≡ 0
  pub made : s ≡ left_alone x left_arc (arc t left_arc)

-- A right arc that reads nothing.
pub record RightMove (u : Transducer) (x : State) (s : Step State Origin) : Type 0 where
  pub right_arc : ℕ
  pub below : right_arc < length u.arcs
  pub leaves : (arc u right_arc).source ≡ x.right
  pub quiet : (arc u right_arc).input ≡ 0
  pub made : s ≡ right_alone x right_arc (arc u right_arc)

-- A left arc that writes a symbol, and a right arc that fits it.
pub record BothMove (t u : Transducer) (x : State) (s : Step State Origin) : Type 0 where
  pub left_arc : ℕ
  pub right_arc : ℕ
  pub left_below : left_arc < length t.arcs
  pub right_below : right_arc < length u.arcs
  pub left_leaves : (arc t left_arc).source ≡ x.left
  pub right_leaves : (arc u right_arc).source ≡ x.right
  pub writes : (arc t left_arc).output ≡ 0 → ⊥
  pub fitted : fits u (arc t left_arc).output (arc u right_arc) ≡ true
  pub made : s ≡ both_step left_arc (arc t left_arc) right_arc (arc u right_arc)

pub data Move (t u : Transducer) (x : State) (s : Step State Origin) : Type 0 where
  by_left : LeftMove t x s → Move t u x s
  by_right : RightMove u x s → Move t u x s
  by_both : BothMove t u x s → Move t u x s

-- The steps of both that a left arc makes.
unfoldable pub both_steps : (u : Transducer) (x : State) (i : ℕ) (a : Arc) → List (Step State Origin)
both_steps u x i a = each_arc u x.right (λ j b. cond (fits u a.output b) (both_step i a j b ∷ []) [])

-- The right arc that such a step was made with.
pub record MadeWith (u : Transducer) (x : State) (i : ℕ) (a : Arc) (s : Step State Origin) : Type 0 where
  pub right_arc : ℕ
  pub below : right_arc < length u.arcs
  pub leaves : (arc u right_arc).source ≡ x.right
  pub fitted : fits u a.output (arc u right_arc) ≡ true
  pub made : s ≡ both_step i a right_arc (arc u right_arc)

pub in_both_steps : (u : Transducer) (x : State) (i : ℕ) (a : Arc) (s : Step State Origin) → Mem s (both_steps u x i a) → MadeWith u x i a s
unfolding both_steps
in_both_steps u x i a s m =
    let r = in_each_arc u x.right (λ j b. cond (fits u a.output b) (both_step i a j b ∷ []) []) s m in
    let j : ℕ = r.number in
    let b : Arc = arc u j in
    let c : (fits u a.output b ≡ true) × Mem s (both_step i a j b ∷ []) = in_cond s (fits u a.output b) (both_step i a j b ∷ []) r.given in
    record { right_arc = j; below = r.below; leaves = r.leaves; fitted = c.0; made = only c.1 }

pub both_steps_has : (u : Transducer) (x : State) (i : ℕ) (a : Arc) (s : Step State Origin) → MadeWith u x i a s → Mem s (both_steps u x i a)
unfolding both_steps
both_steps_has u x i a s r =
    let j : ℕ = r.right_arc in
    let b : Arc = arc u j in
    each_arc_has u x.right (λ j b. cond (fits u a.output b) (both_step i a j b ∷ []) []) s j r.below r.leaves
    (cond_has s (fits u a.output b) (both_step i a j b ∷ []) r.fitted (first r.made))

-- What comes of one left arc: a step of its own, or steps of both.
pub data OfLeft (u : Transducer) (x : State) (i : ℕ) (a : Arc) (s : Step State Origin) : Type 0 where
  alone : a.output ≡ 0 → x.filter ≡ 0 → s ≡ left_alone x i a → OfLeft u x i a s
  with_right : (a.output ≡ 0 → ⊥) → MadeWith u x i a s → OfLeft u x i a s

pub in_left_steps : (u : Transducer) (x : State) (i : ℕ) (a : Arc) (s : Step State Origin) → Mem s (left_steps u x i a) → OfLeft u x i a s
unfolding left_steps both_steps
in_left_steps u x i a s m = on (eqb a.output 0) refl m
  where
    on : (b : Bool) → eqb a.output 0 ≡ b → Mem s (cond b (cond (eqb x.filter 0) (left_alone x i a ∷ []) []) (both_steps u x i a)) → OfLeft u x i a s
    on true e m' =
        let p : (eqb x.filter 0 ≡ true) × Mem s (left_alone x i a ∷ []) = in_cond s (eqb x.filter 0) (left_alone x i a ∷ []) m' in
        alone (eqb-true a.output 0 e) (eqb-true x.filter 0 p.0) (only p.1)
    on false e m' = with_right (eqb-false a.output 0 e) (in_both_steps u x i a s m')

pub left_steps_has : (u : Transducer) (x : State) (i : ℕ) (a : Arc) (s : Step State Origin) → OfLeft u x i a s → Mem s (left_steps u x i a)
unfolding left_steps both_steps
left_steps_has u x i a s (alone e k made) = rw (eq-eqb a.output 0 e, eq-eqb x.filter 0 k) (first made)
left_steps_has u x i a s (with_right h r) = rw (ne_eqb a.output 0 h) (both_steps_has u x i a s r)

-- What comes of one right arc.
pub in_right_steps : (x : State) (j : ℕ) (b : Arc) (s : Step State Origin) → Mem s (right_steps x j b) → (b.input ≡ 0) × (s ≡ right_alone x j b)
unfolding right_steps
in_right_steps x j b s m =
    let c : (eqb b.input 0 ≡ true) × Mem s (right_alone x j b ∷ []) = in_cond s (eqb b.input 0) (right_alone x j b ∷ []) m in
    (eqb-true b.input 0 c.0, only c.1)

pub right_steps_has : (x : State) (j : ℕ) (b : Arc) (s : Step State Origin) → b.input ≡ 0 → s ≡ right_alone x j b → Mem s (right_steps x j b)
unfolding right_steps
right_steps_has x j b s e made = cond_has s (eqb b.input 0) (right_alone x j b ∷ []) (eq-eqb b.input 0 e) (first made)

pub step_move : (t u : Transducer) (x : State) (s : Step State Origin) → Mem s (steps t u x) → Move t u x s
unfolding steps
step_move t u x s m = on (in_either (each_arc t x.left (left_steps u x)) m)
  where
    of_left : (r : FromArc t x.left (left_steps u x) s) → OfLeft u x r.number (arc t r.number) s → Move t u x s
    of_left r (alone e k made) =
        by_left (record { left_arc = r.number; below = r.below; leaves = r.leaves; silent = e; allowed = k; made = made })
    of_left r (with_right h f) =
        by_both (record {
          left_arc = r.number;
          right_arc = f.right_arc;
          left_below = r.below;
          right_below = f.below;
          left_leaves = r.leaves;
          right_leaves = f.leaves;
          writes = h;
          fitted = f.fitted;
          made = f.made;
        })

    on : Mem s (each_arc t x.left (left_steps u x)) ⊎ Mem s (each_arc u x.right (right_steps x)) → Move t u x s
    on (inl l) =
        let r : FromArc t x.left (left_steps u x) s = in_each_arc t x.left (left_steps u x) s l in
        of_left r (in_left_steps u x r.number (arc t r.number) s r.given)
    on (inr l) =
        let r : FromArc u x.right (right_steps x) s = in_each_arc u x.right (right_steps x) s l in
        let p = in_right_steps x r.number (arc u r.number) s r.given in
        by_right (record { right_arc = r.number; below = r.below; leaves = r.leaves; quiet = p.0; made = p.1 })

pub move_step : (t u : Transducer) (x : State) (s : Step State Origin) → Move t u x s → Mem s (steps t u x)
unfolding steps
move_step t u x s (by_left m) =
    let i : ℕ = m.left_arc in
    in_front (each_arc u x.right (right_steps x))
    (each_arc_has t x.left (left_steps u x) s i m.below m.leaves
    (left_steps_has u x i (arc t i) s (alone m.silent m.allowed m.made)))
move_step t u x s (by_right m) =
    let j : ℕ = m.right_arc in
    in_back (each_arc t x.left (left_steps u x))
    (each_arc_has u x.right (right_steps x) s j m.below m.leaves (right_steps_has x j (arc u j) s m.quiet m.made))
move_step t u x s (by_both m) =
    let i : ℕ = m.left_arc in
    let f : MadeWith u x i (arc t i) s =
    record { right_arc = m.right_arc; below = m.right_below; leaves = m.right_leaves; fitted = m.fitted; made = m.made } in
    in_front (each_arc u x.right (right_steps x))
    (each_arc_has t x.left (left_steps u x) s i m.left_below m.left_leaves (left_steps_has u x i (arc t i) s (with_right m.writes f)))

-- The filter state stays 0 or 1.
pub step_filter : (t u : Transducer) (x : State) (s : Step State Origin) → Mem s (steps t u x) → s.target.filter ≤ 1
unfolding left_alone right_alone both_step
step_filter t u x s m = on (step_move t u x s m)
  where
    on : Move t u x s → s.target.filter ≤ 1
    on (by_left m') = rw m'.made (omega arith)
    on (by_right m') = rw m'.made (omega arith)
    on (by_both m') = rw m'.made (omega arith)
