-- The origins of composed steps: none stands twice among the steps of a state, and they give back the two paths. Assumes nothing.
use mathlib.Core.Path.{◌≡◌, refl, ap, ◌∙◌}
use mathlib.Core.Bool.{Bool, true, false, cond}
use mathlib.Core.List.{List, [], ◌∷◌, map}
use mathlib.Core.List.Memᴰ.{eq_of_singleton as only}
use mathlib.Core.List.{Memᴰ as Mem}
use Prim.Native.Nat.{ℕ, ◌≤◌, ◌<◌}
use native.Mathlib.Omega.{arith}
use lib.Dec.{eqb}
use lib.ListN.{length, get_or}
use borrow.Author.Tests.{ne_eqb}
use Rattle.transducer.specs.declared.Arc.{Arc}
use Rattle.transducer.specs.Format.{Transducer, barred}
use Rattle.transducer.specs.Path.{arc}
use Rattle.transducer.specs.Each.{each_arc, fits}
use Rattle.explore.specs.Explore.{Step}
use Rattle.steps.specs.declared.Origin.{Origin}
use Rattle.steps.specs.declared.State.{State}
use Rattle.steps.specs.Steps.{left_alone, right_alone, both_step, left_steps, right_steps, steps, left_origin, right_origin}
use Rattle.compose.specs.Claim.{led}
use Rattle.transducer.proofs.Members.{in_cond, Distinct, distinct_one, distinct_cond, distinct_append, distinct_places}
use Rattle.transducer.proofs.Each.{FromArc, in_each_arc, each_arc_distinct}
use Rattle.explore.proofs.Member.{mem_in}
use Rattle.explore.proofs.Trails.{Trail}
use Rattle.compose.proofs.Trail.{add_left, add_right, lefts, rights}
use Rattle.steps.proofs.Moves.{both_steps, OfLeft, alone, with_right, in_left_steps, in_right_steps, Move, by_left, by_right, by_both}
use Rattle.steps.proofs.Moves.{step_move}

abbrev origin : Step State Origin → Origin
origin s = s.origin

-- No origin stands twice

both_steps_distinct : (u : Transducer) (x : State) (i : ℕ) (a : Arc) → Distinct origin (both_steps u x i a)
unfolding both_steps both_step right_origin
both_steps_distinct u x i a =
    each_arc_distinct origin right_origin u x.right (λ j b. cond (fits u a.output b) (both_step i a j b ∷ []) [])
    (λ j b s m. ap (λ (s : Step State Origin). right_origin s.origin) (only (in_cond s (fits u a.output b) (both_step i a j b ∷ []) m).1))
    (λ j b. distinct_cond origin (fits u a.output b) (both_step i a j b ∷ []) (distinct_one origin (both_step i a j b)))

left_steps_distinct : (u : Transducer) (x : State) (i : ℕ) (a : Arc) → Distinct origin (left_steps u x i a)
unfolding left_steps both_steps
left_steps_distinct u x i a = on (eqb a.output 0)
  where
    on : (b : Bool) → Distinct origin (cond b (cond (eqb x.filter 0) (left_alone x i a ∷ []) []) (both_steps u x i a))
    on true = distinct_cond origin (eqb x.filter 0) (left_alone x i a ∷ []) (distinct_one origin (left_alone x i a))
    on false = both_steps_distinct u x i a

right_steps_distinct : (x : State) (j : ℕ) (b : Arc) → Distinct origin (right_steps x j b)
unfolding right_steps
right_steps_distinct x j b = distinct_cond origin (eqb b.input 0) (right_alone x j b ∷ []) (distinct_one origin (right_alone x j b))

-- A step that comes of a left arc has that arc among its origins.
left_steps_left : (u : Transducer) (x : State) (i : ℕ) (a : Arc) (s : Step State Origin) → Mem s (left_steps u x i a)
    → (left_origin s.origin ≡ i) × (add_left s.origin [] ≡ i ∷ [])
left_steps_left u x i a s m = on (in_left_steps u x i a s m)
  where
    on : OfLeft u x i a s → (left_origin s.origin ≡ i) × (add_left s.origin [] ≡ i ∷ [])
    on (alone e k made) = rw made (unfold left_alone left_origin add_left in (refl, refl))
    on (with_right h f) = rw f.made (unfold both_step left_origin add_left in (refl, refl))

right_steps_right : (x : State) (j : ℕ) (b : Arc) (s : Step State Origin) → Mem s (right_steps x j b)
    → (right_origin s.origin ≡ j) × (add_left s.origin [] ≡ [])
unfolding right_alone right_origin add_left
right_steps_right x j b s m =
    let made : s ≡ right_alone x j b = (in_right_steps x j b s m).1 in
    rw made (refl, refl)

pub origins_distinct : (t u : Transducer) (x : State) → Distinct (λ (s : Step State Origin). s.origin) (steps t u x)
unfolding steps
origins_distinct t u x =
    distinct_append origin (each_arc t x.left (left_steps u x)) (each_arc u x.right (right_steps x))
    (each_arc_distinct origin left_origin t x.left (left_steps u x) (λ i a s m. (left_steps_left u x i a s m).0) (left_steps_distinct u x))
    (each_arc_distinct origin right_origin u x.right (right_steps x) (λ j b s m. (right_steps_right x j b s m).0) (right_steps_distinct x)) apart
  where
    apart : (s s' : Step State Origin) → Mem s (each_arc t x.left (left_steps u x)) → Mem s' (each_arc u x.right (right_steps x))
        → s.origin ≡ s'.origin → ⊥
    apart s s' m m' e =
        let r : FromArc t x.left (left_steps u x) s = in_each_arc t x.left (left_steps u x) s m in
        let r' : FromArc u x.right (right_steps x) s' = in_each_arc u x.right (right_steps x) s' m' in
        let a : add_left s.origin [] ≡ r.number ∷ [] = (left_steps_left u x r.number (arc t r.number) s r.given).1 in
        let b : add_left s'.origin [] ≡ [] = (right_steps_right x r'.number (arc u r'.number) s' r'.given).1 in
        let z : ◌≡◌ {A = ℕ} 0 1 = cc in omega arith

pub origin_once : (t u : Transducer) (x : State) (d : Step State Origin) (a b : ℕ) → a < length (steps t u x) → b < length (steps t u x)
    → (get_or (steps t u x) a d).origin ≡ (get_or (steps t u x) b d).origin → a ≡ b
origin_once t u x d a b p q e = distinct_places origin (steps t u x) d a b (origins_distinct t u x) p q e

-- What the origins lead to

led_barred : (is : List ℕ) → led (barred ∷ is) ≡ led is
unfolding led
led_barred is = refl

led_number : (i : ℕ) (is : List ℕ) → i < barred → led (i ∷ is) ≡ i ∷ led is
unfolding led
led_number i is h =
    let n : i ≡ barred → ⊥ = λ e. omega arith in
    rw (ne_eqb i barred n)

led_left : (t u : Transducer) (x : State) (s : Step State Origin) (is p : List ℕ) → length t.arcs ≤ barred → Move t u x s → led is ≡ p
    → led (left_origin s.origin ∷ is) ≡ add_left s.origin p
unfolding left_alone right_alone both_step left_origin add_left
led_left t u x s is p few (by_left m) e =
    let h : m.left_arc < length t.arcs = m.below in
    rw m.made (led_number m.left_arc is (omega arith) ∙ ap (◌∷◌ m.left_arc) e)
led_left t u x s is p few (by_right m) e = rw m.made (led_barred is ∙ e)
led_left t u x s is p few (by_both m) e =
    let h : m.left_arc < length t.arcs = m.left_below in
    rw m.made (led_number m.left_arc is (omega arith) ∙ ap (◌∷◌ m.left_arc) e)

led_right : (t u : Transducer) (x : State) (s : Step State Origin) (is q : List ℕ) → length u.arcs ≤ barred → Move t u x s → led is ≡ q
    → led (right_origin s.origin ∷ is) ≡ add_right s.origin q
unfolding left_alone right_alone both_step right_origin add_right
led_right t u x s is q few (by_left m) e = rw m.made (led_barred is ∙ e)
led_right t u x s is q few (by_right m) e =
    let h : m.right_arc < length u.arcs = m.below in
    rw m.made (led_number m.right_arc is (omega arith) ∙ ap (◌∷◌ m.right_arc) e)
led_right t u x s is q few (by_both m) e =
    let h : m.right_arc < length u.arcs = m.right_below in
    rw m.made (led_number m.right_arc is (omega arith) ∙ ap (◌∷◌ m.right_arc) e)

pub led_lefts : (t u : Transducer) (x : State) (ss : List (Step State Origin)) (y : State) → length t.arcs ≤ barred → Trail (steps t u) x ss y
    → led (map (λ s. left_origin s.origin) ss) ≡ lefts ss
unfolding lefts led
led_lefts t u x [] y few h = refl
led_lefts t u x (s ∷ ss) y few h =
    led_left t u x s (map (λ s. left_origin s.origin) ss) (lefts ss) few (step_move t u x s (mem_in h.0)) (led_lefts t u s.target ss y few h.1)

pub led_rights : (t u : Transducer) (x : State) (ss : List (Step State Origin)) (y : State) → length u.arcs ≤ barred → Trail (steps t u) x ss y
    → led (map (λ s. right_origin s.origin) ss) ≡ rights ss
unfolding rights led
led_rights t u x [] y few h = refl
led_rights t u x (s ∷ ss) y few h =
    led_right t u x s (map (λ s. right_origin s.origin) ss) (rights ss) few (step_move t u x s (mem_in h.0)) (led_rights t u s.target ss y few h.1)
