-- The steps of all states and their arcs: which step stands at a place, and that its arc stands at the same place. Assumes nothing.
use mathlib.Core.Path.{◌≡◌, refl, ap}
use mathlib.Core.Bool.{Bool}
use mathlib.Core.Logic.{◌⊎◌, inl, inr}
use mathlib.Core.List.{List, [], ◌∷◌}
use Prim.Native.Nat.{ℕ, zero, suc, ◌+◌}
use native.Mathlib.Nat.{add-zero}
use native.Mathlib.Omega.{arith}
use lib.ListN.{length, take, length-append}
use Rattle.transducer.specs.declared.Arc.{Arc}
use Rattle.explore.specs.Explore.{Step, place, arcs_here, arcs_from, steps_from}
use Rattle.explore.proofs.Member.{At, at_eq, at_left, at_right, at_append}

-- The arc of a step from the state of number i.
abbrev pub arc_of : {A O : Type 0} → (same : A → A → Bool) → (all : List A) → (i : ℕ) → Step A O → Arc
arc_of same all i s =
    record { source = i; input = s.input; output = s.output; target = place same s.target all; weight = s.weight }

-- How many steps stand before those of the state of number k.
unfoldable pub before : {A O : Type 0} → (steps : A → List (Step A O)) → List A → (k : ℕ) → ℕ
before steps xs k = length (steps_from steps (take k xs))

module _ {A O : Type 0} (steps : A → List (Step A O)) where
  before_zero : (xs : List A) → before steps xs 0 ≡ 0
  unfolding before steps_from
  before_zero xs = refl

  before_cons : (x : A) (xs : List A) (k : ℕ) → before steps (x ∷ xs) (suc k) ≡ length (steps x) + before steps xs k
  unfolding before steps_from
  before_cons x xs k = length-append (steps x) (steps_from steps (take k xs))

  pub steps_from_at : (xs : List A) (k : ℕ) (x : A) (l : ℕ) (s : Step A O) → At xs k x → At (steps x) l s
      → At (steps_from steps xs) (before steps xs k + l) s
  unfolding steps_from
  steps_from_at [] k x l s h m = absurd h
  steps_from_at (y ∷ ys) zero x l s h m =
      let e : l ≡ before steps (y ∷ ys) 0 + l = omega (arith, before_zero (y ∷ ys)) in
      at_eq (steps_from steps (y ∷ ys)) s e (at_left (steps y) (steps_from steps ys) l s (rw (← h) at m))
  steps_from_at (y ∷ ys) (suc k) x l s h m =
      let e : length (steps y) + (before steps ys k + l) ≡ before steps (y ∷ ys) (suc k) + l = omega (arith, before_cons y ys k) in
      at_eq (steps_from steps (y ∷ ys)) s e
      (at_right (steps y) (steps_from steps ys) (before steps ys k + l) s (steps_from_at ys k x l s h m))

-- Where a step comes from: the state's number, the state, and the step's place among the steps of that state.
pub record Placed {A O : Type 0} (steps : A → List (Step A O)) (xs : List A) (j : ℕ) (s : Step A O) : Type 0 where
  pub source : ℕ
  pub state : A
  pub nth : ℕ
  pub source_at : At xs source state
  pub step_at : At (steps state) nth s
  pub number : j ≡ before steps xs source + nth

module _ {A O : Type 0} (steps : A → List (Step A O)) where
  pub placed : (xs : List A) (j : ℕ) (s : Step A O) → At (steps_from steps xs) j s → Placed steps xs j s
  unfolding steps_from
  placed [] j s h = absurd h
  placed (x ∷ xs) j s h = on (at_append (steps x) (steps_from steps xs) j s h) (λ i k. placed xs i s k)
    where
      on : At (steps x) j s ⊎ ((i : ℕ) × (j ≡ length (steps x) + i) × At (steps_from steps xs) i s)
          → ((i : ℕ) → At (steps_from steps xs) i s → Placed steps xs i s) → Placed steps (x ∷ xs) j s
      on (inl k) more =
          record {
            source = 0;
            state = x;
            nth = j;
            source_at = refl;
            step_at = k;
            number = omega (arith, before_zero steps (x ∷ xs));
          }
      on (inr k) more =
          let r : Placed steps xs k.0 s = more k.0 k.2 in
          record {
            source = suc r.source;
            state = r.state;
            nth = r.nth;
            source_at = r.source_at;
            step_at = r.step_at;
            number = omega (arith, k.1, r.number, before_cons steps x xs r.source);
          }

module _ {A O : Type 0} (same : A → A → Bool) (all : List A) where
  pub length_arcs_here : (i : ℕ) (ss : List (Step A O)) → length (arcs_here same all i ss) ≡ length ss
  unfolding arcs_here
  length_arcs_here i [] = refl
  length_arcs_here i (s ∷ ss) = ap suc (length_arcs_here i ss)

  pub arcs_here_at : (i : ℕ) (ss : List (Step A O)) (l : ℕ) (s : Step A O) → At ss l s → At (arcs_here same all i ss) l (arc_of same all i s)
  unfolding arcs_here
  arcs_here_at i [] l s h = absurd h
  arcs_here_at i (t ∷ ts) zero s h = rw h
  arcs_here_at i (t ∷ ts) (suc l) s h = arcs_here_at i ts l s h

  module _ (steps : A → List (Step A O)) where
    pub length_arcs_from : (i : ℕ) (xs : List A) → length (arcs_from same steps all i xs) ≡ length (steps_from steps xs)
    unfolding arcs_from steps_from
    length_arcs_from i [] = refl
    length_arcs_from i (x ∷ xs) = simp (length-append, length_arcs_here i (steps x), length_arcs_from (suc i) xs)

    -- The arc of a step stands where the step does.
    pub arcs_from_at : (i : ℕ) (xs : List A) (k : ℕ) (x : A) (l : ℕ) (s : Step A O) → At xs k x → At (steps x) l s
        → At (arcs_from same steps all i xs) (before steps xs k + l) (arc_of same all (i + k) s)
    unfolding arcs_from
    arcs_from_at i [] k x l s h m = absurd h
    arcs_from_at i (y ∷ ys) zero x l s h m =
        let e : l ≡ before steps (y ∷ ys) 0 + l = omega (arith, before_zero steps (y ∷ ys)) in
        let here : At (arcs_here same all i (steps y)) l (arc_of same all i s) = arcs_here_at i (steps y) l s (rw (← h) at m) in
        rw (add-zero i)
        (at_eq (arcs_from same steps all i (y ∷ ys)) (arc_of same all i s) e
        (at_left (arcs_here same all i (steps y)) (arcs_from same steps all (suc i) ys) l (arc_of same all i s) here))
    arcs_from_at i (y ∷ ys) (suc k) x l s h m =
        let e : length (arcs_here same all i (steps y)) + (before steps ys k + l) ≡ before steps (y ∷ ys) (suc k) + l =
        omega (arith, before_cons steps y ys k, length_arcs_here i (steps y)) in
        let n : i + suc k ≡ suc i + k = omega arith in
        rw n
        (at_eq (arcs_from same steps all i (y ∷ ys)) (arc_of same all (suc i + k) s) e
        (at_right (arcs_here same all i (steps y)) (arcs_from same steps all (suc i) ys) (before steps ys k + l) (arc_of same all (suc i + k) s)
        (arcs_from_at (suc i) ys k x l s h m)))
