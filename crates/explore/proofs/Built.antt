-- What is built can be written exactly where none of 11, 12 and 13 refuses it. Assumes nothing.
use mathlib.Core.Path.{◌≡◌, refl}
use mathlib.Core.Bool.{Bool, true, ◌&&◌, cond}
use mathlib.Core.Logic.{◌↔◌}
use mathlib.Core.List.{List, [], ◌∷◌, ◌++◌}
use Prim.Native.Nat.{ℕ, suc, ◌+◌, ◌≤◌, ◌<◌}
use native.Mathlib.Nat.{add-zero}
use native.Mathlib.Omega.{arith}
use lib.Dec.{ltb, leb}
use lib.ListN.{length, get_or}
use borrow.Author.Tests.{ltb-true, ltb-false, lt-ltb, le-ltb, leb-true, le-leb}
use Rattle.transducer.specs.Format.{max_arcs, max_states}
use Rattle.wire.specs.Bytes.{every}
use Rattle.wire.proofs.Places.{every_append}
use Rattle.wire.proofs.Bool.{and-true, true_and, by_test, passed_last, not_raised}
use Rattle.transducer.specs.declared.Arc.{Arc}
use Rattle.transducer.specs.Format.{
  Transducer,
  any,
  head_good,
  states_good,
  sources_stay,
  order_good,
  labels_good,
  all_labels_good,
  weights_good,
  first_of,
  content_refusal,
  Good,
}
use Rattle.transducer.specs.Each.{plain}
use Rattle.transducer.proofs.Good.{good_tests}
use Rattle.transducer.proofs.RoundTrip.{good_range}
use Rattle.transducer.proofs.Labels.{unbarred_good}
use Rattle.transducer.specs.Weight.{Weight}
use Rattle.explore.specs.Explore.{Step, Decides, Built, targets, built, built_refusal, place, arcs_here, arcs_from}
use Rattle.explore.proofs.Member.{At, Mem, at_length, at_get_or, mem_here, mem_later, mem_there, place_length}
use Rattle.explore.proofs.Numbering.{More, numbered_more}
use Rattle.explore.proofs.Finals.{finals_from_rise, finals_from_states}
use Rattle.explore.proofs.Arcs.{arc_of}
use Rattle.explore.proofs.OneArc.{step_target}
use Rattle.explore.proofs.Parts.{built_start, built_states, built_some, length_finals}

-- No step of any state bears 65,535.
abbrev pub Labelled : {A O : Type 0} → (steps : A → List (Step A O)) → Type 0
Labelled {A} {O} steps = (x : A) (s : Step A O) → Mem s (steps x) → (s.input < any) × (s.output < any)

sources_lower : (floor i : ℕ) (as' : List Arc) → floor ≤ i → sources_stay i as' ≡ true → sources_stay floor as' ≡ true
unfolding sources_stay
sources_lower floor i [] l h = refl
sources_lower floor i (a ∷ as') l h =
    let e = and-true (leb i a.source) (sources_stay a.source as') h in
    rw (le-leb floor a.source (omega (arith, leb-true i a.source e.0)), e.1)

module _ {A O : Type 0} (same : A → A → Bool) (all : List A) where
  -- A test that holds of the arc of each step holds of each arc.
  pub every_arc_here : (t : Arc → Bool) (i : ℕ) (ss : List (Step A O)) → ((s : Step A O) → Mem s ss → t (arc_of same all i s) ≡ true)
      → every t (arcs_here same all i ss) ≡ true
  unfolding every arcs_here
  every_arc_here t i [] h = refl
  every_arc_here t i (s ∷ ss) h = rw (h s (mem_here s ss), every_arc_here t i ss (λ u m. h u (mem_later s m)))

  pub every_arc : (t : Arc → Bool) (steps : A → List (Step A O)) (i : ℕ) (xs : List A)
      → ((k : ℕ) (x : A) (s : Step A O) → At xs k x → Mem s (steps x) → t (arc_of same all (i + k) s) ≡ true)
      → every t (arcs_from same steps all i xs) ≡ true
  unfolding every arcs_from
  every_arc t steps i [] h = refl
  every_arc t steps i (x ∷ xs) h =
      rw (
        every_append t (arcs_here same all i (steps x)) (arcs_from same steps all (suc i) xs),
        every_arc_here t i (steps x) (λ s m. rw (add-zero i) at (h 0 x s refl m)),
        every_arc t steps (suc i) xs (λ k y s q m. let e : i + suc k ≡ suc i + k = omega arith in rw e at (h (suc k) y s q m)),
      )

  sources_here : (floor i : ℕ) (ss : List (Step A O)) (as' : List Arc) → floor ≤ i → sources_stay i as' ≡ true
      → sources_stay floor (arcs_here same all i ss ++ as') ≡ true
  unfolding sources_stay arcs_here
  sources_here floor i [] as' l h = sources_lower floor i as' l h
  sources_here floor i (s ∷ ss) as' l h = rw (le-leb floor i l, sources_here i i ss as' (omega arith) h)

  pub sources_from : (steps : A → List (Step A O)) (floor i : ℕ) (xs : List A) → floor ≤ i → sources_stay floor (arcs_from same steps all i xs) ≡ true
  unfolding sources_stay arcs_from
  sources_from steps floor i [] l = refl
  sources_from steps floor i (x ∷ xs) l =
      sources_here floor i (steps x) (arcs_from same steps all (suc i) xs) l (sources_from steps i (suc i) xs (omega arith))

-- What it says that none of 11, 12 and 13 is given.
pub record Unrefused (t : Transducer) : Type 0 where
  pub few_states : t.states ≤ max_states
  pub few_arcs : length t.arcs ≤ max_arcs
  pub light : weights_good t ≡ true

pub unrefused : (t : Transducer) → built_refusal t ≡ 0 → Unrefused t
unfolding built_refusal
unrefused t h =
    let states = not_raised (ltb max_states t.states) 10 (cond (ltb max_arcs (length t.arcs)) 12 (cond (weights_good t) 0 13)) h in
    let arcs = not_raised (ltb max_arcs (length t.arcs)) 11 (cond (weights_good t) 0 13) states.1 in
    record {
      few_states = ltb-false max_states t.states states.0;
      few_arcs = ltb-false max_arcs (length t.arcs) arcs.0;
      light = passed_last (weights_good t) 12 arcs.1;
    }

pub not_refused : (t : Transducer) → Unrefused t → built_refusal t ≡ 0
unfolding built_refusal
not_refused t u = rw (le-ltb max_states t.states u.few_states, le-ltb max_arcs (length t.arcs) u.few_arcs, u.light)

pub over_11 : (t : Transducer) → (built_refusal t ≡ 11) ↔ (max_states < t.states)
unfolding built_refusal
over_11 t = (
  λ h. by_test (ltb max_states t.states) (λ e. ltb-true max_states t.states e) (λ e. absurd (other (rw e at h))),
  λ l. rw (lt-ltb max_states t.states l),
)
  where
    other : ◌≡◌ {A = ℕ} (cond (ltb max_arcs (length t.arcs)) 12 (cond (weights_good t) 0 13)) 11 → ⊥
    other h =
        by_test (ltb max_arcs (length t.arcs)) (λ e. let z : ◌≡◌ {A = ℕ} 12 11 = rw e at h in omega arith)
        (λ e. by_test (weights_good t) (λ w. let z : ◌≡◌ {A = ℕ} 0 11 = rw (e, w) at h in omega arith)
        (λ w. let z : ◌≡◌ {A = ℕ} 13 11 = rw (e, w) at h in omega arith))

pub good_unrefused : (t : Transducer) → Good t → Unrefused t
good_unrefused t g = let r = good_range t g in record { few_states = r.states; few_arcs = r.arcs; light = (good_tests t g).weights }

module _ {A O : Type 0} (same : A → A → Bool) (steps : A → List (Step A O)) (final : A → Bool) (weight : A → Weight) (first : A) where
  abbrev b : Built A O
  b = built same steps final weight first

  pub built_order : order_good b.result ≡ true
  unfolding built order_good
  built_order = rw (finals_from_rise final weight 0 0 b.states (omega arith), sources_from same b.states steps 0 0 b.states (omega arith))

  pub built_plain : Labelled steps → plain b.result ≡ true
  unfolding built plain
  built_plain h = every_arc same b.states (λ a. ltb a.input any && ltb a.output any) steps 0 b.states one
    where
      one : (k : ℕ) (x : A) (s : Step A O) → At b.states k x → Mem s (steps x) → ltb s.input any && ltb s.output any ≡ true
      one k x s q m = rw (lt-ltb s.input any (h x s m).0, lt-ltb s.output any (h x s m).1)

  pub built_labels : Labelled steps → all_labels_good b.result ≡ true
  unfolding built all_labels_good
  built_labels h =
      every_arc same b.states (λ a. labels_good a.input a.output) steps 0 b.states
      (λ k x s q m. unbarred_good s.input s.output (record { read = (h x s m).0; written = (h x s m).1 }))

  module _ (right : Decides same) where
    pub built_states_good : length b.states ≤ max_states → states_good b.result ≡ true
    unfolding built states_good targets
    built_states_good few =
        true_and (every (λ f. ltb f.state n) b.result.finals) (every (λ a. ltb a.source n && ltb a.target n) b.result.arcs)
        (finals_from_states final weight n 0 b.states (omega arith))
        (every_arc same b.states (λ a. ltb a.source n && ltb a.target n) steps 0 b.states one)
      where
        n : ℕ
        n = length b.states

        one : (k : ℕ) (x : A) (s : Step A O) → At b.states k x → Mem s (steps x)
            → ltb (0 + k) n && ltb (place same s.target b.states) n ≡ true
        one k x s q m =
            let l : k < n = at_length b.states k x q in
            let e : get_or b.states k first ≡ x = at_get_or b.states k x first q in
            let known : Mem s.target b.states =
            step_target same steps final weight first right few k m.number s l (rw e m.stands) in
            let inside : place same s.target b.states < n = place_length same s.target b.states (mem_there right known) in
            rw (lt-ltb (0 + k) n (omega arith), lt-ltb (place same s.target b.states) n inside)

    pub built_good : Labelled steps → built_refusal b.result ≡ 0 → Good b.result
    unfolding head_good content_refusal first_of
    built_good labelled h =
        let u : Unrefused b.result = unrefused b.result h in
        let n : b.result.states ≡ length b.states = built_states same steps final weight first in
        let few : length b.states ≤ max_states = omega (arith, u.few_states) in
        let some : 1 ≤ length b.states = built_some same steps final weight first in
        let finals : length b.result.finals ≤ length b.states = length_finals same steps final weight first in
        let start : b.result.start ≡ 0 = built_start same steps final weight first in
        record {
          head =
              rw (
                le-leb 1 b.result.states (omega arith),
                le-leb b.result.states max_states u.few_states,
                le-leb (length b.result.arcs) max_arcs u.few_arcs,
                le-leb (length b.result.finals) b.result.states (omega arith),
                lt-ltb b.result.start b.result.states (omega arith),
              );
          content = rw (built_states_good few, built_order, built_labels labelled, u.light);
        }

    pub unrefused_few : built_refusal b.result ≡ 0 → length b.states ≤ max_states
    unrefused_few h = omega (arith, (unrefused b.result h).few_states, built_states same steps final weight first)

    -- What is built is good exactly where it is not refused.
    pub good_built : Labelled steps → Good b.result ↔ (built_refusal b.result ≡ 0)
    good_built labelled = (λ g. not_refused b.result (good_unrefused b.result g), built_good labelled)

    -- Refusal 11 is given exactly where more than 1,024 states are reached.
    pub refused_11 : (built_refusal b.result ≡ 11) ↔ More same (λ x. targets (steps x)) first
    unfolding built
    refused_11 =
        let more = numbered_more right (λ x. targets (steps x)) first in
        (λ h. more.0 ((over_11 b.result).0 h), λ m. (over_11 b.result).1 (more.1 m))
