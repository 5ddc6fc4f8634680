-- What applying a string makes can be written where it is not refused, and is never refused by 13; so the lattice, written, is accepted and
-- reads back as itself. Assumes nothing.
use mathlib.Core.Path.{◌≡◌, refl}
use mathlib.Core.Bool.{Bool, true, false, cond}
use mathlib.Core.Logic.{◌↔◌}
use mathlib.Core.List.{List, [], ◌∷◌}
use Prim.Native.Nat.{ℕ, suc}
use native.Mathlib.Omega.{arith}
use lib.Dec.{ltb}
use lib.ListN.{length}
use Rattle.wire.specs.Bytes.{every}
use Rattle.wire.proofs.Bool.{by_test, and-true, true_and}
use Rattle.wire.proofs.Places.{every_get_or}
use Rattle.transducer.specs.Format.{max_states, max_arcs, Transducer, Good, weight_good, weights_good, refusal, decode}
use Rattle.transducer.specs.Encode.{encode}
use Rattle.transducer.specs.Path.{arc, no_arc, final_weight}
use Rattle.transducer.proofs.Good.{good_tests}
use Rattle.transducer.proofs.Labels.{Unbarred}
use Rattle.transducer.proofs.RoundTrip.{refusal_encode, decode_encode}
use Rattle.transducer.specs.Each.{plain}
use Rattle.transducer.specs.Weight.{Weight}
use Rattle.transducer.proofs.Finals.{final_weight_good}
use Rattle.explore.specs.Explore.{Step, built, built_refusal, finals_from}
use Rattle.explore.proofs.Member.{Mem, mem_in}
use Rattle.explore.proofs.Built.{Labelled, every_arc, built_plain, good_built}
use Rattle.lattice.specs.declared.State.{State}
use Rattle.lattice.specs.Apply.{string_good, same_state, step, steps, final_state, applied, first_state}
use Rattle.lattice.specs.Lattice.{lattice}
use Rattle.lattice.proofs.AppliedSteps.{empty_step, symbol_step, OfArc, of_empty, of_symbol, ArcStep, step_move, step_unbarred}
use Rattle.lattice.proofs.SameState.{same_state_decides}
use Rattle.trim.proofs.TrimmedGood.{trimmed_good, trimmed_plain}

-- The final weight of a lattice state.
abbrev pub state_weight : Transducer → State → Weight
state_weight t x = final_weight t.finals x.state

-- Weights: those of the transducer's arcs and finals.

finals_light : {A : Type 0} (final : A → Bool) (weight : A → Weight) (i : ℕ) (xs : List A) → ((x : A) → weight_good (weight x) ≡ true)
    → every (λ f. weight_good f.weight) (finals_from final weight i xs) ≡ true
unfolding every finals_from
finals_light final weight i [] h = refl
finals_light final weight i (x ∷ xs) h =
    by_test (final x) (λ e. rw (e, h x, finals_light final weight (suc i) xs h)) (λ e. rw e (finals_light final weight (suc i) xs h))

step_light : (cs : List ℕ) (t : Transducer) (x : State) (s : Step State ℕ) → every (λ a. weight_good a.weight) t.arcs ≡ true
    → Mem s (steps cs t x) → weight_good s.weight ≡ true
unfolding empty_step symbol_step step arc
step_light cs t x s light m = on r.made
  where
    r : ArcStep cs t x s
    r = step_move cs t x s (mem_in m)

    a : weight_good (arc t r.number).weight ≡ true
    a = every_get_or (λ a. weight_good a.weight) t.arcs r.number no_arc light r.below

    on : OfArc cs t x r.number (arc t r.number) s → weight_good s.weight ≡ true
    on (of_empty e made) = rw made a
    on (of_symbol h within reads made) = rw made a

pub applied_light : (cs : List ℕ) (t : Transducer) → Good t → weights_good (applied cs t).result ≡ true
unfolding applied built weights_good
applied_light cs t g =
    let z : Transducer = (applied cs t).result in
    let w : weights_good t ≡ true = (good_tests t g).weights in
    let two = and-true (every (λ f. weight_good f.weight) t.finals) (every (λ a. weight_good a.weight) t.arcs) w in
    true_and (every (λ f. weight_good f.weight) z.finals) (every (λ a. weight_good a.weight) z.arcs)
    (finals_light (final_state cs t) (state_weight t) 0 (applied cs t).states (λ x. final_weight_good t.finals x.state two.0))
    (every_arc same_state (applied cs t).states (λ a. weight_good a.weight) (steps cs t) 0 (applied cs t).states
    (λ k x s q m. step_light cs t x s two.1 m))

-- 13 is never given: no weight of a lattice is a sum.
pub never_13 : (cs : List ℕ) (t : Transducer) → Good t → built_refusal (applied cs t).result ≡ 13 → ⊥
unfolding built_refusal
never_13 cs t g h = on (ltb max_states z.states) (ltb max_arcs (length z.arcs)) (rw (applied_light cs t g) at h)
  where
    z : Transducer
    z = (applied cs t).result

    on : (a b : Bool) → ◌≡◌ {A = ℕ} (cond a 11 (cond b 12 0)) 13 → ⊥
    on true b e = omega arith
    on false true e = omega arith
    on false false e = omega arith

-- Good

module _ (cs : List ℕ) (t : Transducer) (good : Good t) (string : string_good cs ≡ true) where
  pub steps_labelled : Labelled (steps cs t)
  steps_labelled x s m =
      let r : Unbarred s.input s.output = step_unbarred cs t x s string (good_tests t good).labels (mem_in m) in
      (r.read, r.written)

  applied_plain : plain (applied cs t).result ≡ true
  unfolding applied
  applied_plain = built_plain same_state (steps cs t) (final_state cs t) (state_weight t) (first_state t) steps_labelled

  -- No lattice holds 65,535.
  pub lattice_plain : plain (lattice cs t) ≡ true
  unfolding lattice
  lattice_plain = trimmed_plain (applied cs t).result applied_plain

  pub good_applied : Good (applied cs t).result ↔ (built_refusal (applied cs t).result ≡ 0)
  unfolding applied
  good_applied = good_built same_state (steps cs t) (final_state cs t) (state_weight t) (first_state t) same_state_decides steps_labelled

  module _ (fine : built_refusal (applied cs t).result ≡ 0) where
    pub lattice_good : Good (lattice cs t)
    unfolding lattice
    lattice_good = trimmed_good (applied cs t).result (good_applied.1 fine)

    pub refusal_lattice : refusal (encode (lattice cs t)) ≡ 0
    refusal_lattice = refusal_encode (lattice cs t) lattice_good

    pub decode_lattice : decode (encode (lattice cs t)) ≡ lattice cs t
    decode_lattice = decode_encode (lattice cs t) lattice_good
