-- What is known of accepted bytes and their first-arc index: states, arcs and their ranges. Assumes nothing.
use mathlib.Core.Path.{◌≡◌, refl, ap, ◌∙◌}
use mathlib.Core.Bool.{Bool, true, false, not, cond}
use mathlib.Core.List.{List}
use Prim.Native.Nat.{ℕ, ◌+◌, ◌≤◌, ◌<◌}
use native.Mathlib.Omega.{arith}
use lib.Dec.{eqb}
use lib.ListN.{length, get_or}
use Rattle.std.proofs.Common.{Fits, w8}
use Rattle.transducer.specs.Format.{Transducer, decode, refusal}
use Rattle.transducer.specs.Path.{arc, is_final}
use Rattle.transducer.specs.Accepted.{arcs_below, Indexed, FinalsByState}
use Rattle.transducer.proofs.Finals.{final_code_some}
use Rattle.transducer.proofs.Good.{Content}
use Rattle.transducer.proofs.Index.{arcs_below_length, arcs_below_mono, arcs_of_state, state_of_arcs, arcs_below_states}
pub use Rattle.reach.proofs.Sized.{Sized, sized}
use Rattle.transducer.specs.declared.preparing.Shape.{Shape}
use Rattle.transducer.specs.Prepare.{Prepared}
use Rattle.paths.specs.Sweep.{Ready}
use Rattle.paths.specs.Tally.{own}

-- Accepted bytes that were read: few states and arcs, and the start among the states.
pub sized_read : (bs : List ℕ) → ((i : ℕ) → Fits w8 (get_or bs i 0)) → refusal bs ≡ 0 → Sized (decode bs)
sized_read bs h ok = sized bs (λ i. omega (arith, h i)) ok

pub few_states : (bs : List ℕ) → ((i : ℕ) → Fits w8 (get_or bs i 0)) → refusal bs ≡ 0 → (decode bs).states ≤ 1024
few_states bs h ok = (sized_read bs h ok).states

pub few_arcs : (bs : List ℕ) → ((i : ℕ) → Fits w8 (get_or bs i 0)) → refusal bs ≡ 0 → length (decode bs).arcs ≤ 3072
few_arcs bs h ok = (sized_read bs h ok).arcs

pub start_low : (bs : List ℕ) → ((i : ℕ) → Fits w8 (get_or bs i 0)) → refusal bs ≡ 0 → (decode bs).start < 1024
start_low bs h ok = let z = sized_read bs h ok in omega (arith, z.within.starts, z.states)

-- What is prepared has where the arcs begin, the states and the index.
pub prepared_ready : {bs index codes : List ℕ} {shape : Shape} → Prepared bs shape index codes → Ready bs shape.first shape.states index
prepared_ready p = record { opened = p.shaped.opened; states_are = p.shaped.states_are; indexed = p.indexed }

-- The arcs of a state: from one entry of the index to below the next.
pub record Range (t : Transducer) (s from to : ℕ) : Type 0 where
  pub from_is : from ≡ arcs_below s t.arcs
  pub to_is : to ≡ arcs_below (s + 1) t.arcs
  pub order : from ≤ to
  pub inside : to ≤ length t.arcs

pub range : (t : Transducer) (index : List ℕ) (s from to : ℕ) → Indexed t index → s < t.states → from ≡ get_or index s 0 → to ≡ get_or index (s + 1) 0
    → Range t s from to
range t index s from to x h e f =
    let a : from ≡ arcs_below s t.arcs = e ∙ x.at_state s (omega arith) in
    let b : to ≡ arcs_below (s + 1) t.arcs = f ∙ x.at_state (s + 1) (omega arith) in
    record {
      from_is = a;
      to_is = b;
      order = omega (arith, a, b, arcs_below_mono s (s + 1) t.arcs (omega arith));
      inside = omega (arith, b, arcs_below_length (s + 1) t.arcs);
    }

-- Behind the last state stands the number of arcs.
pub index_last : (t : Transducer) (index : List ℕ) (n : ℕ) → Sized t → Indexed t index → n ≡ t.states → get_or index n 0 ≡ length t.arcs
index_last t index n z x e = x.at_state n (omega arith) ∙ (ap (λ (s : ℕ). arcs_below s t.arcs) e ∙ arcs_below_states t z.content)

-- An arc of the range leaves the state; others do not.
module _ (t : Transducer) (good : Content t) (s from to : ℕ) (r : Range t s from to) where
  pub range_leaves : (i : ℕ) → from ≤ i → i < to → (arc t i).source ≡ s
  range_leaves i a b =
      state_of_arcs t i s good (omega (arith, r.inside)) (omega (arith, r.from_is)) (omega (arith, r.to_is))

  pub before_range : (i : ℕ) → i < from → (arc t i).source ≡ s → ⊥
  before_range i a e =
      omega (arith, (arcs_of_state t i s good (omega (arith, r.inside, r.order)) e).0, r.from_is)

  pub behind_range : (i : ℕ) → to ≤ i → i < length t.arcs → (arc t i).source ≡ s → ⊥
  behind_range i a l e = omega (arith, (arcs_of_state t i s good l e).1, r.to_is)

-- A final code is 0 where the state is not final.
pub code_final : (t : Transducer) (codes : List ℕ) (s code : ℕ) → FinalsByState t codes → s < 1024 → code ≡ get_or codes s 0
    → eqb code 0 ≡ not (is_final t.finals s)
code_final t codes s code f h e = rw (e, f.at_state s h) (final_code_some t.finals s)

-- The count of the empty path by a final code.
pub own_code : (t : Transducer) (codes : List ℕ) (s code : ℕ) → FinalsByState t codes → s < 1024 → code ≡ get_or codes s 0 → cond (eqb code 0) 0 1 ≡ own t s
unfolding own
own_code t codes s code f h e = rw (code_final t codes s code f h e) (on (is_final t.finals s))
  where
    on : (b : Bool) → ◌≡◌ {A = ℕ} (cond (not b) 0 1) (cond b 1 0)
    on true = refl
    on false = refl
