-- Finals and arcs of accepted bytes, as a loop loads them: they lie inside, and their states are below the number of states. Assumes nothing.
use mathlib.Core.Path.{◌≡◌, sym, ap, ◌∙◌}
use mathlib.Core.Bool.{true}
use mathlib.Core.List.{List, [], ◌∷◌}
use Prim.Native.Nat.{ℕ, zero, suc, ◌+◌, ◌*◌, ◌≤◌, ◌<◌}
use native.Mathlib.Nat.{not-suc-le-zero, le_of_suc-le-suc}
use native.Mathlib.Omega.{arith}
use lib.Dec.{leb}
use lib.ListN.{length, get_or}
use Rattle.std.proofs.Common.{Fits, w8, w32, to_z, of_z}
use Rattle.std.proofs.Math.Facts.{to_z-of_z}
use Rattle.wire.specs.Bytes.{Bytes, two}
use Rattle.wire.proofs.Bool.{and-true}
use Rattle.transducer.specs.declared.Arc.{Arc}
use Rattle.transducer.specs.declared.Final.{Final}
use Rattle.transducer.specs.Format.{max_states, decode, refusal, sources_stay, head_finals, arc_at, final_at}
use Rattle.transducer.specs.Accepted.{AcceptedAt}
use Rattle.transducer.specs.Path.{arc, no_arc}
use Rattle.transducer.proofs.Good.{final_state_below, sources_stay_good, final_light, arc_light}
use Rattle.transducer.proofs.Weights.{good_fits}
use Rattle.transducer.proofs.Index.{stay_floor}
use Rattle.transducer.proofs.Offsets.{length_accepted, decode_states, length_finals, final_offset, arc_offset, arc_inside, accepted_within, accepted_good}
use Rattle.transducer.proofs.RoundTrip.{accepted_good as accepted-is-good}
use Rattle.transducer.proofs.Runs.{Within, good_within}
use Rattle.reach.proofs.Sized.{slice_bytes}

-- The two states of an arc, and its weight, which 32 bits hold.
pub record ArcEnds (n : ℕ) (a : Arc) : Type 0 where
  pub source_below : a.source < n
  pub target_below : a.target < n
  pub few : n ≤ max_states
  pub weight_back : to_z w32 (of_z w32 a.weight) ≡ a.weight

stay_order : (floor : ℕ) (l : List Arc) (j i : ℕ) → sources_stay floor l ≡ true → j ≤ i → i < length l → (get_or l j no_arc).source ≤ (get_or l i no_arc).source
unfolding sources_stay
stay_order floor [] j i h k m = absurd (not-suc-le-zero m)
stay_order floor (a ∷ l) zero zero h k m = omega arith
stay_order floor (a ∷ l) zero (suc i) h k m =
    stay_floor a.source l i (and-true (leb floor a.source) (sources_stay a.source l) h).1 (le_of_suc-le-suc m)
stay_order floor (a ∷ l) (suc j) zero h k m = absurd (omega arith)
stay_order floor (a ∷ l) (suc j) (suc i) h k m =
    stay_order a.source l j i (and-true (leb floor a.source) (sources_stay a.source l) h).1 (le_of_suc-le-suc k) (le_of_suc-le-suc m)

module _ (bs : List ℕ) (bytes : Bytes bs) (ok : refusal bs ≡ 0) where
  pub within_states : Within (decode bs)
  within_states = good_within (decode bs) (accepted-is-good bs bytes ok)

  pub few_states : (decode bs).states ≤ max_states
  few_states = omega (arith, decode_states bs bytes ok, (accepted_within bs bytes ok).states)

  pub arc_ends : (i : ℕ) (a : Arc) → i < length (decode bs).arcs → a ≡ arc (decode bs) i → ArcEnds (decode bs).states a
  unfolding arc
  arc_ends i a h e =
      rw e (record {
        source_below = within_states.leaves i h;
        target_below = within_states.arrives i h;
        few = few_states;
        weight_back = to_z-of_z (good_fits _ (arc_light (decode bs) (accepted_good bs bytes ok) i no_arc h));
      })

  pub sources_order : (j i : ℕ) → j ≤ i → i < length (decode bs).arcs → (arc (decode bs) j).source ≤ (arc (decode bs) i).source
  unfolding arc
  sources_order j i l h = stay_order 0 (decode bs).arcs j i (sources_stay_good (decode bs) (accepted_good bs bytes ok)) l h

  -- A final that is loaded in a turn of a loop over the finals.
  pub final_inside : {place : ℕ} (i : ℕ) → i < head_finals bs → place ≡ 12 + 10 * i → place + 10 ≤ length bs
  final_inside i h e = omega (arith, length_accepted bs bytes ok)

  pub final_loaded : {place : ℕ} (i : ℕ) (f : Final) → i < head_finals bs → place ≡ 12 + 10 * i → f ≡ final_at bs place → get_or (decode bs).finals i f ≡ f
  final_loaded i f h there e = final_offset bs bytes ok i f (omega (arith, length_finals bs bytes ok)) ∙ sym (e ∙ ap (final_at bs) there)

  pub final_state : {place : ℕ} (i : ℕ) (f : Final) → i < head_finals bs → place ≡ 12 + 10 * i → f ≡ final_at bs place
      → (f.state < (decode bs).states) × (f.state < max_states)
  final_state i f h there e =
      let below = final_state_below (decode bs) (accepted_good bs bytes ok) i f (omega (arith, length_finals bs bytes ok)) in
      let here = ap (λ (g : Final). g.state) (final_loaded i f h there e) in
      (omega (arith, below, here), omega (arith, below, here, decode_states bs bytes ok, (accepted_within bs bytes ok).states))

  -- 32 bits hold its weight.
  pub final_back : {place : ℕ} (i : ℕ) (f : Final) → i < head_finals bs → place ≡ 12 + 10 * i → f ≡ final_at bs place → to_z w32 (of_z w32 f.weight) ≡ f.weight
  final_back i f h there e =
      let light = final_light (decode bs) (accepted_good bs bytes ok) i f (omega (arith, length_finals bs bytes ok)) in
      let here = ap (λ (g : Final). g.weight) (final_loaded i f h there e) in
      to_z-of_z (good_fits f.weight (rw here at light))

-- The record of an arc lies within the bytes, and the two states in it are those of the arc.
pub record ArcRead (bs : List ℕ) (first i : ℕ) : Type 0 where
  pub inside : first + 16 * i + 16 ≤ length bs
  pub source_is : two bs (first + 16 * i + 4) ≡ (arc (decode bs) i).source
  pub target_is : two bs (first + 16 * i + 10) ≡ (arc (decode bs) i).target
  pub source_below : (arc (decode bs) i).source < (decode bs).states
  pub target_below : (arc (decode bs) i).target < (decode bs).states

pub arc_read : (bs : List ℕ) (first i : ℕ) → ((k : ℕ) → Fits w8 (get_or bs k 0)) → AcceptedAt bs first → i < length (decode bs).arcs → ArcRead bs first i
unfolding arc_at
arc_read bs first i fit opened h =
    let bytes : Bytes bs = slice_bytes bs fit in
    let within : Within (decode bs) = within_states bs bytes opened.accepted in
    let found : arc (decode bs) i ≡ arc_at bs (first + 16 * i) =
    rw (opened.first_is) (arc_offset bs bytes opened.accepted i h) in
    record {
      inside = omega (arith, opened.first_is, arc_inside bs bytes opened.accepted i h);
      source_is = sym (ap (λ (a : Arc). a.source) found);
      target_is = sym (ap (λ (a : Arc). a.target) found);
      source_below = within.leaves i h;
      target_below = within.arrives i h;
    }

-- What a loop knows of an arc that it reads.
pub opened_ends : {bs : List ℕ} {first : ℕ} → ((k : ℕ) → Fits w8 (get_or bs k 0)) → AcceptedAt bs first → (i : ℕ) (a : Arc)
    → i < length (decode bs).arcs → a ≡ arc (decode bs) i → ArcEnds (decode bs).states a
opened_ends {bs} fit opened i a h e = arc_ends bs (slice_bytes bs fit) opened.accepted i a h e

-- What a loop knows of a final that it reads.
pub record FinalRead (bs : List ℕ) (i : ℕ) (f : Final) : Type 0 where
  pub below : i < length (decode bs).finals
  pub here : get_or (decode bs).finals i f ≡ f
  pub state_below : f.state < (decode bs).states
  pub few : (decode bs).states ≤ max_states
  pub weight_back : to_z w32 (of_z w32 f.weight) ≡ f.weight

pub final_read : {bs : List ℕ} {place : ℕ} → ((k : ℕ) → Fits w8 (get_or bs k 0)) → refusal bs ≡ 0 → (i : ℕ) (f : Final) → i < head_finals bs
    → place ≡ 12 + 10 * i → f ≡ final_at bs place → FinalRead bs i f
final_read {bs} fit ok i f h there e =
    let bytes : Bytes bs = slice_bytes bs fit in
    record {
      below = omega (arith, length_finals bs bytes ok);
      here = final_loaded bs bytes ok i f h there e;
      state_below = (final_state bs bytes ok i f h there e).0;
      few = few_states bs bytes ok;
      weight_back = final_back bs bytes ok i f h there e;
    }
