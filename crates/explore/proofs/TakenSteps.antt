-- Laws of `taken`, `all_taken` and `served_from`: what is built only grows, and one state is served after the other. Assumes nothing.
use mathlib.Core.Path.{◌≡◌, refl, sym, ap, ◌∙◌}
use mathlib.Core.Bool.{Bool, true, false, ◌||◌, not}
use mathlib.Core.List.{List, [], ◌∷◌, ◌++◌, map}
use Prim.Native.Nat.{ℕ, zero, suc, ◌+◌, ◌*◌, ◌-◌, ◌≤◌, ◌<◌}
use native.Mathlib.Nat.{add-zero, mul-suc}
use native.Mathlib.Omega.{arith}
use lib.Dec.{leb, eqb}
use lib.ListN.{length, get_or, length-append}
use borrow.Author.Tests.{le-leb, lt-leb, eq-eqb}
use Rattle.wire.specs.Bytes.{every}
use Rattle.wire.proofs.Bool.{by_test}
use Rattle.transducer.specs.declared.Arc.{Arc}
use Rattle.transducer.specs.Format.{max_states, weight_good}
use Rattle.explore.specs.Explore.{there, place, met}
use Rattle.explore.specs.Walk.{Keyed, Sofar, with_key, taken, all_taken, state_served, served_from, begun, explored}
use Rattle.wire.proofs.Places.{not_every_snoc}
use Rattle.explore.proofs.Member.{Mem, mem_here, mem_later, not_there_place, place_right}
use Rattle.explore.proofs.Meeting.{Grows, grows_same, grows_trans, grows_length, met_grows}

-- One step

-- The arc that a step from the state of number `source` gives, where its target has the number `target`.
abbrev pub arc_of_keyed : (source : ℕ) → Keyed → (target : ℕ) → Arc
arc_of_keyed source s target = record { source = source; input = s.input; output = s.output; target = target; weight = s.weight }

-- A new key gets the next number.
pub place_snoc : (k : ℕ) (ks : List ℕ) → there eqb k ks ≡ false → place eqb k (ks ++ (k ∷ [])) ≡ length ks
unfolding place
place_snoc k ks new = place_right eqb k ks (k ∷ []) new ∙ (rw (eq-eqb k k refl) (add-zero (length ks)))

-- A step to a state met before, and a step to a new one.
pub taken_there : (source : ℕ) (s : Keyed) (b : Sofar) → there eqb s.target b.keys ≡ true
    → taken source s b
    ≡ record {
      keys = b.keys;
      arcs = b.arcs ++ (arc_of_keyed source s (place eqb s.target b.keys) ∷ []);
      origins = b.origins ++ s.origins;
      overflow = b.overflow || not (weight_good s.weight);
    }
unfolding taken with_key
taken_there source s b h = rw h

pub taken_new : (source : ℕ) (s : Keyed) (b : Sofar) → there eqb s.target b.keys ≡ false
    → taken source s b
    ≡ record {
      keys = b.keys ++ (s.target ∷ []);
      arcs = b.arcs ++ (arc_of_keyed source s (length b.keys) ∷ []);
      origins = b.origins ++ s.origins;
      overflow = b.overflow || not (weight_good s.weight);
    }
unfolding taken with_key
taken_new source s b h = rw (h, place_snoc s.target b.keys h)

-- A key has the same number before and after it is stored.
pub place_with : (key : ℕ) (xs : List ℕ) → place eqb key (with_key key xs) ≡ place eqb key xs
unfolding with_key
place_with key xs =
    by_test (there eqb key xs) (λ e. rw e) (λ e. rw e (place_snoc key xs e ∙ sym (not_there_place eqb key xs e)))

-- A step to a state whose number was looked up before it is stored.
pub taken_with : (source number : ℕ) (s : Keyed) (b : Sofar) → number ≡ place eqb s.target b.keys
    → taken source s b
    ≡ record {
      keys = with_key s.target b.keys;
      arcs = b.arcs ++ (arc_of_keyed source s number ∷ []);
      origins = b.origins ++ s.origins;
      overflow = b.overflow || not (weight_good s.weight);
    }
unfolding taken
taken_with source number s b is =
    let e : place eqb s.target (with_key s.target b.keys) ≡ number = place_with s.target b.keys ∙ sym is in
    rw e

-- Several steps

pub all_taken_append : (source : ℕ) (ss ts : List Keyed) (b : Sofar) → all_taken source (ss ++ ts) b ≡ all_taken source ts (all_taken source ss b)
unfolding all_taken
all_taken_append source [] ts b = refl
all_taken_append source (s ∷ ss) ts b = all_taken_append source ss ts (taken source s b)

-- The keys are those met.
pub taken_keys : (source : ℕ) (ss : List Keyed) (b : Sofar) → (all_taken source ss b).keys ≡ met eqb (map (λ s. s.target) ss) b.keys
unfolding all_taken taken with_key met
taken_keys source [] b = refl
taken_keys source (s ∷ ss) b = taken_keys source ss (taken source s b)

pub keys_grow : (source : ℕ) (ss : List Keyed) (b : Sofar) → Grows b.keys (all_taken source ss b).keys
keys_grow source ss b = rw (taken_keys source ss b) (met_grows eqb (map (λ s. s.target) ss) b.keys)

pub keys_length : (source : ℕ) (ss : List Keyed) (b : Sofar) → length b.keys ≤ length (all_taken source ss b).keys
keys_length source ss b = grows_length (keys_grow source ss b)

pub keys_over : (source : ℕ) (ss : List Keyed) (b : Sofar) → max_states < length b.keys → max_states < length (all_taken source ss b).keys
keys_over source ss b over = omega (arith, keys_length source ss b)

-- More than 1,024 keys once some of the steps are taken: more than 1,024 once all are.
pub part_over : (source : ℕ) (ss ts : List Keyed) (b : Sofar) → max_states < length (all_taken source ss b).keys
    → max_states < length (all_taken source (ss ++ ts) b).keys
part_over source ss ts b over = rw (all_taken_append source ss ts b) (keys_over source ts (all_taken source ss b) over)

-- A new key where 1,024 stand already.
pub new_over : (source : ℕ) (s : Keyed) (ss : List Keyed) (b : Sofar) → max_states ≤ length b.keys → there eqb s.target b.keys ≡ false
    → max_states < length (all_taken source (s ∷ ss) b).keys
unfolding all_taken
new_over source s ss b full new =
    keys_over source ss (taken source s b) (rw (taken_new source s b new, length-append b.keys (s.target ∷ [])) (omega arith))

-- Each step has `width` origins.
abbrev pub Wide : (width : ℕ) → List Keyed → Type 0
Wide width ss = (s : Keyed) → Mem s ss → length s.origins ≡ width

pub length_origins : (width source : ℕ) (ss : List Keyed) (b : Sofar) → Wide width ss
    → length (all_taken source ss b).origins ≡ length b.origins + width * length ss
unfolding all_taken taken
length_origins width source [] b wide = omega arith
length_origins width source (s ∷ ss) b wide =
    length_origins width source ss (taken source s b) (λ r m. wide r (mem_later s m))
    ∙ (rw (length-append b.origins s.origins, wide s (mem_here s ss), mul-suc width (length ss)) (omega arith))

-- A weight is out of range exactly where that of some arc is.

abbrev pub DearRight : Sofar → Type 0
DearRight b = b.overflow ≡ not (every (λ a. weight_good a.weight) b.arcs)

pub taken_dear : (source : ℕ) (ss : List Keyed) (b : Sofar) → DearRight b → DearRight (all_taken source ss b)
unfolding all_taken taken
taken_dear source [] b h = h
taken_dear source (s ∷ ss) b h = taken_dear source ss (taken source s b) one
  where
    a : Arc
    a = arc_of_keyed source s (place eqb s.target (taken source s b).keys)

    one : b.overflow || not (weight_good s.weight) ≡ not (every (λ a. weight_good a.weight) (b.arcs ++ (a ∷ [])))
    one =
        ap (λ (d : Bool). d || not (weight_good s.weight)) h ∙ not_every_snoc (λ a. weight_good a.weight) b.arcs a

-- The beginning

pub begun_dear : (first : ℕ) → DearRight (begun first)
unfolding begun every
begun_dear first = refl

-- States served in turn

module _ (next : ℕ → List Keyed) where
  pub served_from_step : (fuel i : ℕ) (b : Sofar) → i < length b.keys
      → served_from next (suc fuel) i b ≡ served_from next fuel (suc i) (state_served next i b)
  unfolding served_from
  served_from_step fuel i b l = rw (lt-leb (length b.keys) i l)

  pub served_from_rest : (fuel i : ℕ) (b : Sofar) → length b.keys ≤ i → served_from next fuel i b ≡ b
  unfolding served_from
  served_from_rest zero i b l = refl
  served_from_rest (suc fuel) i b l = rw (le-leb (length b.keys) i l)

  -- What each state served keeps, all of them keep.
  pub served_keeps : (P : Sofar → Type 0) → ((i : ℕ) (b : Sofar) → P b → P (state_served next i b)) → (fuel i : ℕ) (b : Sofar) → P b
      → P (served_from next fuel i b)
  unfolding served_from
  served_keeps P one zero i b p = p
  served_keeps P one (suc fuel) i b p =
      by_test (leb (length b.keys) i) (λ e. rw e p) (λ e. rw e (served_keeps P one fuel (suc i) (state_served next i b) (one i b p)))

  -- What is there in the end, where the states of the numbers below i are served and b is built so far.
  unfoldable pub served_on : (i : ℕ) → Sofar → Sofar
  served_on i b = served_from next (suc max_states - i) i b

  pub explored_on : (first : ℕ) → explored next first ≡ served_on 0 (begun first)
  unfolding explored served_on
  explored_on first = refl

  pub served_on_step : (i : ℕ) (b : Sofar) → i < length b.keys → i ≤ max_states → served_on i b ≡ served_on (suc i) (state_served next i b)
  unfolding served_on
  served_on_step i b l small =
      let e : suc max_states - i ≡ suc (suc max_states - suc i) = omega arith in
      rw e (served_from_step (suc max_states - suc i) i b l)

  pub served_on_rest : (i : ℕ) (b : Sofar) → length b.keys ≤ i → served_on i b ≡ b
  unfolding served_on
  served_on_rest i b l = served_from_rest (suc max_states - i) i b l

  pub served_on_grows : (i : ℕ) (b : Sofar) → Grows b.keys (served_on i b).keys
  unfolding served_on state_served
  served_on_grows i b =
      served_keeps (λ c. Grows b.keys c.keys)
      (λ k c g. grows_trans g (keys_grow k (next (get_or c.keys k 0)) c)) (suc max_states - i) i b (grows_same b.keys)

  pub served_on_dear : (i : ℕ) (b : Sofar) → DearRight b → DearRight (served_on i b)
  unfolding served_on state_served
  served_on_dear i b right =
      served_keeps (λ c. DearRight c) (λ k c r. taken_dear k (next (get_or c.keys k 0)) c r) (suc max_states - i) i b right

  -- More than 1,024 keys now, or once some steps of the state served are taken: more than 1,024 in the end.
  pub served_on_over : (i : ℕ) (b : Sofar) → max_states < length b.keys → max_states < length (served_on i b).keys
  served_on_over i b over = omega (arith, grows_length (served_on_grows i b))

  pub served_on_state : (i : ℕ) (b : Sofar) → i < length b.keys → i ≤ max_states → max_states < length (state_served next i b).keys
      → max_states < length (served_on i b).keys
  served_on_state i b l small over = rw (served_on_step i b l small) (served_on_over (suc i) (state_served next i b) over)
