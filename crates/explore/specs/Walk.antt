-- The walk from a first state by keys: states stand as numbers, and arcs as they are written, with their origins; over any function that
-- gives the steps of a key. Assumes nothing: these are definitions.
use Rattle.std.specs.Prelude.{◌≡◌, Bool, false, ◌||◌, not, cond, Result, is_ok, IsOkUnless, List, [], ◌∷◌, ◌++◌, ℕ, zero, suc, ◌+◌, ◌*◌, ◌≤◌, ◌<◌, min, ltb, leb, eqb, length, get_or, take}
use Rattle.std.proofs.lemmas.List.Edits.{sets}
use Rattle.wire.specs.Bytes.{every, filled}
use Rattle.transducer.specs.declared.Arc.{Arc}
use Rattle.transducer.specs.declared.Final.{Final}
use Rattle.transducer.specs.Answer.{Written, Refusal}
use Rattle.transducer.specs.Format.{max_states, max_arcs, head_bytes, arc_bytes, weight_good}
use Rattle.transducer.specs.Encode.{final_records, arc_records}
use Rattle.transducer.specs.Weight.{Weight}
use Rattle.explore.specs.declared.Walk.{Walk}
use Rattle.explore.specs.Explore.{Step, there, place}
use Rattle.explore.specs.Chain.{Chained}

-- A step by keys: the key of the state where it leads, its labels and weight, and the numbers that say where it comes from.
pub record Keyed : Type 0 where
  pub target : ℕ
  pub input : ℕ
  pub output : ℕ
  pub weight : Weight
  pub origins : List ℕ

-- A step between states as a step by keys.
unfoldable pub keyed : {A O : Type 0} → (pack : A → ℕ) → (os : O → List ℕ) → Step A O → Keyed
keyed pack os s =
    record { target = pack s.target; input = s.input; output = s.output; weight = s.weight; origins = os s.origin }

-- The origins of some steps, one behind the other.
unfoldable pub all_origins : {A O : Type 0} → (os : O → List ℕ) → List (Step A O) → List ℕ
all_origins os [] = []
all_origins os (s ∷ ss) = os s.origin ++ all_origins os ss

-- What has been built so far: the keys of the states met, the arcs, their origins, and whether a weight is out of range.
pub record Sofar : Type 0 where
  pub keys : List ℕ
  pub arcs : List Arc
  pub origins : List ℕ
  pub overflow : Bool

-- The keys with one more, where it is new.
unfoldable pub with_key : (key : ℕ) → List ℕ → List ℕ
with_key key keys = cond (there eqb key keys) keys (keys ++ (key ∷ []))

-- One more step from a state of number `source`.
unfoldable pub taken : (source : ℕ) → Keyed → Sofar → Sofar
taken source s b =
    let met = with_key s.target b.keys in
    record {
      keys = met;
      arcs =
          b.arcs
          ++ (record { source = source; input = s.input; output = s.output; target = place eqb s.target met; weight = s.weight } ∷ []);
      origins = b.origins ++ s.origins;
      overflow = b.overflow || not (weight_good s.weight);
    }

unfoldable pub all_taken : (source : ℕ) → List Keyed → Sofar → Sofar
all_taken source [] b = b
all_taken source (s ∷ ss) b = all_taken source ss (taken source s b)

-- The steps of the state of number i, taken; and of each state from number i on, in turn.
unfoldable pub state_served : (next : ℕ → List Keyed) → (i : ℕ) → Sofar → Sofar
state_served next i b = all_taken i (next (get_or b.keys i 0)) b

unfoldable pub served_from : (next : ℕ → List Keyed) → (fuel i : ℕ) → Sofar → Sofar
served_from next zero i b = b
served_from next (suc fuel) i b =
    let more = served_from next fuel (suc i) (state_served next i b) in cond (leb (length b.keys) i) b more

unfoldable pub begun : (first : ℕ) → Sofar
begun first = record { keys = first ∷ []; arcs = []; origins = []; overflow = false }

unfoldable pub explored : (next : ℕ → List Keyed) → (first : ℕ) → Sofar
explored next first = served_from next (max_states + 1) 0 (begun first)

-- A test as a walk keeps it: 1 where it holds, else 0.
unfoldable pub flag : Bool → ℕ
flag b = cond b 1 0

-- The bytes of 3,072 arcs.
abbrev pub max_arc_bytes : ℕ
max_arc_bytes = arc_bytes * max_arcs

-- How a buffer for arcs alone holds them: their records from the front on, at most 3,072 of them.
pub record ArcsHeld (as' : List Arc) (overflow : Bool) (w : Walk) (table : List ℕ) : Type 0 where
  pub arcs_are : w.arcs ≡ min (length as') (max_arcs + 1)
  pub overflow_is : w.overflow ≡ flag overflow
  pub table_long : max_arc_bytes ≤ length table
  pub written : take (arc_bytes * min (length as') max_arcs) table ≡ arc_records (take max_arcs as')

-- How a buffer holds the origins of `count` arcs, `width` for each: those of the first 3,072 arcs from the front on.
pub record OriginsHeld (width count : ℕ) (os origins : List ℕ) : Type 0 where
  pub origins_long : width * max_arcs ≤ length origins
  pub paired : length os ≡ width * count
  pub traced : take (width * min count max_arcs) origins ≡ take (width * min count max_arcs) os

pub record Recorded (width : ℕ) (as' : List Arc) (os : List ℕ) (overflow : Bool) (w : Walk) (table origins : List ℕ) : Type 0 where
  pub arcs_held : ArcsHeld as' overflow w table
  pub origins_held : OriginsHeld width (length as') os origins

-- The origins of the arc of number `count` are written where there is room for that arc.
unfoldable pub traced_by : (width count : ℕ) → (vs origins : List ℕ) → List ℕ
traced_by width count vs origins = cond (ltb count max_arcs) (sets origins (width * count) vs) origins

-- An arc is written where there is room, and counted; nothing else changes.
pub record Records (a : Arc) (w w' : Walk) (table table' : List ℕ) : Type 0 where
  pub states_stay : w'.states ≡ w.states
  pub full_stays : w'.full ≡ w.full
  pub one_more : (as' : List Arc) (overflow : Bool) → ArcsHeld as' overflow w table
      → ArcsHeld (as' ++ (a ∷ [])) (overflow || not (weight_good a.weight)) w' table'

-- How the buffers hold all that has been built.
pub record Walked (width : ℕ) (b : Sofar) (w : Walk) (table origins states heads links : List ℕ) : Type 0 where
  pub chained : Chained b.keys states heads links
  pub states_are : w.states ≡ length b.keys
  pub not_full : w.full ≡ 0
  pub recorded : Recorded width b.arcs b.origins b.overflow w table origins

-- What a part of the walk leaves: either all of its steps are taken, or more than 1,024 states were met.
pub record Went (width : ℕ) (after : Sofar) (w : Walk) (table origins states heads links : List ℕ) : Type 0 where
  pub done : w.full ≡ 0 → Walked width after w table origins states heads links
  pub full : (w.full ≡ 0 → ⊥) → max_states < length after.keys

-- What the parts of a walk share. Something has been built, and the walk and its buffers hold it.
abbrev pub Holds : (width : ℕ) → Walk → (table origins states heads links : List ℕ) → Type 0
Holds width w table origins states heads links = (b : Sofar) × Walked width b w table origins states heads links

-- Whatever was built and held before, what `add` makes of it is built then, or the walk is full.
abbrev pub Takes : (width : ℕ) → (add : Sofar → Sofar) → (before after : Walk)
    → (table table' origins origins' states states' heads heads' links links' : List ℕ) → Type 0
Takes width add w w' table table' origins origins' states states' heads heads' links links' =
    (b : Sofar) → Walked width b w table origins states heads links → Went width (add b) w' table' origins' states' heads' links'

-- What the whole walk tells and leaves behind: 11 exactly where more than 1,024 states are met.
pub record WalkTold (width : ℕ) (b : Sofar) (w : Walk) (table origins states : List ℕ) : Type 0 where
  pub few : length b.keys ≤ max_states
  pub states_are : w.states ≡ length b.keys
  pub recorded : Recorded width b.arcs b.origins b.overflow w table origins
  pub stored : take (length b.keys) states ≡ b.keys

pub record WalkSays (width : ℕ) (b : Sofar) (w : Walk) (table table' origins origins' states states' : List ℕ) : Type 0 where
  pub full : (w.full ≡ 0 → ⊥) → max_states < length b.keys
  pub done : w.full ≡ 0 → WalkTold width b w table' origins' states'
  pub table_kept : length table' ≡ length table
  pub origins_kept : length origins' ≡ length origins
  pub states_kept : length states' ≡ length states

-- Some finals, written from 12 on, how many they are, and the answer: 13 if a weight is out of range.
pub record FinalsStored {A : Type 0} (fs : List Final) (count : ℕ) (r : Result A Refusal) (table table' : List ℕ) : Type 0 where
  pub count_is : count ≡ length fs
  pub light : is_ok r ≡ every (λ f. weight_good f.weight) fs
  pub refused : IsOkUnless r Refusal.Sums
  pub stored : table' ≡ sets table head_bytes (final_records fs)

-- Each of three buffers is all zeros.
pub record Zeroed (a a' b b' c c' : List ℕ) : Type 0 where
  pub table : a' ≡ filled (length a) []
  pub origins : b' ≡ filled (length b) []
  pub states : c' ≡ filled (length c) []

-- A refusal once the buffers have been written to: each is all zeros.
pub record RefusedWith (number : ℕ) (r : Written) (a a' b b' c c' : List ℕ) : Type 0 where
  pub answer : r ≡ record { refusal = number; len = 0 }
  pub table : a' ≡ filled (length a) []
  pub origins : b' ≡ filled (length b) []
  pub states : c' ≡ filled (length c) []
