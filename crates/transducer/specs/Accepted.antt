-- What the leaves answer: the first-arc index, and final weights by state. Assumes nothing: these are definitions.
use Rattle.std.specs.Prelude.{◌≡◌, ℕ, suc, ◌+◌, ◌<◌, ◌≤◌, max, true, cond, List, [], ◌∷◌, length, ◌==◌, ◌≢◌, nat_lt, slice_index, slice_index_or}
use Rattle.transducer.specs.declared.Arc.{Arc}
use Rattle.transducer.specs.declared.Final.{Final}
use Rattle.transducer.specs.declared.Head.{Head}
use Rattle.transducer.specs.Format.{Transducer, max_states, arcs_at, decode, refusal, head_states, head_arcs, head_finals, head_start}
use Rattle.transducer.specs.Path.{arc, is_final, final_weight}
use Rattle.transducer.specs.Answer.{Header, Validation}
use Rattle.transducer.specs.Each.{fits, has_no_any_input}
use Rattle.transducer.specs.Weight.{AtMost, code_of}

-- The head's four numbers.
abbrev pub head_in : List ℕ → Head
head_in bs = record { states = head_states bs; arcs = head_arcs bs; finals = head_finals bs; start = head_start bs }

-- These numbers, as an answer that is no refusal.
unfoldable pub header_of : List ℕ → Header
header_of bs =
    record { refusal = 0; states = head_states bs; arcs = head_arcs bs; finals = head_finals bs; start = head_start bs }

-- Accepted bytes, and the place where the records of the arcs begin in them.
pub record AcceptedAt (bs : List ℕ) (first : ℕ) : Type 0 where
  pub accepted : refusal bs ≡ 0
  pub first_is : first ≡ arcs_at (head_finals bs)

-- What validating bytes tells: the refusal or 0, and where they are accepted a weight that none of the arcs is below; `top_sorted` only where each arc leads
-- to a
-- higher state, `no_output_epsilon` only where each writes a label, `no_any_input` only where none is for any symbol.
pub record ValidationSays (bs : List ℕ) (r : Validation) : Type 0 where
  pub refusal_is : r.refusal ≡ refusal bs
  pub light : refusal bs ≡ 0 → (i : ℕ) → i < length (decode bs).arcs → AtMost r.least (arc (decode bs) i).weight
  pub rises : refusal bs ≡ 0 → r.top_sorted ≡ true → (i : ℕ) → i < length (decode bs).arcs → (arc (decode bs) i).source < (arc (decode bs) i).target
  pub written : refusal bs ≡ 0 → r.no_output_epsilon ≡ true → (i : ℕ) → i < length (decode bs).arcs → 0 < (arc (decode bs) i).output
  pub no_any : refusal bs ≡ 0 → r.no_any_input ≡ true → has_no_any_input (decode bs) ≡ true

-- How many arcs leave states below s. Sources never fall, so the arcs of s are those numbered from here to below the same of s + 1.
unfoldable pub arcs_below : (s : ℕ) → List Arc → ℕ
arcs_below s [] = 0
arcs_below s (a ∷ as') = cond (nat_lt a.source s) (suc (arcs_below s as')) (arcs_below s as')

-- One place up from each state stands a number that takes the maximum from the arcs below that state to those below the next.
pub record EndsMarked (xs : List Arc) (index : List ℕ) : Type 0 where
  pub long : length index ≡ max_states + 1
  pub at_first : slice_index_or index 0 0 ≡ 0
  pub at_state : (s : ℕ) → s < max_states → max (arcs_below s xs) (slice_index index (suc s)) ≡ arcs_below (suc s) xs

-- The first-arc index of a transducer: at each state up to and with n, the number of arcs below it.
pub record Indexed (t : Transducer) (index : List ℕ) : Type 0 where
  pub long : length index ≡ max_states + 1
  pub at_state : (s : ℕ) → s ≤ t.states → slice_index index s ≡ arcs_below s t.arcs

-- The code of a state's final weight; 0 where it is not final.
unfoldable pub final_code : List Final → (s : ℕ) → ℕ
final_code fs s = cond (is_final fs s) (code_of (final_weight fs s)) 0

-- The code of the largest weight.
abbrev pub max_code : ℕ
max_code = 2000001

-- The final codes of the states by number.
pub record FinalsByState (t : Transducer) (codes : List ℕ) : Type 0 where
  pub long : length codes ≡ max_states
  pub at_state : (s : ℕ) → s < max_states → slice_index codes s ≡ final_code t.finals s
  pub small : (s : ℕ) → s < max_states → slice_index codes s ≤ max_code

-- The arcs of state q from number `from` on are those below `to`.
pub record Rest (u : Transducer) (q from to : ℕ) : Type 0 where
  pub order : from ≤ to
  pub within : to ≤ length u.arcs
  pub sources : (j : ℕ) → from ≤ j → j < to → (arc u j).source ≡ q
  pub behind : (j : ℕ) → to ≤ j → j < length u.arcs → (arc u j).source ≢ q

-- The arcs of state q are those from `from` to below `to`.
pub record Leaving (u : Transducer) (q from to : ℕ) : Type 0 where
  pub rest : Rest u q from to
  pub before : (j : ℕ) → j < from → (arc u j).source ≢ q

-- The arcs from `from` to below `to` that fit a symbol are those that read that label.
abbrev pub FittingLabel : Transducer → (symbol from to label : ℕ) → Type 0
FittingLabel t symbol from to label =
    (i : ℕ) → from ≤ i → i < to → fits t symbol (arc t i) ≡ ((arc t i).input == label)
