-- What is written when the walk is done: the finals of the states met, by their keys. Assumes nothing: these are definitions.
use Rattle.std.specs.Prelude.{Option, Result, IfSome, is_some, ◌≡◌, Bool, true, ◌&&◌, not, List, ℕ, ◌≤◌, ◌<◌, eqb, length, get_or}
use Rattle.transducer.specs.declared.Final.{Final}
use Rattle.transducer.specs.Format.{max_states, max_arcs, max_bytes, max_origins, arcs_at, refusal, decode}
use Rattle.transducer.specs.Each.{has_no_any_input}
use Rattle.transducer.specs.Weight.{Weight, plus, weight_of}
use Rattle.transducer.specs.Accepted.{max_code}
use Rattle.explore.specs.declared.Walk.{Walk}
use Rattle.explore.specs.Explore.{finals_from, built_refusal}
use Rattle.explore.specs.Walk.{WalkTold}
use Rattle.steps.specs.Packing.{unpacked, Bounded}
use Rattle.transducer.specs.Answer.{Refusal, written}
use Rattle.compose.specs.Compose.{composed}
use Rattle.compose.specs.Entry.{ComposeSays}
use Rattle.compose.specs.Walk.{key_walk}

-- Whether the state of a key is final, by the final codes of its parts, and with which weight.
unfoldable pub key_final : (lcodes rcodes : List ℕ) → (key : ℕ) → Bool
key_final ls rs k = not (eqb (get_or ls (unpacked k).left 0) 0) && not (eqb (get_or rs (unpacked k).right 0) 0)

unfoldable pub key_weight : (lcodes rcodes : List ℕ) → (key : ℕ) → Weight
key_weight ls rs k = plus (weight_of (get_or ls (unpacked k).left 0)) (weight_of (get_or rs (unpacked k).right 0))

abbrev pub key_finals : (lcodes rcodes keys : List ℕ) → List Final
key_finals ls rs keys = finals_from (key_final ls rs) (key_weight ls rs) 0 keys

-- The first `count` states are keys, there is room for 1,024 finals, and each code is that of a weight in range.
pub record Finishable (lcodes rcodes states : List ℕ) (count : ℕ) (table : List ℕ) : Type 0 where
  pub few : count ≤ max_states
  pub stored : count ≤ length states
  pub room : arcs_at max_states ≤ length table
  pub keys : (i : ℕ) → i < count → Bounded (unpacked (get_or states i 0))
  pub left : (s : ℕ) → s < max_states → get_or lcodes s 0 ≤ max_code
  pub right : (s : ℕ) → s < max_states → get_or rcodes s 0 ≤ max_code

-- Two accepted transducers, of which the left one has no arc for any symbol, and buffers that are long enough.
pub record Composable (left right : List ℕ) (table origins states : ℕ) : Type 0 where
  pub left_accepted : refusal left ≡ 0
  pub left_no_any : has_no_any_input (decode left) ≡ true
  pub right_accepted : refusal right ≡ 0
  pub table_long : max_bytes ≤ table
  pub origins_long : max_origins ≤ origins
  pub states_long : max_states ≤ states

-- The walk is done, its arcs are held in a buffer, and neither 11 nor 12 holds.
pub record WalkedThrough (left right : List ℕ) (w : Walk) (arcs origins states : List ℕ) : Type 0 where
  pub told : WalkTold 2 (key_walk (decode left) (decode right)) w arcs origins states
  pub few_arcs : w.arcs ≤ max_arcs

-- What an attempt leaves that has room for `room` finals. If it has an answer, that is the answer of composition; if it has none, composition is done again.
-- With room for 1,024 finals it has one.
pub record Attempted (left right : List ℕ) (room : ℕ) (r : Option (Result ℕ Refusal)) (a a' b b' c c' : List ℕ) : Type 0 where
  pub says : IfSome r (λ answer. ComposeSays left right (built_refusal (composed (decode left) (decode right)).result) (written answer) a a' b b' c c')
  pub enough : max_states ≤ room → is_some r ≡ true
