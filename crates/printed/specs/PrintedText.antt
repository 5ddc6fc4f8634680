-- What is claimed of a listing's text, for things of any kind that the accepting paths of a transducer stand for: the pairs of two transducers and a string
-- (specs/Printed.antt), or those of a cascade (`cascade_listing`). Assumes nothing: these are definitions.
use Rattle.std.specs.Prelude.{◌≡◌, true, ◌↔◌, List, [], ◌∷◌, ◌++◌, map, ℕ, ◌+◌, ◌≤◌, ◌<◌, length, get_or}
use mathlib.Core.List.{Memᴰ as Among}
use Rattle.transducer.specs.Format.{Transducer}
use Rattle.transducer.specs.Path.{accepts}
use Rattle.paths.specs.Count.{before}
use Rattle.claim.specs.Kind.{Kind, InfinitelyMany, EachOnce}
use Rattle.listing.specs.Text.{decimal, newline, readings_word, endless_word, many_word, line, refused_text}

-- Things in path order: accepting paths of w lead to them by `to`, each path before those that follow.
pub record InPathOrder (K : Kind) (w : Transducer) (to : List ℕ → K.Thing) (l : List K.Thing) : Type 0 where
  pub paths : List (List ℕ)
  pub accepted : (p : List ℕ) → Among p paths → accepts w p ≡ true
  pub rising : (j k : ℕ) → j < k → k < length paths → before (get_or paths j []) (get_or paths k []) ≡ true
  pub lead : l ≡ map to paths

-- One line for each thing, numbered from k on: its number, its cost and its output.
unfoldable pub thing_lines : (K : Kind) → (k : ℕ) → List K.Thing → List ℕ
thing_lines K k [] = []
thing_lines K k (x ∷ l) = line k (K.cost x) (K.output x) ++ thing_lines K (k + 1) l

-- A text that begins with the word and a number, and one that is these and a line for each thing of a list.
pub record Begins (text : List ℕ) (n : ℕ) : Type 0 where
  pub rest : List ℕ
  pub text_is : text ≡ readings_word ++ (decimal n ++ (newline ∷ rest))

pub record Lists (K : Kind) (w : Transducer) (to : List ℕ → K.Thing) (text : List ℕ) (l : List K.Thing) : Type 0 where
  pub each : EachOnce K l
  pub in_order : InPathOrder K w to l
  pub text_is : text ≡ readings_word ++ (decimal (length l) ++ (newline ∷ thing_lines K 0 l))

-- The number of things of a kind.
pub record NumberOf (K : Kind) (n : ℕ) : Type 0 where
  pub list : List K.Thing
  pub each : EachOnce K list
  pub long : length list ≡ n

-- Finitely many things of a kind, 99 or more of them.
pub record Many (K : Kind) : Type 0 where
  pub number : ℕ
  pub things : NumberOf K number
  pub many : 99 ≤ number

-- The four texts that there are.
pub data Form (text : List ℕ) : Type 0 where
  refusal : (n : ℕ) → text ≡ refused_text n → Form text
  infinite : text ≡ readings_word ++ endless_word → Form text
  many : text ≡ readings_word ++ many_word → Form text
  count : (n : ℕ) → Begins text n → Form text

-- What is claimed of the text, if `number` is the first refusal that there is, or 0: it has one of the four forms, and each exactly if it should.
pub record PrintedText (K : Kind) (w : Transducer) (to : List ℕ → K.Thing) (text : List ℕ) (number : ℕ) : Type 0 where
  pub form : Form text
  -- `refused` and a number: that is the first refusal there is.
  pub refused : (n : ℕ) → (text ≡ refused_text n) ↔ ((number ≡ n) × (n ≡ 0 → ⊥))
  -- `readings endless`: nothing is refused, and the things are infinitely many.
  pub endless : (text ≡ readings_word ++ endless_word) ↔ ((number ≡ 0) × InfinitelyMany K)
  -- `readings 99+`: nothing is refused, and the things are 99 or more.
  pub too_many : (text ≡ readings_word ++ many_word) ↔ ((number ≡ 0) × Many K)
  -- `readings` and a number: nothing is refused, this is the number of things, and it is below 99.
  pub counted : (n : ℕ) → Begins text n ↔ ((number ≡ 0) × NumberOf K n × (n < 99))
  -- Then there is exactly one line for each thing, in path order, with its number, its cost and its output.
  pub lines : (n : ℕ) → Begins text n → (l : List K.Thing) × Lists K w to text l × (length l ≡ n)
