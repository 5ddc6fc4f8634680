-- For each arc of a state, in order; and what it means for an arc to fit a symbol, and for a path to fit a string. Assumes nothing: these are
-- definitions.
use Rattle.std.specs.Prelude.{ℕ, suc, Bool, cond, not, ◌&&◌, ◌||◌, ltb, List, [], ◌∷◌, ◌++◌, length, drop, ◌==◌, nat_lt, slice_index}
use Rattle.wire.specs.Bytes.{every}
use Rattle.transducer.specs.declared.Arc.{Arc}
use Rattle.transducer.specs.Format.{Transducer, any}
use Rattle.transducer.specs.Path.{arc, non_empty}

-- What a function gives for each of a run of arcs, the first of which has the number i, one after the other.
unfoldable pub by_number : {B : Type 0} → (i : ℕ) → (ℕ → Arc → List B) → List Arc → List B
by_number i f [] = []
by_number i f (a ∷ as') = f i a ++ by_number (suc i) f as'

-- The same for each arc that leaves a state.
unfoldable pub each_arc : {B : Type 0} → Transducer → (s : ℕ) → (ℕ → Arc → List B) → List B
each_arc t s f = by_number 0 (λ i a. cond (a.source == s) (f i a) []) t.arcs

-- Whether no arc of a state reads a symbol by name, wherever it leads.
unfoldable pub unnamed : Transducer → (state symbol : ℕ) → Bool
unnamed t q symbol = every (λ b. not (b.source == q && b.input == symbol)) t.arcs

-- Whether an arc of a transducer fits a symbol, 0 standing for none: one for any symbol fits each symbol that no arc of its state names, and never none.
-- And the label that it then writes: the symbol where it is passed on.
unfoldable pub fits : Transducer → (symbol : ℕ) → Arc → Bool
fits t symbol a = a.input == symbol || (a.input == any && (not (symbol == 0) && unnamed t a.source symbol))

unfoldable pub passed : (symbol : ℕ) → Arc → ℕ
passed symbol a = cond (a.output == any) symbol a.output

-- The symbol that an arc takes from the front of a string, 0 where it reads nothing or nothing is left; and the string behind it.
unfoldable pub symbol_for : Arc → (string : List ℕ) → ℕ
symbol_for a cs = cond (a.input == 0) 0 (slice_index cs 0)

unfoldable pub left_by : Arc → (string : List ℕ) → List ℕ
left_by a cs = cond (a.input == 0) cs (drop 1 cs)

-- Whether a path fits a string, arc by arc, and what it then writes, with the symbols that it passes on.
unfoldable pub path_fits : Transducer → (string path : List ℕ) → Bool
path_fits t cs [] = length cs == 0
path_fits t cs (i ∷ is) = fits t (symbol_for (arc t i) cs) (arc t i) && path_fits t (left_by (arc t i) cs) is

unfoldable pub path_passed : Transducer → (string path : List ℕ) → List ℕ
path_passed t cs [] = []
path_passed t cs (i ∷ is) = non_empty (passed (symbol_for (arc t i) cs) (arc t i)) (path_passed t (left_by (arc t i) cs) is)

-- Whether no arc is for any symbol; and whether no arc bears 65,535 at all.
unfoldable pub has_no_any_input : Transducer → Bool
has_no_any_input t = every (λ a. ltb a.input any) t.arcs

unfoldable pub plain : Transducer → Bool
plain t = every (λ a. nat_lt a.input any && nat_lt a.output any) t.arcs

-- 18: an arc for any symbol, in a transducer that may have none
unfoldable pub any_refusal : Transducer → ℕ
any_refusal t = cond (has_no_any_input t) 0 18
