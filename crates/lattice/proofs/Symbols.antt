-- The test of a string, one symbol after the other. Assumes nothing.
use Rattle.std.proofs.Common.{◌≡◌, refl, ap, Bool, true, ◌&&◌, List, [], ◌∷◌, ℕ, ◌≤◌, ltb, leb, length}
use Rattle.std.specs.List.{list_all}
use borrow.Author.Tests.{leb-true}
use Rattle.wire.specs.Bytes.{every}
use Rattle.wire.proofs.Bool.{and-true}
use Rattle.transducer.specs.Format.{barred, max_symbols}
use Rattle.lattice.specs.Apply.{string_good}

abbrev pub symbol_good : ℕ → Bool
symbol_good c = leb 1 c && ltb c barred

pub string_short : (cs : List ℕ) → string_good cs ≡ true → length cs ≤ max_symbols
unfolding string_good
string_short cs good = leb-true (length cs) max_symbols (and-true (leb (length cs) max_symbols) (every symbol_good cs) good).0

every_all : {A : Type 0} (test : A → Bool) (xs : List A) → every test xs ≡ list_all test xs
unfolding every
every_all test [] = refl
every_all test (x ∷ xs) = ap (λ (b : Bool). test x && b) (every_all test xs)

-- The test in the words of the library, as the code makes it.
pub string_tested : (cs : List ℕ) → string_good cs ≡ leb (length cs) max_symbols && list_all symbol_good cs
unfolding string_good
string_tested cs = ap (λ (b : Bool). leb (length cs) max_symbols && b) (every_all symbol_good cs)
