-- The arcs of a list that pass a test, each changed in one way, and the numbers that they had. Assumes nothing: these are definitions.
use Rattle.std.specs.Prelude.{◌≡◌, Bool, cond, List, [], ◌∷◌, ℕ, suc, length}
use Rattle.std.proofs.lemmas.List.Edits.{sets}
use Rattle.transducer.specs.declared.Arc.{Arc}
use Rattle.transducer.specs.Encode.{arc_records}

unfoldable pub passing : (test : Arc → Bool) → (change : Arc → Arc) → List Arc → List Arc
passing test change [] = []
passing test change (a ∷ as') = cond (test a) (change a ∷ passing test change as') (passing test change as')

-- The first arc of the list has the number i.
unfoldable pub passing_numbers : (test : Arc → Bool) → (i : ℕ) → List Arc → List ℕ
passing_numbers test i [] = []
passing_numbers test i (a ∷ as') = cond (test a) (i ∷ passing_numbers test (suc i) as') (passing_numbers test (suc i) as')

-- The arcs that pass are written from a place on, and their numbers from the front.
pub record PassingPut (test : Arc → Bool) (change : Arc → Arc) (arcs : List Arc) (at count : ℕ) (out out' numbers numbers' : List ℕ) : Type 0 where
  pub count_is : count ≡ length (passing test change arcs)
  pub table : out' ≡ sets out at (arc_records (passing test change arcs))
  pub numbers_are : numbers' ≡ sets numbers 0 (passing_numbers test 0 arcs)
