-- Origins traced to the left transducer, and why applying was refused. Assumes nothing: these are definitions.
use Rattle.std.specs.Prelude.{◌≡◌, cond, List, [], ◌∷◌, ℕ, ltb, get_or}
use Rattle.transducer.specs.Format.{max_arcs, refusal, decode}
use Rattle.transducer.specs.Entry.{or_else}
use Rattle.lattice.specs.ApplyEntry.{application_refusal}

-- The origin of an arc of the lattice. The number of an arc is below 3,072; 65,535, if the left side stood still, stays.
unfoldable pub traced : (lattice_origins : List ℕ) → (origin : ℕ) → ℕ
traced ls i = cond (ltb i max_arcs) (get_or ls i 0) i

-- Pairs of origins, of which the left ones are traced.
unfoldable pub left_traced : (lattice_origins origins : List ℕ) → List ℕ
left_traced ls [] = []
left_traced ls (i ∷ []) = i ∷ []
left_traced ls (i ∷ (j ∷ os)) = traced ls i ∷ (j ∷ left_traced ls os)

-- Applying the string to the left transducer is refused with this number.
pub record Unapplied (left string : List ℕ) (number : ℕ) : Type 0 where
  pub is : number ≡ or_else (refusal left) (application_refusal string (decode left))
  pub some : number ≡ 0 → ⊥
