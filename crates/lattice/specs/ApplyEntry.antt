-- What applying a string answers and leaves behind. Assumes nothing: these are definitions.
use Rattle.std.specs.Prelude.{◌||◌, cond, List, ℕ, ltb}
use Rattle.transducer.specs.Answer.{Written}
use Rattle.transducer.specs.Format.{Transducer, max_states, max_arcs, max_bytes, refusal, decode}
use Rattle.transducer.specs.Encode.{encode}
use Rattle.transducer.specs.Entry.{or_else}
use Rattle.explore.specs.Explore.{built_refusal, BuiltSays}
use Rattle.lattice.specs.Apply.{string_good, applied}
use Rattle.lattice.specs.Lattice.{lattice, lattice_origins}

-- 10: a lent buffer is too short
unfoldable pub apply_room : (table origins pairs : ℕ) → ℕ
apply_room a b c = cond (ltb a max_bytes || (ltb b max_arcs || ltb c max_states)) 10 0

-- 1 to 8, 9 for the string, 10, then 11 and 12; 13 never holds of a lattice.
unfoldable pub apply_refusal : (string bytes : List ℕ) → (table origins pairs : ℕ) → ℕ
apply_refusal cs bs a b c =
    or_else (refusal bs) (or_else (cond (string_good cs) 0 9) (or_else (apply_room a b c) (built_refusal (applied cs (decode bs)).result)))

-- The number that refuses the application of a string to an accepted transducer where enough is lent: 9, then 11 and 12.
unfoldable pub application_refusal : (string : List ℕ) → Transducer → ℕ
application_refusal cs t = or_else (cond (string_good cs) 0 9) (built_refusal (applied cs t).result)

-- The lattice, one origin for each of its arcs, and the pairs of place and state, lent only to work in.
abbrev pub ApplySays : (string bytes : List ℕ) → (number : ℕ) → Written → (table table' origins origins' pairs pairs' : List ℕ) → Type 0
ApplySays cs bs number r a a' b b' c c' = BuiltSays (encode (lattice cs (decode bs))) (lattice_origins cs (decode bs)) number r a a' b b' c c'
