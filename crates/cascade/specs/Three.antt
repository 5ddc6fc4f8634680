-- Three transducers: the result of a cascade composed with a third one (a string, then left, right and third; a shop's shelf marks are such a third one).
-- Its accepting paths stand one to one with the triples, and if either bracket of paper 02's Point 14 is not refused, it has the same count and the same
-- least cost. Assumes nothing: these are definitions.
use Rattle.std.specs.Prelude.{◌≡◌, true, List, ℕ}
use Rattle.wire.specs.Bytes.{Bytes}
use Rattle.transducer.specs.Format.{decode}
use Rattle.transducer.specs.Path.{accepts}
use Rattle.transducer.specs.Each.{path_fits, path_passed}
use Rattle.trim.specs.Trim.{through}
use Rattle.claim.specs.Kind.{Kind}
use Rattle.paths.specs.Calls.{Telling, Counting}
use Rattle.claim.specs.Listed.{Lists}
use Rattle.compose.specs.Composition.{Composition, composed_bytes}
use Rattle.lattice.specs.Application.{Application, lattice_bytes}
use Rattle.claim.specs.Agree.{Holds, Agree}
use Rattle.associate.specs.Associate.{ThreePaths, triple_cost, TriplesOf, to_triple_left, Brackets, left_result, right_result}
use Rattle.associate.specs.Associate.{left_leads, right_leads}
use Rattle.cascade.specs.Cascade.{Cascaded, cascaded_bytes}

-- What the left path writes for the string, and what the middle one writes for that, the symbols that each passes on included.
abbrev pub left_output : (left string : List ℕ) → ThreePaths → List ℕ
left_output left string x = path_passed (decode left) string x.left

abbrev pub middle_output : (left middle string : List ℕ) → ThreePaths → List ℕ
middle_output left middle string x = path_passed (decode middle) (left_output left string x) x.middle

-- A triple: accepting paths of the three, of which the left one fits the string and each other one fits what the one before it writes. Any of the three
-- transducers may have arcs for any symbol.
pub record FittingTriple (left middle right string : List ℕ) (x : ThreePaths) : Type 0 where
  pub left_accepts : accepts (decode left) x.left ≡ true
  pub left_fits : path_fits (decode left) string x.left ≡ true
  pub middle_accepts : accepts (decode middle) x.middle ≡ true
  pub left_meets : path_fits (decode middle) (left_output left string x) x.middle ≡ true
  pub right_accepts : accepts (decode right) x.right ≡ true
  pub right_meets : path_fits (decode right) (middle_output left middle string x) x.right ≡ true

-- The triples as a kind. The input of a triple is the string, its output what the right path writes for what the middle one writes, its cost the sum of
-- the three, as for the triples of `associate`.
abbrev pub FittingTriples : (left middle right string : List ℕ) → Kind
FittingTriples left middle right string =
    record {
      Thing = ThreePaths;
      Is = FittingTriple left middle right string;
      input = λ x. string;
      output = λ x. path_passed (decode right) (middle_output left middle string x) x.right;
      cost = triple_cost (decode left) (decode middle) (decode right);
    }

-- The cascade of the first two, as left behind and at the length told, composed with the third one; neither call was refused.
pub record ThreeCascaded (left middle right string : List ℕ) : Type 0 where
  pub cascading : Cascaded left middle string
  pub right_bytes : Bytes right
  pub composing : Composition (cascaded_bytes cascading) right

abbrev pub three_bytes : {left middle right string : List ℕ} → ThreeCascaded left middle right string → List ℕ
three_bytes c = composed_bytes c.composing

-- Where a path leads, by the origins as the two calls left them behind: as if the first two had been composed first.
abbrev pub three_leads : {left middle right string : List ℕ} → ThreeCascaded left middle right string → List ℕ → ThreePaths
three_leads c = to_triple_left c.cascading.origins_left c.composing.origins_left

-- What is claimed: paths are the triples, the count is their number, 14 if they are infinitely many, and the shortest path costs the least; each k below
-- the count tells a triple.
pub record ThreeClaim {left middle right string : List ℕ} (c : ThreeCascaded left middle right string) : Type 0 where
  pub holds : Holds (FittingTriples left middle right string) (three_bytes c) (three_leads c)
  pub lists : (n : Counting (three_bytes c)) (t : Telling (three_bytes c) n.answer.count)
      → Lists (FittingTriples left middle right string) (three_bytes c) (three_leads c) n.answer t

-- It agrees with the lattice of the string applied to either bracket of the three: the same count, 14 and 99 included, and the same least cost, each two
-- accepting paths standing for the same three paths. (By 18 of the brackets' compositions neither of the first two has an arc for any symbol.)
pub record ThreeAgree {left middle right string : List ℕ} (c : ThreeCascaded left middle right string) (r : Brackets left middle right) : Type 0 where
  pub with_left : (x : Application string (left_result r))
      → Agree (TriplesOf (decode left) (decode middle) (decode right) string) (three_bytes c) (lattice_bytes x) (three_leads c)
      (λ p. left_leads r (through x.origins_left p))
  pub with_right : (x : Application string (right_result r))
      → Agree (TriplesOf (decode left) (decode middle) (decode right) string) (three_bytes c) (lattice_bytes x) (three_leads c)
      (λ p. right_leads r (through x.origins_left p))
