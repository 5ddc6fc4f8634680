-- The pairs of two transducers and a string: what the accepting paths of a cascade stand for. Assumes nothing: these are definitions.
use Rattle.std.specs.Prelude.{◌≡◌, true, ◌↔◌, List, ℕ}
use Rattle.transducer.specs.Format.{decode}
use Rattle.transducer.specs.Path.{accepts}
use Rattle.transducer.specs.Each.{path_fits, path_passed}
use Rattle.compose.specs.Claim.{TwoPaths}
use Rattle.claim.specs.Kind.{Kind}
use Rattle.claim.specs.Claim.{Pair, pair_output, pair_cost}

-- A pair: an accepting left path that, arc by arc, fits the string, and an accepting right path that fits what the left one writes for the string, the
-- symbols that it passes on included. Either path may be empty.
pub record FittingPair (left right string : List ℕ) (x : TwoPaths) : Type 0 where
  pub left_accepts : accepts (decode left) x.left ≡ true
  pub left_fits : path_fits (decode left) string x.left ≡ true
  pub right_accepts : accepts (decode right) x.right ≡ true
  pub meets : path_fits (decode right) (path_passed (decode left) string x.left) x.right ≡ true

-- The output of a pair is what its right path writes for what its left path writes for the string.
abbrev pub fitting_output : (left right string : List ℕ) → TwoPaths → List ℕ
fitting_output left right string x = path_passed (decode right) (path_passed (decode left) string x.left) x.right

-- The pairs as a kind of things that paths stand for. The input of a pair is the string; its cost is the sum of both paths' costs, final weights included,
-- as for the pairs of `claim`.
abbrev pub FittingPairs : (left right string : List ℕ) → Kind
FittingPairs left right string =
    record {
      Thing = TwoPaths;
      Is = FittingPair left right string;
      input = λ x. string;
      output = fitting_output left right string;
      cost = pair_cost left right;
    }

-- If the left transducer has no arc for any symbol, these are the pairs of `claim`, with the same output; the cost is the same by definition.
pub record SamePairs (left right string : List ℕ) (x : TwoPaths) : Type 0 where
  pub same : FittingPair left right string x ↔ Pair left right string x
  pub output : fitting_output left right string x ≡ pair_output left right x
