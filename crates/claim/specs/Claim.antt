-- The single claim of demand 3 (paper 01): from the bytes of any two transducers and any string, by way of composing, applying, counting and
-- the k-th path, to the pairs of the two transducers and the string alone. Assumes nothing: these are definitions.
use Rattle.std.specs.Prelude.{◌≡◌, true, List, ℕ}
use Rattle.wire.specs.Bytes.{Bytes}
use Rattle.transducer.specs.Format.{Transducer, decode}
use Rattle.transducer.specs.Path.{accepts, read_by, written_by, path_cost}
use Rattle.transducer.specs.Each.{path_fits, path_passed}
use Rattle.transducer.specs.Weight.{Weight, plus}
use Rattle.compose.specs.Claim.{met_at, TwoPaths}
use Rattle.compose.specs.Composition.{Composition, composed_bytes}
use Rattle.trim.specs.Trim.{through}
use Rattle.lattice.specs.Application.{Application, lattice_bytes}
use Rattle.paths.specs.Calls.{Counting, Telling}
use Rattle.claim.specs.Kind.{Kind, PathsAre, Counts}
use Rattle.claim.specs.Listed.{Lists}

-- The calls, each answered as its contract says: composing (paper 01: the join), applying the string (paper 01: a code) to the composition as it was left
-- behind, at the length told, both not refused; the path count of the lattice, handed on likewise; and its k-th path (paper 01: reading k) for each k below
-- the count. That the two inputs are bytes holds of slices of bytes.
pub record Calls (left right string : List ℕ) : Type 0 where
  pub left_bytes : Bytes left
  pub right_bytes : Bytes right
  pub composing : Composition left right
  pub applying : Application string (composed_bytes composing)
  pub counting : Counting (lattice_bytes applying)
  pub telling : Telling (lattice_bytes applying) counting.answer.count

-- A pair: an accepting left path that reads the string, and an accepting right path that, arc by arc, fits what the left one writes. Either may be
-- empty. (A left transducer has no arc for any symbol, by 18.)
pub record Pair (left right string : List ℕ) (x : TwoPaths) : Type 0 where
  pub left_accepts : accepts (decode left) x.left ≡ true
  pub left_reads : read_by (decode left) x.left ≡ string
  pub right_accepts : accepts (decode right) x.right ≡ true
  pub meets : path_fits (decode right) (written_by (decode left) x.left) x.right ≡ true

-- A pair's output is what its right path writes for what the left one writes, with the symbols that it passes on; its cost is the sum of both paths'
-- costs, final weights included.
abbrev pub pair_output : (left right : List ℕ) → TwoPaths → List ℕ
pair_output left right x = path_passed (decode right) (written_by (decode left) x.left) x.right

abbrev pub pair_cost : (left right : List ℕ) → TwoPaths → Weight
pair_cost left right x = plus (path_cost (decode left) x.left) (path_cost (decode right) x.right)

-- Where a lattice path leads: the origin of each of its arcs is an arc of the composition, and the two origins of that one, at 2 i and 2 i + 1,
-- are a left arc and a right arc, 65,535 being passed over.
unfoldable pub to_pair : (origins lattice_origins path : List ℕ) → TwoPaths
to_pair os ls p = record { left = met_at os 0 (through ls p); right = met_at os 1 (through ls p) }

-- The pairs as a kind of things that the lattice's paths stand for. A pair's input is what its left path reads.
abbrev pub Pairs : (left right string : List ℕ) → Kind
Pairs left right string =
    record {
      Thing = TwoPaths;
      Is = Pair left right string;
      input = λ x. read_by (decode left) x.left;
      output = pair_output left right;
      cost = pair_cost left right;
    }

-- The lattice is what is in the bytes handed to the count; its paths lead by the origins as they were left behind.
abbrev pub lattice_of : {left right string : List ℕ} → Calls left right string → Transducer
lattice_of c = decode (lattice_bytes c.applying)

abbrev pub leads_to : {left right string : List ℕ} → Calls left right string → (path : List ℕ) → TwoPaths
leads_to c = to_pair c.composing.origins_left c.applying.origins_left

-- What is claimed: paths are the pairs, the count is their number, 14 where they are infinitely many, and each k below the count tells a pair.
pub record Claim {left right string : List ℕ} (c : Calls left right string) : Type 0 where
  pub paths : PathsAre (Pairs left right string) (lattice_of c) (leads_to c)
  pub counts : Counts (Pairs left right string) c.counting.answer
  pub lists : Lists (Pairs left right string) (lattice_bytes c.applying) (leads_to c) c.counting.answer c.telling
