-- Three transducers composed in either bracket (paper 02, Point 14): accepting paths of both results stand one to one, each pair of them for the same
-- three paths, and a string applied to both has the same count and the same least cost. Nothing is claimed of arc numbers and path order, so
-- nothing of the k-th path and of the shortest path's arcs: they may differ. Assumes nothing: these are definitions.
use Rattle.std.specs.Prelude.{◌≡◌, true, List, ℕ}
use Rattle.wire.specs.Bytes.{Bytes}
use Rattle.transducer.specs.Format.{Transducer, decode}
use Rattle.transducer.specs.Path.{accepts, read_by, written_by, path_cost}
use Rattle.transducer.specs.Each.{path_fits, path_passed}
use Rattle.transducer.specs.Weight.{Weight, plus}
use Rattle.compose.specs.Claim.{met_at}
use Rattle.compose.specs.Composition.{Composition, composed_bytes}
use Rattle.trim.specs.Trim.{through}
use Rattle.lattice.specs.Application.{Application, lattice_bytes}
use Rattle.claim.specs.Kind.{Kind, those}
use Rattle.claim.specs.Agree.{Agree}

-- The four compositions of three transducers: the first two and then the third, the last two and the first before them.
-- That the three are bytes holds of slices of bytes.
pub record Brackets (a b c : List ℕ) : Type 0 where
  pub a_bytes : Bytes a
  pub b_bytes : Bytes b
  pub c_bytes : Bytes c
  pub ab : Composition a b
  pub ab_c : Composition (composed_bytes ab) c
  pub bc : Composition b c
  pub a_bc : Composition a (composed_bytes bc)

-- The three paths

pub record ThreePaths : Type 0 where
  pub left : List ℕ
  pub middle : List ℕ
  pub right : List ℕ

-- A triple: accepting paths of the three, each of which, arc by arc, fits what the one before it writes. Any may be empty. (Only the right transducer
-- may have an arc for any symbol, by 18 of the four compositions, so that the middle path writes its own output.)
pub record Triple (a b c : Transducer) (x : ThreePaths) : Type 0 where
  pub left_accepts : accepts a x.left ≡ true
  pub middle_accepts : accepts b x.middle ≡ true
  pub right_accepts : accepts c x.right ≡ true
  pub left_meets : path_fits b (written_by a x.left) x.middle ≡ true
  pub right_meets : path_fits c (written_by b x.middle) x.right ≡ true

-- One whose left path reads a string.
pub record TripleOf (a b c : Transducer) (string : List ℕ) (x : ThreePaths) : Type 0 where
  pub triple : Triple a b c x
  pub reads : read_by a x.left ≡ string

-- The cost of a triple is the sum of the three, final weights included.
abbrev pub triple_cost : (a b c : Transducer) → ThreePaths → Weight
triple_cost a b c x = plus (path_cost a x.left) (plus (path_cost b x.middle) (path_cost c x.right))

-- The triples as a kind of things that paths stand for: a triple reads what its left path reads and writes what its right path writes for what the
-- middle one writes.
abbrev pub Triples : (a b c : Transducer) → Kind
Triples a b c =
    record {
      Thing = ThreePaths;
      Is = Triple a b c;
      input = λ x. read_by a x.left;
      output = λ x. path_passed c (written_by b x.middle) x.right;
      cost = triple_cost a b c;
    }

-- Those of a string.
abbrev pub TriplesOf : (a b c : Transducer) → (string : List ℕ) → Kind
TriplesOf a b c string = those (Triples a b c) (TripleOf a b c string)

-- Where a path leads by the origins of two compositions, the inner one made first: with the first two transducers composed first its left path is one
-- of theirs, with the last two its right one.
unfoldable pub to_triple_left : (inner outer path : List ℕ) → ThreePaths
to_triple_left inner outer p =
    record { left = met_at inner 0 (met_at outer 0 p); middle = met_at inner 1 (met_at outer 0 p); right = met_at outer 1 p }

unfoldable pub to_triple_right : (inner outer path : List ℕ) → ThreePaths
to_triple_right inner outer p =
    record { left = met_at outer 0 p; middle = met_at inner 0 (met_at outer 1 p); right = met_at inner 1 (met_at outer 1 p) }

-- What is claimed of three transducers

-- The two results, and where their paths lead, by the origins as they were left behind.
abbrev pub left_result : {a b c : List ℕ} → Brackets a b c → List ℕ
left_result r = composed_bytes r.ab_c

abbrev pub right_result : {a b c : List ℕ} → Brackets a b c → List ℕ
right_result r = composed_bytes r.a_bc

abbrev pub left_leads : {a b c : List ℕ} → Brackets a b c → List ℕ → ThreePaths
left_leads r = to_triple_left r.ab.origins_left r.ab_c.origins_left

abbrev pub right_leads : {a b c : List ℕ} → Brackets a b c → List ℕ → ThreePaths
right_leads r = to_triple_right r.bc.origins_left r.a_bc.origins_left

-- The two results agree on the triples.
abbrev pub Associates : {a b c : List ℕ} → Brackets a b c → Type 0
Associates {a} {b} {c} r = Agree (Triples (decode a) (decode b) (decode c)) (left_result r) (right_result r) (left_leads r) (right_leads r)

-- The lattices of a string applied to both agree on the triples of that string. The origin of each arc of a lattice is an arc of its result.
abbrev pub AppliedAlike : {a b c : List ℕ} (r : Brackets a b c) (string : List ℕ) → Application string (left_result r)
    → Application string (right_result r) → Type 0
AppliedAlike {a} {b} {c} r string x y =
    Agree (TriplesOf (decode a) (decode b) (decode c) string) (lattice_bytes x) (lattice_bytes y) (λ p. left_leads r (through x.origins_left p))
    (λ p. right_leads r (through y.origins_left p))
