-- What is claimed of a cascade: a string is applied to the left transducer first, and its lattice is composed with the right one. The accepting paths of
-- the result stand one to one with the pairs of the two transducers and the string alone. The left transducer may have arcs for any symbol: a lattice has
-- none, so that composing is never refused by 18. Assumes nothing: these are definitions.
use Rattle.std.specs.Prelude.{◌≡◌, List, ℕ, length, take}
use Rattle.wire.specs.Bytes.{Bytes}
use Rattle.transducer.specs.Answer.{Written}
use Rattle.trim.specs.Trim.{through}
use Rattle.compose.specs.Claim.{met_at, TwoPaths}
use Rattle.claim.specs.Claim.{Pairs, to_pair}
use Rattle.paths.specs.Calls.{Telling, Counting}
use Rattle.claim.specs.Listed.{Lists}
use Rattle.compose.specs.Composition.{Composition, composed_bytes}
use Rattle.lattice.specs.Application.{Application, lattice_bytes}
use Rattle.claim.specs.Agree.{Holds, Agree}
use Rattle.cascade.specs.Pairs.{FittingPairs}
use Rattle.cascade.specs.Entry.{CascadeSays, cascade_refusal}

-- What is claimed of the bytes of a result, if each of its paths leads to a pair by `to`: the accepting paths are the pairs, the count is their number, 14
-- if they are infinitely many, and the shortest path costs the least; each k below the count tells a pair, no two the same, in path order, and below 99
-- every pair is told.
pub record Claim (left right string : List ℕ) (bytes : List ℕ) (to : List ℕ → TwoPaths) : Type 0 where
  pub holds : Holds (FittingPairs left right string) bytes to
  pub lists : (n : Counting bytes) (t : Telling bytes n.answer.count) → Lists (FittingPairs left right string) bytes to n.answer t

-- The call with the table

-- The call, not refused: what it answered, what it was lent and the same as it was left behind (`-left`). That both inputs are bytes holds of slices of
-- bytes.
pub record Cascaded (left right string : List ℕ) : Type 0 where
  pub left_bytes : Bytes left
  pub right_bytes : Bytes right
  pub answer : Written
  pub table : List ℕ
  pub table_left : List ℕ
  pub origins : List ℕ
  pub origins_left : List ℕ
  pub states : List ℕ
  pub states_left : List ℕ
  pub says :
      CascadeSays left right string (cascade_refusal left right string (length table) (length origins) (length states)) answer table table_left origins
      origins_left states states_left
  pub well : answer.refusal ≡ 0

-- What is passed to the count: the table as left behind, at the length told.
abbrev pub cascaded_bytes : {left right string : List ℕ} → Cascaded left right string → List ℕ
cascaded_bytes c = take c.answer.len c.table_left

-- Where a path leads, by the origins as they were left behind: the left arcs and the right arcs met, 65,535 being passed over.
abbrev pub leads_to : {left right string : List ℕ} → Cascaded left right string → List ℕ → TwoPaths
leads_to c p = record { left = met_at c.origins_left 0 p; right = met_at c.origins_left 1 p }

-- Applying and composing, called one after the other

-- The string was applied to the left transducer, and the lattice, as left behind and at the length told, was composed with the right one; neither call
-- was refused.
pub record TwoCalls (left right string : List ℕ) : Type 0 where
  pub left_bytes : Bytes left
  pub right_bytes : Bytes right
  pub applying : Application string left
  pub composing : Composition (lattice_bytes applying) right

abbrev pub two_calls_bytes : {left right string : List ℕ} → TwoCalls left right string → List ℕ
two_calls_bytes c = composed_bytes c.composing

-- Where a path leads: the two origins of each of its arcs are an arc of the lattice and a right arc, and the origin of the arc of the lattice is a left arc.
unfoldable pub to_fitting : (lattice_origins origins path : List ℕ) → TwoPaths
to_fitting ls os p = record { left = through ls (met_at os 0 p); right = met_at os 1 p }

abbrev pub two_calls_leads : {left right string : List ℕ} → TwoCalls left right string → List ℕ → TwoPaths
two_calls_leads c = to_fitting c.applying.origins_left c.composing.origins_left

-- Both orders

-- The other order: the two transducers were composed, and the string was applied to the composition; neither call was refused.
pub record Chained (left right string : List ℕ) : Type 0 where
  pub composing : Composition left right
  pub applying : Application string (composed_bytes composing)

abbrev pub chained_bytes : {left right string : List ℕ} → Chained left right string → List ℕ
chained_bytes d = lattice_bytes d.applying

abbrev pub chained_leads : {left right string : List ℕ} → Chained left right string → List ℕ → TwoPaths
chained_leads d = to_pair d.composing.origins_left d.applying.origins_left

-- A result of the cascade agrees with the other order: accepting paths stand one to one, each two of them for the same pair; the counts are equal, 14 and
-- 99 included, and so are the least costs. Nothing is claimed of arc numbers and path order, which may differ. (Composing the two was not refused by 18, so
-- that the left transducer has no arc for any symbol.)
abbrev pub Agrees : {left right string : List ℕ} → (bytes : List ℕ) → (to : List ℕ → TwoPaths) → Chained left right string → Type 0
Agrees {left} {right} {string} bytes to d = Agree (Pairs left right string) bytes (chained_bytes d) to (chained_leads d)
