-- Where accepting paths stand for things of a kind: what the path count and the shortest path tell of these things, and when the paths in two runs of
-- bytes agree on them. Assumes nothing: these are definitions.
use Rattle.std.specs.Prelude.{◌≡◌, true, ◌↔◌, List, ℕ}
use Rattle.transducer.specs.Format.{Transducer, decode}
use Rattle.transducer.specs.Path.{accepts, read_by, written_by, path_cost}
use Rattle.transducer.specs.Weight.{Weight, Below}
use Rattle.compose.specs.Claim.{Least}
use Rattle.report.specs.Answer.{Told}
use Rattle.paths.specs.Calls.{Counting}
use Rattle.shortest.specs.Claim.{ShortestPath}
use Rattle.claim.specs.Kind.{Kind, PathsAre, Counts}

-- There is nothing of the kind.
abbrev pub Nothing : Kind → Type 0
Nothing K = (x : K.Thing) → K.Is x → ⊥

-- There is no least cost: below any weight there is something of the kind.
abbrev pub NoLeast : Kind → Type 0
NoLeast K = (w : Weight) → (x : K.Thing) × K.Is x × Below (K.cost x) w

-- A shortest path is refused by 16 exactly where there is nothing of the kind, and by 19 exactly where there is no least cost; otherwise its cost is
-- the least.
pub record TellsLeast (K : Kind) (r : Told) : Type 0 where
  pub none : (r.refusal ≡ 16) ↔ Nothing K
  pub endless : (r.refusal ≡ 19) ↔ NoLeast K
  pub some : (Nothing K → ⊥) → (NoLeast K → ⊥) → (r.refusal ≡ 0) × Least K.Thing K.Is K.cost r.cost

-- The accepting paths in some bytes stand one to one with the things of a kind; so the count is their number and the shortest path costs the least.
pub record Holds (K : Kind) (bytes : List ℕ) (to : List ℕ → K.Thing) : Type 0 where
  pub paths : PathsAre K (decode bytes) to
  pub counts : (n : Counting bytes) → Counts K n.answer
  pub least : (n : ShortestPath bytes) → TellsLeast K n.answer

-- A path q on one side is like the path p on the other: it accepts, leads to the same thing, and has the same input, output and cost.
pub record Alike (K : Kind) (z z' : Transducer) (to to' : List ℕ → K.Thing) (p q : List ℕ) : Type 0 where
  pub accepting : accepts z' q ≡ true
  pub same_thing : to' q ≡ to p
  pub same_input : read_by z' q ≡ read_by z p
  pub same_output : written_by z' q ≡ written_by z p
  pub same_cost : path_cost z' q ≡ path_cost z p

pub record ExactlyOne (P : List ℕ → Type 0) : Type 0 where
  pub one : List ℕ
  pub holds : P one
  pub only : (q : List ℕ) → P q → q ≡ one

-- Accepting paths of two transducers stand one to one: each has exactly one like it on the other side.
pub record StandOneToOne (K : Kind) (z z' : Transducer) (to to' : List ℕ → K.Thing) : Type 0 where
  pub over : (p : List ℕ) → accepts z p ≡ true → ExactlyOne (Alike K z z' to to' p)
  pub back : (q : List ℕ) → accepts z' q ≡ true → ExactlyOne (Alike K z' z to' to q)

-- Two runs of bytes agree on a kind.
pub record Agree (K : Kind) (left right : List ℕ) (to to' : List ℕ → K.Thing) : Type 0 where
  pub left_holds : Holds K left to
  pub right_holds : Holds K right to'
  pub one_to_one : StandOneToOne K (decode left) (decode right) to to'
  -- The same count, 14 on both sides or on neither.
  pub same_count : (m : Counting left) (n : Counting right) → m.answer ≡ n.answer
  -- The same least cost, 16 and 19 on both sides or on neither.
  pub same_least : (m : ShortestPath left) (n : ShortestPath right)
      → (m.answer.refusal ≡ n.answer.refusal) × (m.answer.cost ≡ n.answer.cost)
