-- What the shortest path answers and leaves behind. Assumes nothing: these are definitions.
use Rattle.std.specs.Prelude.{◌||◌, not, cond, List, ℕ, ltb}
use Rattle.transducer.specs.Format.{Transducer, max_path, refusal, decode}
use Rattle.transducer.specs.Entry.{or_else}
use Rattle.report.specs.Answer.{Told}
use Rattle.reach.specs.Reach.{coaccessible}
use Rattle.report.specs.Tell.{PathTold}
use Rattle.cycles.specs.Cycles.{negative_cycle}
use Rattle.shortest.specs.Shortest.{shortest}

-- What the shortest path refuses of accepted bytes: 16 if nothing accepts, then 19 if a cycle below zero lies on an accepting path.
abbrev pub accepted_shortest_refusal : Transducer → ℕ
accepted_shortest_refusal t = cond (not (coaccessible t.states t t.start)) 16 (cond (negative_cycle t) 19 0)

-- The shortest path: 1 to 8, 10 for a buffer that is too short, 16, then 19.
unfoldable pub shortest_refusal : List ℕ → (arcs labels : ℕ) → ℕ
shortest_refusal bs a b =
    or_else (refusal bs) (cond (ltb a max_path || ltb b max_path) 10 (accepted_shortest_refusal (decode bs)))

abbrev pub ShortestSays : (bs : List ℕ) → (number : ℕ) → Told → (a a' b b' : List ℕ) → Type 0
ShortestSays bs number r a a' b b' = PathTold (decode bs) (shortest (decode bs)) number r a a' b b'
