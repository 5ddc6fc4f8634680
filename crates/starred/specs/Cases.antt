-- The starred cases of paper 01 ("On either side of each limit"), and the example of paper 02's Point 6: for each a row with the bytes in, the answer and
-- the bytes out.
-- Assumes nothing: these are definitions.
use Rattle.std.specs.Prelude.{List, [], ◌∷◌, ◌++◌, ℕ, zero, suc}
use Rattle.starred.specs.Answer.{Case, ◌gives◌, refused, refused_with_zeros, reads, writes, counts, tells, lists}
use Rattle.starred.specs.Answer.Call.{reading, composing, applying, counting, kth_path, shortest_path, listing}

-- Weights in their four bytes.
abbrev pub weight_1000000 : List ℕ
weight_1000000 = 64 ∷ 66 ∷ 15 ∷ 0 ∷ []

abbrev pub weight_1000001 : List ℕ
weight_1000001 = 65 ∷ 66 ∷ 15 ∷ 0 ∷ []

abbrev pub weight_600000 : List ℕ
weight_600000 = 192 ∷ 39 ∷ 9 ∷ 0 ∷ []

abbrev pub weight_400000 : List ℕ
weight_400000 = 128 ∷ 26 ∷ 6 ∷ 0 ∷ []

abbrev pub weight_400001 : List ℕ
weight_400001 = 129 ∷ 26 ∷ 6 ∷ 0 ∷ []

abbrev pub weight_4 : List ℕ
weight_4 = 4 ∷ 0 ∷ 0 ∷ 0 ∷ []

abbrev pub weight_1 : List ℕ
weight_1 = 1 ∷ 0 ∷ 0 ∷ 0 ∷ []

-- One arc from state 0 to state 1, which is final; an arc has two labels and the four bytes of a weight.
abbrev pub one_arc : (input output : ℕ) → (weight : List ℕ) → List ℕ
one_arc input output weight =
    8 ∷ 0 ∷ 1 ∷ 0 ∷ 2 ∷ 0 ∷ 1 ∷ 0 ∷ 1 ∷ 0 ∷ 0 ∷ 0  -- 2 states, 1 arc, 1 final, start 0
    ∷ 6 ∷ 0 ∷ 2 ∷ 0 ∷ 1 ∷ 0 ∷ 0 ∷ 0 ∷ 0 ∷ 0  -- state 1 final, 0
    ∷ 12 ∷ 0 ∷ 3 ∷ 0 ∷ 0 ∷ 0 ∷ input ∷ 0 ∷ output ∷ 0 ∷ 1 ∷ 0 ∷ weight  -- 0 to 1

-- One state, which is final at the four bytes of a weight, and no arc.
abbrev pub one_final : (weight : List ℕ) → List ℕ
one_final weight =
    8 ∷ 0 ∷ 1 ∷ 0 ∷ 1 ∷ 0 ∷ 0 ∷ 0 ∷ 1 ∷ 0 ∷ 0 ∷ 0  -- 1 state, 0 arcs, 1 final, start 0
    ∷ 6 ∷ 0 ∷ 2 ∷ 0 ∷ 0 ∷ 0 ∷ weight  -- state 0 final

-- One final state with a loop 0:7 of a weight below 256.
abbrev pub one_loop : (weight : ℕ) → List ℕ
one_loop weight =
    8 ∷ 0 ∷ 1 ∷ 0 ∷ 1 ∷ 0 ∷ 1 ∷ 0 ∷ 1 ∷ 0 ∷ 0 ∷ 0  -- 1 state, 1 arc, 1 final, start 0
    ∷ 6 ∷ 0 ∷ 2 ∷ 0 ∷ 0 ∷ 0 ∷ 0 ∷ 0 ∷ 0 ∷ 0  -- state 0 final, 0
    ∷ 12 ∷ 0 ∷ 3 ∷ 0 ∷ 0 ∷ 0 ∷ 0 ∷ 0 ∷ 7 ∷ 0 ∷ 0 ∷ 0 ∷ weight ∷ 0 ∷ 0 ∷ 0 ∷ []  -- 0 to 0, 0:7

-- So many like arcs 1:2 of weight 5 (fewer than 256) from state 0 to state 1, which is final at 0.
unfoldable pub repeated : ℕ → List ℕ → List ℕ
repeated zero record-bytes = []
repeated (suc n) record-bytes = record-bytes ++ repeated n record-bytes

abbrev pub like_arcs : ℕ → List ℕ
like_arcs n =
    8 ∷ 0 ∷ 1 ∷ 0 ∷ 2 ∷ 0 ∷ n ∷ 0 ∷ 1 ∷ 0 ∷ 0 ∷ 0  -- 2 states, n arcs, 1 final, start 0
    ∷ 6 ∷ 0 ∷ 2 ∷ 0 ∷ 1 ∷ 0 ∷ 0 ∷ 0 ∷ 0 ∷ 0  -- state 1 final, 0
    ∷ repeated n (12 ∷ 0 ∷ 3 ∷ 0 ∷ 0 ∷ 0 ∷ 1 ∷ 0 ∷ 2 ∷ 0 ∷ 1 ∷ 0 ∷ 5 ∷ 0 ∷ 0 ∷ 0 ∷ [])  -- 0 to 1, 1:2, weight 5

-- The last case: the left transducer and the right one, their composition, and the lattice of 1 3.
abbrev pub last_left : List ℕ
last_left =
    8 ∷ 0 ∷ 1 ∷ 0 ∷ 3 ∷ 0 ∷ 2 ∷ 0 ∷ 1 ∷ 0 ∷ 0 ∷ 0  -- 3 states, 2 arcs, 1 final, start 0
    ∷ 6 ∷ 0 ∷ 2 ∷ 0 ∷ 2 ∷ 0 ∷ 0 ∷ 0 ∷ 0 ∷ 0  -- state 2 final, 0
    ∷ 12 ∷ 0 ∷ 3 ∷ 0 ∷ 0 ∷ 0 ∷ 1 ∷ 0 ∷ 2 ∷ 0 ∷ 1 ∷ 0 ∷ 3 ∷ 0 ∷ 0 ∷ 0  -- 0 to 1, 1:2, weight 3
    ∷ 12 ∷ 0 ∷ 3 ∷ 0 ∷ 1 ∷ 0 ∷ 3 ∷ 0 ∷ 0 ∷ 0 ∷ 2 ∷ 0 ∷ 1 ∷ 0 ∷ 0 ∷ 0 ∷ []  -- 1 to 2, 3:0, weight 1

abbrev pub last_right : List ℕ
last_right =
    8 ∷ 0 ∷ 1 ∷ 0 ∷ 3 ∷ 0 ∷ 2 ∷ 0 ∷ 1 ∷ 0 ∷ 0 ∷ 0  -- 3 states, 2 arcs, 1 final, start 0
    ∷ 6 ∷ 0 ∷ 2 ∷ 0 ∷ 2 ∷ 0 ∷ 1 ∷ 0 ∷ 0 ∷ 0  -- state 2 final, 1
    ∷ 12 ∷ 0 ∷ 3 ∷ 0 ∷ 0 ∷ 0 ∷ 2 ∷ 0 ∷ 4 ∷ 0 ∷ 1 ∷ 0 ∷ 2 ∷ 0 ∷ 0 ∷ 0  -- 0 to 1, 2:4, weight 2
    ∷ 12 ∷ 0 ∷ 3 ∷ 0 ∷ 1 ∷ 0 ∷ 0 ∷ 0 ∷ 5 ∷ 0 ∷ 2 ∷ 0 ∷ 4 ∷ 0 ∷ 0 ∷ 0 ∷ []  -- 1 to 2, 0:5, weight 4

abbrev pub last_composed : List ℕ
last_composed =
    8 ∷ 0 ∷ 1 ∷ 0 ∷ 5 ∷ 0 ∷ 4 ∷ 0 ∷ 1 ∷ 0 ∷ 0 ∷ 0  -- 5 states, 4 arcs, 1 final, start 0
    ∷ 6 ∷ 0 ∷ 2 ∷ 0 ∷ 4 ∷ 0 ∷ 1 ∷ 0 ∷ 0 ∷ 0  -- state 4 final, 1
    ∷ 12 ∷ 0 ∷ 3 ∷ 0 ∷ 0 ∷ 0 ∷ 1 ∷ 0 ∷ 4 ∷ 0 ∷ 1 ∷ 0 ∷ 5 ∷ 0 ∷ 0 ∷ 0  -- 0 to 1, 1:4, weight 5
    ∷ 12 ∷ 0 ∷ 3 ∷ 0 ∷ 1 ∷ 0 ∷ 3 ∷ 0 ∷ 0 ∷ 0 ∷ 2 ∷ 0 ∷ 1 ∷ 0 ∷ 0 ∷ 0  -- 1 to 2, 3:0, weight 1
    ∷ 12 ∷ 0 ∷ 3 ∷ 0 ∷ 1 ∷ 0 ∷ 0 ∷ 0 ∷ 5 ∷ 0 ∷ 3 ∷ 0 ∷ 4 ∷ 0 ∷ 0 ∷ 0  -- 1 to 3, 0:5, weight 4
    ∷ 12 ∷ 0 ∷ 3 ∷ 0 ∷ 2 ∷ 0 ∷ 0 ∷ 0 ∷ 5 ∷ 0 ∷ 4 ∷ 0 ∷ 4 ∷ 0 ∷ 0 ∷ 0 ∷ []  -- 2 to 4, 0:5, weight 4

abbrev pub last_lattice : List ℕ
last_lattice =
    8 ∷ 0 ∷ 1 ∷ 0 ∷ 4 ∷ 0 ∷ 3 ∷ 0 ∷ 1 ∷ 0 ∷ 0 ∷ 0  -- 4 states, 3 arcs, 1 final, start 0
    ∷ 6 ∷ 0 ∷ 2 ∷ 0 ∷ 3 ∷ 0 ∷ 1 ∷ 0 ∷ 0 ∷ 0  -- state 3 final, 1
    ∷ 12 ∷ 0 ∷ 3 ∷ 0 ∷ 0 ∷ 0 ∷ 1 ∷ 0 ∷ 4 ∷ 0 ∷ 1 ∷ 0 ∷ 5 ∷ 0 ∷ 0 ∷ 0  -- 0 to 1, 1:4, weight 5
    ∷ 12 ∷ 0 ∷ 3 ∷ 0 ∷ 1 ∷ 0 ∷ 3 ∷ 0 ∷ 0 ∷ 0 ∷ 2 ∷ 0 ∷ 1 ∷ 0 ∷ 0 ∷ 0  -- 1 to 2, 3:0, weight 1
    ∷ 12 ∷ 0 ∷ 3 ∷ 0 ∷ 2 ∷ 0 ∷ 0 ∷ 0 ∷ 5 ∷ 0 ∷ 3 ∷ 0 ∷ 4 ∷ 0 ∷ 0 ∷ 0 ∷ []  -- 2 to 3, 0:5, weight 4

-- The text of the last case's listing.
abbrev pub last_text : List ℕ
last_text =
    114 ∷ 101 ∷ 97 ∷ 100 ∷ 105 ∷ 110 ∷ 103 ∷ 115 ∷ 32 ∷ 49 ∷ 10  -- readings 1
    ∷ 48 ∷ 32 ∷ 49 ∷ 49 ∷ 32 ∷ 52 ∷ 32 ∷ 53 ∷ 10 ∷ []  -- 0 11 4 5

-- Paper 02's example of Point 6: a named arc, and one for any symbol that passes it on.
abbrev pub named_and_any : List ℕ
named_and_any =
    8 ∷ 0 ∷ 1 ∷ 0 ∷ 2 ∷ 0 ∷ 2 ∷ 0 ∷ 1 ∷ 0 ∷ 0 ∷ 0  -- 2 states, 2 arcs, 1 final, start 0
    ∷ 6 ∷ 0 ∷ 2 ∷ 0 ∷ 1 ∷ 0 ∷ 0 ∷ 0 ∷ 0 ∷ 0  -- state 1 final, 0
    ∷ 12 ∷ 0 ∷ 3 ∷ 0 ∷ 0 ∷ 0 ∷ 6 ∷ 0 ∷ 6 ∷ 0 ∷ 1 ∷ 0 ∷ 4 ∷ 0 ∷ 0 ∷ 0  -- 0 to 1, 6:6, weight 4
    ∷ 12 ∷ 0 ∷ 3 ∷ 0 ∷ 0 ∷ 0 ∷ 255 ∷ 255 ∷ 255 ∷ 255 ∷ 1 ∷ 0 ∷ 1 ∷ 0 ∷ 0 ∷ 0 ∷ []  -- 0 to 1, 65535:65535, weight 1

-- The table. Rows that read bytes tell what stands in them, in the words of paper 01. Any three bytes serve for the second row.
abbrev pub cases : (x y z : ℕ) → List Case
cases x y z =
    -- 0 bytes: 2. 3 bytes: 1.
    (reading [] gives refused 2)
    ∷ (reading (x ∷ y ∷ z ∷ []) gives refused 1)
    -- Weight 1,000,000 passes; 1,000,001: 8. Of an arc, of a final state.
    ∷ (reading (one_arc 1 2 weight_1000000) gives reads 2 1 1 0 (1 ∷ []) (0 ∷ []) (0 ∷ 1 ∷ 2 ∷ 1 ∷ []) (1000000 ∷ []))
    ∷ (reading (one_arc 1 2 weight_1000001) gives refused 8)
    ∷ (reading (one_final weight_1000000) gives reads 1 0 1 0 (0 ∷ []) (1000000 ∷ []) [] [])
    ∷ (reading (one_final weight_1000001) gives refused 8)
    -- 600,000 + 400,000 composes; + 400,001: 13. Of arcs, of final states.
    ∷ (reading (one_arc 1 2 weight_600000) gives reads 2 1 1 0 (1 ∷ []) (0 ∷ []) (0 ∷ 1 ∷ 2 ∷ 1 ∷ []) (600000 ∷ []))
    ∷ (reading (one_arc 2 3 weight_400000) gives reads 2 1 1 0 (1 ∷ []) (0 ∷ []) (0 ∷ 2 ∷ 3 ∷ 1 ∷ []) (400000 ∷ []))
    ∷ (reading (one_arc 2 3 weight_400001) gives reads 2 1 1 0 (1 ∷ []) (0 ∷ []) (0 ∷ 2 ∷ 3 ∷ 1 ∷ []) (400001 ∷ []))
    ∷ (composing (one_arc 1 2 weight_600000) (one_arc 2 3 weight_400000) gives writes 38 (one_arc 1 3 weight_1000000) (0 ∷ 0 ∷ []))
    ∷ (composing (one_arc 1 2 weight_600000) (one_arc 2 3 weight_400001) gives refused_with_zeros 13)
    ∷ (composing (one_final weight_600000) (one_final weight_400000) gives writes 22 (one_final weight_1000000) [])
    ∷ (composing (one_final weight_600000) (one_final weight_400001) gives refused_with_zeros 13)
    -- 98, 99 and 100 like arcs from start to final: counts 98, 99, 99.
    ∷ (counting (like_arcs 98) gives counts 98)
    ∷ (counting (like_arcs 99) gives counts 99)
    ∷ (counting (like_arcs 100) gives counts 99)
    -- One final state (weight 0) with a loop 0:7, weight 2 or 0, empty string: count 14; the shortest path costs 0, with no arcs.
    ∷ (reading (one_loop 2) gives reads 1 1 1 0 (0 ∷ []) (0 ∷ []) (0 ∷ 0 ∷ 7 ∷ 0 ∷ []) (2 ∷ []))
    ∷ (applying [] (one_loop 2) gives writes 38 (one_loop 2) (0 ∷ []))
    ∷ (counting (one_loop 2) gives refused 14)
    ∷ (shortest_path (one_loop 2) gives tells 0 [] [])
    ∷ (reading (one_loop 0) gives reads 1 1 1 0 (0 ∷ []) (0 ∷ []) (0 ∷ 0 ∷ 7 ∷ 0 ∷ []) (0 ∷ []))
    ∷ (applying [] (one_loop 0) gives writes 38 (one_loop 0) (0 ∷ []))
    ∷ (counting (one_loop 0) gives refused 14)
    ∷ (shortest_path (one_loop 0) gives tells 0 [] [])
    -- Arc 1:2 of weight 5 twice, then final weight 0; string 1: two paths, 5 each.
    ∷ (reading (like_arcs 2) gives reads 2 2 1 0 (1 ∷ []) (0 ∷ []) (0 ∷ 1 ∷ 2 ∷ 1 ∷ 0 ∷ 1 ∷ 2 ∷ 1 ∷ []) (5 ∷ 5 ∷ []))
    ∷ (applying (1 ∷ []) (like_arcs 2) gives writes 54 (like_arcs 2) (0 ∷ 1 ∷ []))
    ∷ (counting (like_arcs 2) gives counts 2)
    ∷ (kth_path (like_arcs 2) 0 gives tells 5 (0 ∷ []) (2 ∷ []))
    ∷ (kth_path (like_arcs 2) 1 gives tells 5 (1 ∷ []) (2 ∷ []))
    -- Left: 0 to 1, 1:2, weight 3; 1 to 2, 3:0, weight 1; state 2 final, 0. Right: 0 to 1, 2:4, weight 2; 1 to 2, 0:5, weight 4; state 2 final, 1.
    -- Composed: 5 states, 4 arcs, 1 final, 86 bytes. String 1 3: lattice of 4 states, 3 arcs, 70 bytes. One path, and the listing.
    ∷ (reading last_left gives reads 3 2 1 0 (2 ∷ []) (0 ∷ []) (0 ∷ 1 ∷ 2 ∷ 1 ∷ 1 ∷ 3 ∷ 0 ∷ 2 ∷ []) (3 ∷ 1 ∷ []))
    ∷ (reading last_right gives reads 3 2 1 0 (2 ∷ []) (1 ∷ []) (0 ∷ 2 ∷ 4 ∷ 1 ∷ 1 ∷ 0 ∷ 5 ∷ 2 ∷ []) (2 ∷ 4 ∷ []))
    ∷ (composing last_left last_right gives writes 86 last_composed (0 ∷ 0 ∷ 1 ∷ 65535 ∷ 65535 ∷ 1 ∷ 65535 ∷ 1 ∷ []))
    ∷ (applying (1 ∷ 3 ∷ []) last_composed gives writes 70 last_lattice (0 ∷ 1 ∷ 3 ∷ []))
    ∷ (counting last_lattice gives counts 1)
    ∷ (kth_path last_lattice 0 gives tells 11 (0 ∷ 1 ∷ 2 ∷ []) (4 ∷ 5 ∷ []))
    ∷ (listing last_left last_right (1 ∷ 0 ∷ 3 ∷ 0 ∷ []) gives lists 0 last_text)
    -- Paper 02, Point 6: 6:6 of weight 4 and any:any of weight 1 into a final state of weight 0. Code 6 has one reading, of 4; code 7 one, of 1.
    ∷ (reading named_and_any gives reads 2 2 1 0 (1 ∷ []) (0 ∷ []) (0 ∷ 6 ∷ 6 ∷ 1 ∷ 0 ∷ 65535 ∷ 65535 ∷ 1 ∷ []) (4 ∷ 1 ∷ []))
    ∷ (applying (6 ∷ []) named_and_any gives writes 38 (one_arc 6 6 weight_4) (0 ∷ []))
    ∷ (counting (one_arc 6 6 weight_4) gives counts 1)
    ∷ (shortest_path (one_arc 6 6 weight_4) gives tells 4 (0 ∷ []) (6 ∷ []))
    ∷ (applying (7 ∷ []) named_and_any gives writes 38 (one_arc 7 7 weight_1) (1 ∷ []))
    ∷ (counting (one_arc 7 7 weight_1) gives counts 1)
    ∷ (shortest_path (one_arc 7 7 weight_1) gives tells 1 (0 ∷ []) (7 ∷ []))
    ∷ []
