-- The tables of the worked rows, by their bytes; a few more are those of the starred cases. Assumes nothing: these are definitions.
use Rattle.std.specs.Prelude.{List, [], ◌∷◌, ◌++◌, ℕ}

-- A label below 256 in its two bytes, and 65,535: as an input it is for any symbol, as an output it passes on the symbol read.
abbrev pub label : ℕ → List ℕ
label x = x ∷ 0 ∷ []

abbrev pub any : List ℕ
any = 255 ∷ 255 ∷ []

-- Weights in their four bytes: from 0 to 255, and below zero.
abbrev pub units : ℕ → List ℕ
units w = w ∷ 0 ∷ 0 ∷ 0 ∷ []

abbrev pub rebate_1 : List ℕ
rebate_1 = 255 ∷ 255 ∷ 255 ∷ 255 ∷ []

abbrev pub rebate_400000 : List ℕ
rebate_400000 = 128 ∷ 229 ∷ 249 ∷ 255 ∷ []

abbrev pub rebate_400001 : List ℕ
rebate_400001 = 127 ∷ 229 ∷ 249 ∷ 255 ∷ []

abbrev pub rebate_600000 : List ℕ
rebate_600000 = 64 ∷ 216 ∷ 246 ∷ 255 ∷ []

abbrev pub rebate_1000000 : List ℕ
rebate_1000000 = 192 ∷ 189 ∷ 240 ∷ 255 ∷ []

abbrev pub rebate_1000001 : List ℕ
rebate_1000001 = 191 ∷ 189 ∷ 240 ∷ 255 ∷ []

-- The records of a table whose numbers are below 256: its head, a final state and an arc.
abbrev pub head : (states arcs finals start : ℕ) → List ℕ
head n m f start = 8 ∷ 0 ∷ 1 ∷ 0 ∷ n ∷ 0 ∷ m ∷ 0 ∷ f ∷ 0 ∷ start ∷ 0 ∷ []

abbrev pub final : (state : ℕ) → (weight : List ℕ) → List ℕ
final state weight = 6 ∷ 0 ∷ 2 ∷ 0 ∷ state ∷ 0 ∷ weight

abbrev pub arc : (source : ℕ) → (input output : List ℕ) → (target : ℕ) → (weight : List ℕ) → List ℕ
arc source input output target weight = (12 ∷ 0 ∷ 3 ∷ 0 ∷ source ∷ 0 ∷ []) ++ input ++ output ++ (target ∷ 0 ∷ weight)

-- One state, which is not final, and no arc: a lattice in which nothing accepts.
abbrev pub nothing : List ℕ
nothing = head 1 0 0 0

-- One arc for any symbol from state 0 to state 1, which is final at 0.
abbrev pub any_arc : (output weight : List ℕ) → List ℕ
any_arc output weight = head 2 1 1 0 ++ final 1 (units 0) ++ arc 0 any output 1 weight

-- The arc 1:0 of weight 4 by itself: state 1 is not final.
abbrev pub left_alone : List ℕ
left_alone = head 2 1 0 0 ++ arc 0 (label 1) (label 0) 1 (units 4)

-- 6 is named by an arc of state 1 only; the arc for any symbol leaves state 0.
abbrev pub named_elsewhere : List ℕ
named_elsewhere = head 2 2 1 0 ++ final 1 (units 0) ++ arc 0 any (label 5) 1 (units 1) ++ arc 1 (label 6) (label 6) 1 (units 4)

-- State 0 names 6, but that arc leads to state 2, from which no final state can be reached.
abbrev pub named_in_vain : List ℕ
named_in_vain = head 3 2 1 0 ++ final 1 (units 0) ++ arc 0 (label 6) (label 6) 2 (units 4) ++ arc 0 any any 1 (units 1)

-- Three states, of which 2 is final at 0, and three arcs by which two paths lead there.
abbrev pub two_ways : (first second third : List ℕ) → List ℕ
two_ways first second third = head 3 3 1 0 ++ final 2 (units 0) ++ first ++ second ++ third

-- Arc 0 costs 2 and writes a label; arcs 1 and 2 cost 2 together and write none.
abbrev pub fewer_labels : List ℕ
fewer_labels = two_ways (arc 0 (label 1) (label 5) 2 (units 2)) (arc 0 (label 1) (label 0) 1 (units 1)) (arc 1 (label 2) (label 0) 2 (units 1))

-- Arc 0 costs 3 and writes no label; arcs 1 and 2 cost 2 together and write two.
abbrev pub lesser_cost : List ℕ
lesser_cost = two_ways (arc 0 (label 1) (label 0) 2 (units 3)) (arc 0 (label 1) (label 5) 1 (units 1)) (arc 1 (label 2) (label 6) 2 (units 1))

-- Arcs 0 and 2 cost 2 together and write one label; arc 1 costs 2 and writes one label.
abbrev pub fewer_arcs : List ℕ
fewer_arcs = two_ways (arc 0 (label 1) (label 5) 1 (units 1)) (arc 0 (label 1) (label 6) 2 (units 2)) (arc 1 (label 2) (label 0) 2 (units 1))

-- Three states, all final, with arcs from 0 to 1, from 0 to 2 and from 1 to 2: each beginning of a path accepts.
abbrev pub all_final : List ℕ
all_final =
    head 3 3 3 0 ++ final 0 (units 0) ++ final 1 (units 0) ++ final 2 (units 0)
    ++ arc 0 (label 1) (label 2) 1 (units 1) ++ arc 0 (label 1) (label 3) 2 (units 1) ++ arc 1 (label 2) (label 4) 2 (units 1)

-- A loop of weight -1 at the only state, final or not.
abbrev pub negative_cycle_loop : List ℕ
negative_cycle_loop = head 1 1 1 0 ++ final 0 (units 0) ++ arc 0 (label 0) (label 7) 0 rebate_1

abbrev pub negative_cycle_in_vain : List ℕ
negative_cycle_in_vain = head 1 1 0 0 ++ arc 0 (label 0) (label 7) 0 rebate_1

-- State 0 is the start and final. State 1 has a loop of weight -1: reached from state 0, from which it leads nowhere; and not reached, but leading there.
abbrev pub negative_cycle_aside : List ℕ
negative_cycle_aside = head 2 2 1 0 ++ final 0 (units 0) ++ arc 0 (label 1) (label 2) 1 (units 1) ++ arc 1 (label 1) (label 2) 1 rebate_1

abbrev pub negative_cycle_unreached : List ℕ
negative_cycle_unreached = head 2 2 1 0 ++ final 0 (units 0) ++ arc 1 (label 1) (label 2) 0 (units 1) ++ arc 1 (label 1) (label 2) 1 rebate_1

-- A cycle of 1 and -1, which does not sum below zero.
abbrev pub level_cycle : List ℕ
level_cycle = head 2 2 1 0 ++ final 0 (units 0) ++ arc 0 (label 1) (label 2) 1 (units 1) ++ arc 1 (label 1) (label 2) 0 rebate_1
