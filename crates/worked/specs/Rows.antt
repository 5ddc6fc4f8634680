-- Worked rows: small cases in which a rule of papers 01 and 02, misread, gives another answer. A row says what is handed in, what is answered and what is
-- left in the buffers, by numbers and bytes and not by the definitions. So if a definition is misread, a row refuses it, even if the code is misread alike.
-- Assumes nothing: these are definitions.
use Rattle.std.specs.Prelude.{List, [], ◌∷◌, ◌++◌, ◌-◌, length, replicate}
use Rattle.transducer.specs.Weight.{Weight, amount, rebate}
use Rattle.starred.specs.Answer.{Answer, Case, ◌gives◌, refused, refused_with_zeros, reads, table_read, writes, counts, tells, cells_told}
use Rattle.starred.specs.Answer.Call.{reading, composing, applying, counting, kth_path, shortest_path, distances}
use Rattle.starred.specs.Cases.{weight_1000000, weight_1000001, weight_1, weight_4, one_arc, one_final, like_arcs}
use Rattle.worked.specs.Tables.{label, any, units, rebate_1000000, rebate_1000001, rebate_600000, rebate_400000, rebate_400001, head, final, arc}
use Rattle.worked.specs.Tables.{nothing, any_arc, left_alone, named_elsewhere, named_in_vain, fewer_labels, lesser_cost, fewer_arcs, all_final}
use Rattle.worked.specs.Tables.{negative_cycle_loop, negative_cycle_in_vain, negative_cycle_aside, negative_cycle_unreached, level_cycle}

-- Point 5: input 65,535 fits each symbol and never the empty label. An output other than 65,535 is written as it is, 0 as the empty label; 65,535 passes on
-- the symbol read. Here that is a symbol of a string.
abbrev pub any_applied_rows : List Case
any_applied_rows =
    (reading (any_arc (label 5) weight_1) gives reads 2 1 1 0 (1 ∷ []) (0 ∷ []) (0 ∷ 65535 ∷ 5 ∷ 1 ∷ []) (1 ∷ []))
    ∷ (applying (7 ∷ []) (any_arc (label 5) weight_1) gives writes 38 (one_arc 7 5 weight_1) (0 ∷ []))
    ∷ (applying (7 ∷ []) (any_arc (label 0) weight_1) gives writes 38 (one_arc 7 0 weight_1) (0 ∷ []))
    ∷ (applying (7 ∷ []) (any_arc any weight_1) gives writes 38 (one_arc 7 7 weight_1) (0 ∷ []))
    ∷ (applying [] (any_arc (label 5) weight_1) gives writes 12 nothing [])
    ∷ []

-- Here it is the output of a left arc; if that is the empty label, the left arc goes alone.
abbrev pub any_composed_rows : List Case
any_composed_rows =
    (composing (one_arc 1 7 weight_4) (any_arc (label 5) weight_1) gives writes 38 (one_arc 1 5 (units 5)) (0 ∷ 0 ∷ []))
    ∷ (composing (one_arc 1 7 weight_4) (any_arc (label 0) weight_1) gives writes 38 (one_arc 1 0 (units 5)) (0 ∷ 0 ∷ []))
    ∷ (composing (one_arc 1 7 weight_4) (any_arc any weight_1) gives writes 38 (one_arc 1 7 (units 5)) (0 ∷ 0 ∷ []))
    ∷ (composing (one_arc 1 0 weight_4) (any_arc (label 5) weight_1) gives writes 28 left_alone (0 ∷ 65535 ∷ []))
    ∷ []

-- Output 65,535 beside another input is refused by 7. To the count and the shortest path 65,535 is one arc and one label.
abbrev pub any_label_rows : List Case
any_label_rows =
    (reading (head 2 1 1 0 ++ final 1 (units 0) ++ arc 0 (label 6) any 1 weight_1) gives refused 7)
    ∷ (counting (any_arc any weight_1) gives counts 1)
    ∷ (shortest_path (any_arc any weight_1) gives tells 1 (0 ∷ []) (65535 ∷ []))
    ∷ []

-- Point 6: an any arc is hidden by a named arc of its own state, even if that leads nowhere, and not by one of another state.
abbrev pub named_rows : List Case
named_rows =
    (applying (6 ∷ []) named_elsewhere gives writes 38 (one_arc 6 5 weight_1) (0 ∷ []))
    ∷ (composing (one_arc 1 6 weight_4) named_elsewhere gives writes 38 (one_arc 1 5 (units 5)) (0 ∷ 0 ∷ []))
    ∷ (applying (6 ∷ []) named_in_vain gives writes 12 nothing [])
    ∷ (applying (7 ∷ []) named_in_vain gives writes 38 (one_arc 7 7 weight_1) (1 ∷ []))
    ∷ []

-- Point 5: 18 for an any arc on the left of a composition, after that table's 8 and before 1, 2 and 8 of the right one; the buffers are kept.
abbrev pub left_any_rows : List Case
left_any_rows =
    (composing (any_arc (label 5) weight_1) (one_arc 5 6 weight_1) gives refused 18)
    ∷ (composing (any_arc (label 5) weight_1000001) (one_arc 5 6 weight_1) gives refused 8)
    ∷ (composing (any_arc (label 5) weight_1) (0 ∷ 0 ∷ 0 ∷ []) gives refused 18)
    ∷ (composing (any_arc (label 5) weight_1) [] gives refused 18)
    ∷ (composing (any_arc (label 5) weight_1) (one_arc 5 6 weight_1000001) gives refused 18)
    ∷ (composing (one_arc 4 5 weight_1) (0 ∷ 0 ∷ 0 ∷ []) gives refused 1)
    ∷ []

-- Point 8: a weight goes down to -1,000,000; one less: 8. Of an arc, of a final state.
abbrev pub least_weight_rows : List Case
least_weight_rows =
    (reading (one_arc 1 2 rebate_1000000) gives table_read 2 1 1 0 (1 ∷ []) (amount 0 ∷ []) (0 ∷ 1 ∷ 2 ∷ 1 ∷ []) (rebate 1000000 ∷ []))
    ∷ (reading (one_arc 1 2 rebate_1000001) gives refused 8)
    ∷ (reading (one_final rebate_1000000) gives table_read 1 0 1 0 (0 ∷ []) (rebate 1000000 ∷ []) [] [])
    ∷ (reading (one_final rebate_1000001) gives refused 8)
    -- -600,000 - 400,000 composes; - 400,001: 13, and all zeros. 1,000,000 - 1,000,000 composes too.
    ∷ (composing (one_arc 1 2 rebate_600000) (one_arc 2 3 rebate_400000) gives writes 38 (one_arc 1 3 rebate_1000000) (0 ∷ 0 ∷ []))
    ∷ (composing (one_arc 1 2 rebate_600000) (one_arc 2 3 rebate_400001) gives refused_with_zeros 13)
    ∷ (composing (one_final rebate_600000) (one_final rebate_400000) gives writes 22 (one_final rebate_1000000) [])
    ∷ (composing (one_final rebate_600000) (one_final rebate_400001) gives refused_with_zeros 13)
    ∷ (composing (one_arc 1 2 weight_1000000) (one_arc 2 3 rebate_1000000) gives writes 38 (one_arc 1 3 (units 0)) (0 ∷ 0 ∷ []))
    ∷ []

-- Point 7: the shortest path is that of least cost, then of fewest labels, then of fewest arcs, then the first in path order. A row for each of these rules,
-- in which those that follow it would decide otherwise.
abbrev pub tie_rows : List Case
tie_rows =
    (shortest_path lesser_cost gives tells 2 (1 ∷ 2 ∷ []) (5 ∷ 6 ∷ []))
    ∷ (shortest_path fewer_labels gives tells 2 (1 ∷ 2 ∷ []) [])
    ∷ (shortest_path fewer_arcs gives tells 2 (1 ∷ []) (6 ∷ []))
    ∷ (shortest_path (like_arcs 2) gives tells 5 (0 ∷ []) (2 ∷ []))
    ∷ []

-- Paper 01: path order compares arc numbers from the front, and a path comes before its extensions.
abbrev pub order_rows : List Case
order_rows =
    (counting all_final gives counts 4)
    ∷ (kth_path all_final 0 gives tells 0 [] [])
    ∷ (kth_path all_final 1 gives tells 1 (0 ∷ []) (2 ∷ []))
    ∷ (kth_path all_final 2 gives tells 2 (0 ∷ 2 ∷ []) (2 ∷ 4 ∷ []))
    ∷ (kth_path all_final 3 gives tells 1 (1 ∷ []) (3 ∷ []))
    ∷ (kth_path all_final 4 gives refused 15)
    ∷ []

-- Point 8: 19 of the shortest path for a cycle below zero on an accepting path, after 16; the buffers are kept. A cycle below zero elsewhere does not matter,
-- nor does one that sums to zero.
abbrev pub cycle_rows : List Case
cycle_rows =
    (shortest_path negative_cycle_loop gives refused 19)
    ∷ (counting negative_cycle_loop gives refused 14)
    ∷ (shortest_path negative_cycle_in_vain gives refused 16)
    ∷ (shortest_path negative_cycle_aside gives tells 0 [] [])
    ∷ (shortest_path negative_cycle_unreached gives tells 0 [] [])
    ∷ (shortest_path level_cycle gives tells 0 [] [])
    ∷ []

-- The cells of the first states; the others, up to 1,024, hold none.
abbrev pub costs : (first : List Weight) → Answer
costs first = cells_told (first ++ replicate (1024 - length first) (amount 1000000000001))

-- Points 2 and 8: the least cost still to come from each state, none written as 1,000,000,000,001; 19 for a cycle below zero from which a final state can be
-- reached, whether the start reaches it or not.
abbrev pub distance_rows : List Case
distance_rows =
    (distances nothing gives costs [])
    ∷ (distances lesser_cost gives costs (amount 2 ∷ amount 1 ∷ amount 0 ∷ []))
    ∷ (distances level_cycle gives costs (amount 0 ∷ rebate 1 ∷ []))
    ∷ (distances negative_cycle_aside gives costs (amount 0 ∷ []))
    ∷ (distances negative_cycle_loop gives refused 19)
    ∷ (distances negative_cycle_unreached gives refused 19)
    ∷ []

-- The table: rows on labels, and rows on weights, costs and the order of paths.
abbrev pub label_rows : List Case
label_rows = any_applied_rows ++ any_composed_rows ++ any_label_rows ++ named_rows ++ left_any_rows

abbrev pub cost_rows : List Case
cost_rows = least_weight_rows ++ tie_rows ++ order_rows ++ cycle_rows ++ distance_rows

abbrev pub rows : List Case
rows = label_rows ++ cost_rows
