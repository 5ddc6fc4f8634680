-- The one proof of the worked rows: each holds, by computing what the definitions give, and so each is what its call promises.
-- Assumes nothing.
use mathlib.Core.Path.{refl}
use mathlib.Core.List.{◌++◌}
use Rattle.starred.specs.Answer.{AllHold}
use Rattle.starred.specs.Cases.{repeated}
use Rattle.starred.specs.Promise.{AllPromised}
use Rattle.starred.proofs.Computing.{definitions, together}
use Rattle.starred.proofs.Promised.{hold_promised}
use Rattle.worked.specs.Rows.{any_applied_rows, any_composed_rows, any_label_rows, named_rows, left_any_rows, least_weight_rows, tie_rows}
use Rattle.worked.specs.Rows.{order_rows, cycle_rows, distance_rows, label_rows, cost_rows, rows}

-- Each group by itself, so that a refusal names the group and shows where the two sides differ.

any_applied_hold : AllHold any_applied_rows
unfolding definitions
any_applied_hold = refl

any_composed_hold : AllHold any_composed_rows
unfolding definitions
any_composed_hold = refl

any_label_hold : AllHold any_label_rows
unfolding definitions
any_label_hold = refl

named_hold : AllHold named_rows
unfolding definitions
named_hold = refl

left_any_hold : AllHold left_any_rows
unfolding definitions
left_any_hold = refl

least_weight_hold : AllHold least_weight_rows
unfolding definitions
least_weight_hold = refl

tie_hold : AllHold tie_rows
unfolding definitions repeated
tie_hold = refl

order_hold : AllHold order_rows
unfolding definitions
order_hold = refl

cycle_hold : AllHold cycle_rows
unfolding definitions
cycle_hold = refl

distance_hold : AllHold distance_rows
unfolding definitions
distance_hold = refl

label_hold : AllHold label_rows
label_hold =
    together any_applied_rows (any_composed_rows ++ any_label_rows ++ named_rows ++ left_any_rows) any_applied_hold
    (together any_composed_rows (any_label_rows ++ named_rows ++ left_any_rows) any_composed_hold
    (together any_label_rows (named_rows ++ left_any_rows) any_label_hold
    (together named_rows left_any_rows named_hold left_any_hold)))

cost_hold : AllHold cost_rows
cost_hold =
    together least_weight_rows (tie_rows ++ order_rows ++ cycle_rows ++ distance_rows) least_weight_hold
    (together tie_rows (order_rows ++ cycle_rows ++ distance_rows) tie_hold
    (together order_rows (cycle_rows ++ distance_rows) order_hold
    (together cycle_rows distance_rows cycle_hold distance_hold)))

pub rows_hold : AllHold rows
rows_hold = together label_rows cost_rows label_hold cost_hold

pub rows_promised : AllPromised rows
rows_promised = hold_promised rows rows_hold
