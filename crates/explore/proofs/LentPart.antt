-- A walk that is lent the part of a buffer from a place on: what it leaves there, said of the whole buffer. Assumes nothing.
use mathlib.Core.Path.{◌≡◌, sym, ap, ◌∙◌}
use mathlib.Core.List.{List, [], ◌++◌, append-nil}
use Prim.Native.Nat.{ℕ, ◌-◌, ◌≤◌}
use lib.ListN.{length, take, drop, length-drop}
use lib.Seq.{drop_at, drop-length, length-take-le}
use borrow.Author.Rules.{part_to_end}
use Rattle.explore.specs.declared.Walk.{Walk}
use Rattle.explore.specs.Walk.{Sofar, WalkSays}

-- What is left in the part stands in the whole.
pub part_stands : (table part table' : List ℕ) (from : ℕ) → from ≤ length table
    → table' ≡ take from table ++ (part ++ drop (length table - from) (drop from table)) → drop from table' ≡ part
part_stands table part table' from inside whole =
    let none : drop (length table - from) (drop from table) ≡ [] =
    ap (λ (n : ℕ). drop n (drop from table)) (sym (length-drop from table)) ∙ drop-length (drop from table) in
    ap (λ (l : List ℕ). drop from l) whole
    ∙ drop_at (take from table) (part ++ drop (length table - from) (drop from table)) from (length-take-le from table inside)
    ∙ ap (λ (l : List ℕ). part ++ l) none
    ∙ append-nil part

pub says_behind : (width : ℕ) (b : Sofar) (w : Walk) (table part table' origins origins' states states' : List ℕ) (from : ℕ) → from ≤ length table
    → table' ≡ take from table ++ (part ++ drop (length table - from) (drop from table))
    → WalkSays width b w (take (length table - from) (drop from table)) part origins origins' states states'
    → WalkSays width b w (drop from table) (drop from table') origins origins' states states'
says_behind width b w table part table' origins origins' states states' from inside whole says =
    rw (part_stands table part table' from inside whole, ← part_to_end table from) says
