-- The bytes that are written are those that were read.
use Rattle.std.proofs.Common.{ℕ, ◌≡◌, ◌+◌, ◌-◌, ◌∙◌}
use native.Mathlib.Omega.{arith}
use Rattle.explore.proofs.MovedArcs.{record_moved}
use Rattle.explore.proofs.move_record.Goals as goal

pub returns : goal.returns
returns c =
    let a = c.args in
    let of : (k : ℕ) → k + 16 - k ≡ 16 = λ k. omega arith in
    record_moved a.table.now _ a.from a.to 16 _ c.requires.0 c.requires.1 (of a.to) (c.copy_from_slice-2.ensures.after ∙ rw of at c.copy_from_slice.ensures.after)
