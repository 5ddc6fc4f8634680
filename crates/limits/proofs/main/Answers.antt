-- The buffer has as many cells as it is made with. By the lemma, since computing its length is too deep for the checker.
use Rattle.std.proofs.Common.{ℕ, sym}
use Rattle.std.proofs.lemmas.List.{length-replicate}
use Rattle.limits.proofs.main.Goals as goal

pub slice_bounds-run_input-end : goal.slice_bounds-run_input-end
slice_bounds-run_input-end c = sym (length-replicate {0} {A = ℕ} 655360 0)
