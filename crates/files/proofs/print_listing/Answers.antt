-- The buffer has as many cells as it is made with. By the lemma, since computing its length is too deep for the checker.
use Rattle.std.proofs.Common.{ℕ, sym}
use Rattle.std.proofs.lemmas.List.{length-replicate}
use Rattle.files.proofs.print_listing.Goals as goal

pub slice_bounds-print_text-end : goal.slice_bounds-print_text-end
slice_bounds-print_text-end g c = sym (length-replicate {0} {A = ℕ} 602996 0)
