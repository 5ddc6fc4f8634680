-- The invariant: the first `i` labels are loaded.
use Rattle.std.proofs.Common.{◌≡◌, length, take}
use Rattle.listing.specs.Code.{labels_in, most_loaded}
use Rattle.listing.proofs.code.load_labels.Given as goal

abbrev pub invariant-loop-i : goal.invariant-loop-i
invariant-loop-i l = record { long : length l.string ≡ most_loaded; loaded : take l.i l.string ≡ take l.i (labels_in l.bytes) }
