-- Arrays of zeros that are long enough (`cleared`).
use Rattle.std.proofs.Common.{ℕ}
use Rattle.transducer.specs.Weight.{no_weight}
use Rattle.relax.proofs.EmptyPaths.{cleared}
use Rattle.shortest.proofs.entry.shortest_in.Goals as goal

pub shortest_by-requires : goal.shortest_by-requires
shortest_by-requires g c = (c.requires.0, cleared no_weight _ _ c.requires.1, cleared {A = ℕ} 0 _ _ c.requires.1, c.requires.3, c.requires.4)
