-- How long a path is, and which of two costs and sizes comes first. Assumes nothing: these are definitions.
use Rattle.std.specs.Prelude.{Bool, ◌&&◌, ◌||◌, List, ℕ, ltb, leb, length}
use Rattle.transducer.specs.Format.{Transducer}
use Rattle.transducer.specs.Path.{written_by}
use Rattle.transducer.specs.Weight.{Weight, at_most, below}

-- How long a path is: how many labels it writes, none of them empty, and how many arcs it has.
pub record Size : Type 0 where
  pub labels : ℕ
  pub arcs : ℕ

unfoldable pub size_of : Transducer → (path : List ℕ) → Size
size_of t p = record { labels = length (written_by t p); arcs = length p }

-- Whether a cost and a size come before another: less cost, then fewer labels, then fewer arcs.
unfoldable pub nearer : (cost : Weight) → Size → (cost' : Weight) → Size → Bool
nearer x l y k = below x y || (at_most x y && (ltb l.labels k.labels || (leb l.labels k.labels && ltb l.arcs k.arcs)))
