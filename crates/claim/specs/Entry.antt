-- What the one call answers, and what its answer says of the pairs. Assumes nothing: these are definitions.
use Rattle.std.specs.Prelude.{◌≡◌, cond, List, ℕ}
use Rattle.transducer.specs.Format.{Transducer}
use Rattle.transducer.specs.Entry.{or_else, unless}
use Rattle.compose.specs.Entry.{composition, composition_refusal}
use Rattle.lattice.specs.Lattice.{lattice}
use Rattle.lattice.specs.ApplyEntry.{application_refusal}
use Rattle.paths.specs.Answer.{Counted}
use Rattle.paths.specs.Count.{endless, path_count}
use Rattle.claim.specs.Kind.{Counts}
use Rattle.claim.specs.Claim.{Pairs}

-- The lattice of a string and the composition of what is in two transducers' bytes.
abbrev pub composition_lattice : (left right string : List ℕ) → Transducer
composition_lattice xs ys cs = lattice cs (composition xs ys)

-- The composition's number, then the application's, then 14 where accepting paths are infinitely many.
unfoldable pub readings_refusal : (left right string : List ℕ) → ℕ
readings_refusal xs ys cs =
    or_else (composition_refusal xs ys)
    (or_else (application_refusal cs (composition xs ys)) (cond (endless (composition_lattice xs ys cs)) 14 0))

pub record ReadingsSays (left right string : List ℕ) (r : Counted) : Type 0 where
  pub refusal_is : r.refusal ≡ readings_refusal left right string
  pub count_is : r.count ≡ unless (readings_refusal left right string) (path_count (composition_lattice left right string))
  -- The claim's part on the number of pairs, where neither composition nor application is refused.
  pub counts : composition_refusal left right ≡ 0 → application_refusal string (composition left right) ≡ 0 → Counts (Pairs left right string) r
