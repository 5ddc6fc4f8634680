-- A path told: where it is refused, and where it is told with its arcs put in their buffer before. Assumes nothing.
use mathlib.Core.Path.{◌≡◌, refl}
use mathlib.Core.Bool.{false}
use mathlib.Core.List.{List}
use Prim.Native.Nat.{ℕ}
use borrow.Author.Tests.{ne_eqb}
use lib.Dec.{eqb}
use lib.ListN.{length}
use Rattle.wire.specs.Bytes.{filled}
use Rattle.transducer.specs.Format.{Transducer}
use Rattle.transducer.specs.Entry.{unless, cost_unless, left_in}
use Rattle.transducer.specs.Weight.{no_weight}
use Rattle.report.specs.Answer.{Told}
use Rattle.report.specs.Tell.{PathTold, Tells}

abbrev pub refused_told : ℕ → Told
refused_told n = record { refusal = n; cost = no_weight; arcs = 0; labels = 0 }

pub told_refused : (t : Transducer) (p : List ℕ) (number n : ℕ) (r : Told) (a b : List ℕ) → number ≡ n → (n ≡ 0 → ⊥) → r ≡ refused_told n
    → PathTold t p number r a a b b
unfolding unless cost_unless left_in
told_refused t p number n r a b e nonzero h =
    let test : eqb n 0 ≡ false = ne_eqb n 0 nonzero in
    rw (e, h) (record {
      refusal_is = refl;
      cost_is = rw test;
      arcs_is = rw test;
      labels_is = rw test;
      arcs = rw test;
      labels = rw test;
    })

pub told_found : (t : Transducer) (p : List ℕ) (number : ℕ) (r : Told) (a a' b b' : List ℕ) → number ≡ 0 → a' ≡ filled (length a) p → Tells t p r b b'
    → PathTold t p number r a a' b b'
unfolding unless cost_unless left_in
told_found t p number r a a' b b' e put told =
    rw e (record {
      refusal_is = told.refusal_is;
      cost_is = told.cost_is;
      arcs_is = told.arcs_is;
      labels_is = told.labels_is;
      arcs = put;
      labels = told.labels;
    })
