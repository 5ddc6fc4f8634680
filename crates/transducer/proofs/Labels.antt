-- The labels of arcs: of 16 bits where a transducer's labels are good, and none is 65,535 on an arc that does not read it. Assumes nothing.
use Rattle.std.proofs.Common.{◌≡◌, ℕ, ◌<◌, ◌≤◌, true, ◌&&◌, eqb, ltb, leb, length, arith, ltb-true, lt-ltb, ne_eqb, eqb-true, leb-true}
use Rattle.wire.proofs.Places.{every_get_or}
use Rattle.wire.proofs.Bool.{by_test, and-true}
use Rattle.transducer.specs.Format.{Transducer, any, labels_good, all_labels_good}
use Rattle.transducer.specs.Path.{arc, no_arc}

pub record Unbarred (input output : ℕ) : Type 0 where
  pub read : input < any
  pub written : output < any

pub good_unbarred : (input output : ℕ) → labels_good input output ≡ true → input < any → Unbarred input output
unfolding labels_good
good_unbarred input output h l =
    let g : ltb input any && ltb output any ≡ true = rw (ne_eqb input any (λ e. omega arith)) at h in
    record { read = l; written = ltb-true output any (and-true (ltb input any) (ltb output any) g).1 }

pub unbarred_good : (input output : ℕ) → Unbarred input output → labels_good input output ≡ true
unfolding labels_good
unbarred_good input output r =
    rw (ne_eqb input any (λ e. omega (arith, r.read)), lt-ltb input any r.read, lt-ltb output any r.written)

-- Labels of 16 bits.
pub record ShortLabels (input output : ℕ) : Type 0 where
  pub read : input ≤ any
  pub written : output ≤ any

pub good_short : (input output : ℕ) → labels_good input output ≡ true → ShortLabels input output
unfolding labels_good
good_short input output h =
    by_test (eqb input any)
    (λ e. let g : leb output any ≡ true = rw e at h in record { read = omega (arith, eqb-true input any e); written = leb-true output any g })
    (λ e. let g : ltb input any && ltb output any ≡ true = rw e at h in
    let p = and-true (ltb input any) (ltb output any) g in
    record { read = omega (arith, ltb-true input any p.0); written = omega (arith, ltb-true output any p.1) })

module _ (t : Transducer) (i : ℕ) (good : all_labels_good t ≡ true) (below : i < length t.arcs) where
  arc_good : labels_good (arc t i).input (arc t i).output ≡ true
  unfolding all_labels_good arc
  arc_good = every_get_or (λ a. labels_good a.input a.output) t.arcs i no_arc good below

  pub arc_unbarred : (arc t i).input < any → Unbarred (arc t i).input (arc t i).output
  arc_unbarred l = good_unbarred (arc t i).input (arc t i).output arc_good l

  pub arc_short : ShortLabels (arc t i).input (arc t i).output
  arc_short = good_short (arc t i).input (arc t i).output arc_good
