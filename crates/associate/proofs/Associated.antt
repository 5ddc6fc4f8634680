-- What is claimed of three transducers in either bracket holds of any four compositions that were not refused, and of any string applied to both
-- results. Assumes nothing.
use mathlib.Core.Path.{◌≡◌}
use mathlib.Core.Bool.{true}
use mathlib.Core.List.{List}
use Prim.Native.Nat.{ℕ}
use Rattle.transducer.specs.Format.{Good, decode}
use Rattle.transducer.specs.Each.{plain}
use Rattle.transducer.proofs.Fits.{named_plain}
use Rattle.transducer.proofs.Good.{good_tests}
use Rattle.transducer.proofs.RoundTrip.{accepted_good}
use Rattle.trim.specs.Trim.{through}
use Rattle.compose.specs.Composition.{composed_bytes}
use Rattle.compose.proofs.Called.{composable, composition_good, composition_plain, composition_accepted, composition_pairs}
use Rattle.lattice.specs.Application.{Application, lattice_bytes}
use Rattle.lattice.proofs.Called.{applied_good, applied_accepted, applied_reads}
use Rattle.claim.specs.Kind.{PathsAre}
use Rattle.claim.specs.Agree.{Holds}
use Rattle.claim.proofs.Chain.{lattice_paths}
use Rattle.claim.proofs.Agreeing.{holds, agree}
use Rattle.associate.specs.Associate.{Brackets, TripleOf, Triples, TriplesOf, ThreePaths}
use Rattle.associate.specs.Associate.{left_result, right_result, left_leads, right_leads, Associates, AppliedAlike}
use Rattle.associate.proofs.Triples.{left_paths, right_paths}

module _ {a b c : List ℕ} (r : Brackets a b c) where
  good_a : Good (decode a)
  good_a = accepted_good a r.a_bytes (composable r.ab).left_good

  good_b : Good (decode b)
  good_b = accepted_good b r.b_bytes (composable r.ab).right_good

  good_c : Good (decode c)
  good_c = accepted_good c r.c_bytes (composable r.bc).right_good

  good_ab : Good (decode (composed_bytes r.ab))
  good_ab = composition_good good_a good_b r.ab

  good_bc : Good (decode (composed_bytes r.bc))
  good_bc = composition_good good_b good_c r.bc

  good_left : Good (decode (left_result r))
  good_left = composition_good good_ab good_c r.ab_c

  good_right : Good (decode (right_result r))
  good_right = composition_good good_a good_bc r.a_bc

  -- The second transducer has no arc for any symbol, by 18 of its composition with the third.
  plain_b : plain (decode b) ≡ true
  plain_b = named_plain (decode b) (good_tests (decode b) good_b).labels (composable r.bc).left_no_any

  plain_bc : plain (decode (composed_bytes r.bc)) ≡ true
  plain_bc = composition_plain good_b good_c r.bc

  plain_left : plain (decode (left_result r)) ≡ true
  plain_left = composition_plain good_ab good_c r.ab_c

  plain_right : plain (decode (right_result r)) ≡ true
  plain_right = composition_plain good_a good_bc r.a_bc

  left : PathsAre (Triples (decode a) (decode b) (decode c)) (decode (left_result r)) (left_leads r)
  left =
      left_paths (decode a) (decode b) (decode c) (decode (composed_bytes r.ab)) (decode (left_result r)) r.ab.origins_left r.ab_c.origins_left
      plain_b (composition_pairs good_a good_b r.ab) (composition_pairs good_ab good_c r.ab_c)

  right : PathsAre (Triples (decode a) (decode b) (decode c)) (decode (right_result r)) (right_leads r)
  right =
      right_paths (decode a) (decode b) (decode c) (decode (composed_bytes r.bc)) (decode (right_result r)) r.bc.origins_left
      r.a_bc.origins_left plain_b plain_bc (composition_pairs good_b good_c r.bc) (composition_pairs good_a good_bc r.a_bc)

  pub associates : Associates r
  associates =
      agree (Triples (decode a) (decode b) (decode c)) (left_result r) (right_result r) (left_leads r) (right_leads r)
      (holds (Triples (decode a) (decode b) (decode c)) (left_result r) (left_leads r) (composition_accepted good_ab good_c r.ab_c) good_left
      left)
      (holds (Triples (decode a) (decode b) (decode c)) (right_result r) (right_leads r) (composition_accepted good_a good_bc r.a_bc)
      good_right right)

  -- A lattice of either result: its paths are the triples of the string.
  applied_holds : (string zs : List ℕ) (x : Application string zs) (to : List ℕ → ThreePaths) → Good (decode zs) → plain (decode zs) ≡ true
      → PathsAre (Triples (decode a) (decode b) (decode c)) (decode zs) to
      → Holds (TriplesOf (decode a) (decode b) (decode c) string) (lattice_bytes x) (λ p. to (through x.origins_left p))
  applied_holds string zs x to good none are =
      holds (TriplesOf (decode a) (decode b) (decode c) string) (lattice_bytes x) (λ p. to (through x.origins_left p))
      (applied_accepted good x) (applied_good good x)
      (lattice_paths (Triples (decode a) (decode b) (decode c)) (TripleOf (decode a) (decode b) (decode c) string) string
      (λ y t h. record { triple = t; reads = h }) (λ y t. (t.triple, t.reads)) (decode zs) (decode (lattice_bytes x)) x.origins_left to are none
      (applied_reads good x))

  pub applied_alike : (string : List ℕ) (x : Application string (left_result r)) (y : Application string (right_result r)) → AppliedAlike r string x y
  applied_alike string x y =
      agree (TriplesOf (decode a) (decode b) (decode c) string) (lattice_bytes x) (lattice_bytes y) (λ p. left_leads r (through x.origins_left p))
      (λ p. right_leads r (through y.origins_left p)) (applied_holds string (left_result r) x (left_leads r) good_left plain_left left)
      (applied_holds string (right_result r) y (right_leads r) good_right plain_right right)
