-- Where accepting paths stand for things of a kind, each k below the count tells one of them, each once, in path order. Assumes nothing.
use mathlib.Core.Path.{◌≡◌, sym, ap, ◌∙◌}
use mathlib.Core.Bool.{true, false}
use mathlib.Core.List.{List, []}
use Prim.Native.Nat.{ℕ, ◌<◌, min}
use native.Mathlib.Omega.{arith}
use lib.ListN.{length}
use Rattle.transducer.specs.Format.{Transducer, refusal, decode}
use Rattle.transducer.specs.Path.{accepts, written_by, path_cost}
use Rattle.transducer.proofs.Members.{distinct_places}
use Rattle.transducer.proofs.Runs.{Within}
use Rattle.paths.specs.Answer.{Counted}
use Rattle.paths.specs.Count.{before, paths, endless, path_count, nth_path}
use Rattle.paths.specs.Entry.{count_refusal, CountSays}
use Rattle.paths.specs.Calls.{Telling, told_arcs}
use Rattle.paths.proofs.Called.{ToldWell, told_well, none_counted, count_told, some_counted}
use Rattle.paths.proofs.Endless.{paths_distinct}
use Rattle.paths.proofs.NthPath.{nth_path_accepts, nth_path_before, nth_path_onto, path_count_listed}
use Rattle.claim.specs.Kind.{Kind, StandsFor, PathsAre}
use Rattle.claim.specs.Listed.{Tells, Lists}

module _ (K : Kind) (bs : List ℕ) (to : List ℕ → K.Thing) (ok : refusal bs ≡ 0) (within : Within (decode bs)) (are : PathsAre K (decode bs) to)
    (r : Counted) (counted : CountSays bs (count_refusal bs) r) (t : Telling bs r.count) where
  abbrev w : Transducer
  w = decode bs

  record ToldAt (k : ℕ) : Type 0 where
    count : r.count ≡ path_count w
    listed : k < length (paths w)
    told : ToldWell w k (t.answer k) (t.arcs_left k) (t.labels_left k)

  told_at : (k : ℕ) → k < r.count → ToldAt k
  told_at k l =
      let none : r.refusal ≡ 0 = some_counted bs r ok counted k l in
      let count : r.count ≡ path_count w = count_told bs r ok counted none in
      let below : k < path_count w = rw count at l in
      record {
        count = count;
        listed = (path_count_listed w k below).0;
        told =
            told_well bs k (t.answer k) (t.arcs k) (t.arcs_left k) (t.labels k) (t.labels_left k) ok (none_counted bs r ok counted none) below
            (t.arcs_room k l) (t.labels_room k l) (t.says k l);
      }

  told_accepting : (k : ℕ) → k < r.count → accepts w (told_arcs t k) ≡ true
  told_accepting k l = let s : ToldAt k = told_at k l in rw s.told.arcs (nth_path_accepts w k s.listed)

  tells : (k : ℕ) → k < r.count → Tells K t k (to (told_arcs t k))
  tells k l =
      let s : ToldAt k = told_at k l in
      let a : accepts w (told_arcs t k) ≡ true = told_accepting k l in
      let f : StandsFor K w (told_arcs t k) (to (told_arcs t k)) = are.leads (told_arcs t k) a in
      record {
        well = s.told.well;
        accepting = a;
        is = f.is;
        output = s.told.labels ∙ ap (written_by w) (sym s.told.arcs) ∙ f.writes;
        cost = s.told.cost ∙ ap (path_cost w) (sym s.told.arcs) ∙ f.costs;
      }

  in_order : (j k : ℕ) → j < k → k < r.count → before (told_arcs t j) (told_arcs t k) ≡ true
  in_order j k h l =
      let x : ToldAt j = told_at j (omega arith) in
      let y : ToldAt k = told_at k l in
      rw (x.told.arcs, y.told.arcs) (nth_path_before w j k h y.listed)

  told_once : (j k : ℕ) → j < r.count → k < r.count → to (told_arcs t j) ≡ to (told_arcs t k) → j ≡ k
  unfolding nth_path
  told_once j k h l e =
      let x : ToldAt j = told_at j h in
      let y : ToldAt k = told_at k l in
      let same : told_arcs t j ≡ told_arcs t k = are.never_two (told_arcs t j) (told_arcs t k) (told_accepting j h) (told_accepting k l) e in
      distinct_places (λ p. p) (paths w) [] j k (paths_distinct w) x.listed y.listed (sym x.told.arcs ∙ same ∙ y.told.arcs)

  all_told : r.refusal ≡ 0 → r.count < 99 → (x : K.Thing) → K.Is x → (k : ℕ) × (k < r.count) × (to (told_arcs t k) ≡ x)
  unfolding path_count
  all_told none few x h =
      let e : endless w ≡ false = none_counted bs r ok counted none in
      let count : r.count ≡ min 99 (length (paths w)) = count_told bs r ok counted none in
      let p = are.every x h in
      let n = nth_path_onto w within e p.0 p.1 in
      let listed : n.0 < length (paths w) = n.1 in
      let below : n.0 < r.count = omega arith in
      (n.0, below, ap to ((told_at n.0 below).told.arcs ∙ n.2) ∙ p.2)

  pub lists : Lists K bs to r t
  lists = record { tells = tells; told_once = told_once; in_order = in_order; all_told = all_told }
