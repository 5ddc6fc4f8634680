-- What the answers of `path_count` and `nth_path` say of accepted bytes. Assumes nothing.
use mathlib.Core.Path.{◌≡◌, refl, sym, ◌∙◌}
use mathlib.Core.Bool.{Bool, true, false, ◌||◌, cond}
use mathlib.Core.Logic.{◌↔◌}
use mathlib.Core.List.{List}
use Prim.Native.Nat.{ℕ, ◌≤◌, ◌<◌}
use native.Mathlib.Omega.{arith}
use lib.Dec.{ltb, leb, eqb}
use lib.ListN.{length, take}
use borrow.Author.Tests.{eqb-true, le-ltb, lt-leb}
use Rattle.wire.proofs.Places.{take_told}
use Rattle.wire.proofs.Bool.{raised_last, not_raised}
use Rattle.transducer.specs.Format.{max_path, Transducer, refusal, decode}
use Rattle.transducer.specs.Path.{written_by, path_cost}
use Rattle.transducer.specs.Entry.{unless, cost_unless, left_in}
use Rattle.transducer.proofs.Answers.{none_or_else, unless_none, left_in_none, cost_unless_none}
use Rattle.report.specs.Answer.{Told}
use Rattle.paths.specs.Answer.{Counted}
use Rattle.paths.specs.Count.{endless, path_count, nth_path}
use Rattle.paths.specs.Entry.{count_refusal, CountSays, nth_refusal, NthSays}
use Rattle.paths.specs.Calls.{Counting, Telling}

-- The path count

module _ (bs : List ℕ) (r : Counted) (ok : refusal bs ≡ 0) (says : CountSays bs (count_refusal bs) r) where
  count_number : r.refusal ≡ cond (endless (decode bs)) 14 0
  unfolding count_refusal
  count_number = says.refusal_is ∙ none_or_else (refusal bs) (cond (endless (decode bs)) 14 0) ok

  pub refused_14 : (r.refusal ≡ 14) ↔ (endless (decode bs) ≡ true)
  refused_14 = (λ h. raised_last (endless (decode bs)) 13 (sym count_number ∙ h), λ e. count_number ∙ (rw e))

  pub counted_none : endless (decode bs) ≡ false → r.refusal ≡ 0
  counted_none e = count_number ∙ (rw e)

  pub none_counted : r.refusal ≡ 0 → endless (decode bs) ≡ false
  none_counted h = (not_raised (endless (decode bs)) 13 0 (sym count_number ∙ h)).0

  pub count_told : r.refusal ≡ 0 → r.count ≡ path_count (decode bs)
  count_told h = says.count_is ∙ unless_none (count_refusal bs) (path_count (decode bs)) (sym says.refusal_is ∙ h)

  -- A count that is not 0 is not refused.
  pub some_counted : (k : ℕ) → k < r.count → r.refusal ≡ 0
  unfolding unless
  some_counted k l = on (eqb (count_refusal bs) 0) refl
    where
      on : (b : Bool) → eqb (count_refusal bs) 0 ≡ b → r.refusal ≡ 0
      on true e = says.refusal_is ∙ eqb-true (count_refusal bs) 0 e
      on false e = let z : r.count ≡ 0 = says.count_is ∙ (rw e) in absurd (omega arith)

-- The k-th path

pub record ToldWell (w : Transducer) (k : ℕ) (r : Told) (a' b' : List ℕ) : Type 0 where
  pub well : r.refusal ≡ 0
  pub arcs : take r.arcs a' ≡ nth_path w k
  pub labels : take r.labels b' ≡ written_by w (nth_path w k)
  pub cost : r.cost ≡ path_cost w (nth_path w k)

pub told_well : (bs : List ℕ) (k : ℕ) (r : Told) (a a' b b' : List ℕ) → refusal bs ≡ 0 → endless (decode bs) ≡ false → k < path_count (decode bs)
    → max_path ≤ length a → max_path ≤ length b → NthSays bs k (nth_refusal bs k (length a) (length b)) r a a' b b' → ToldWell (decode bs) k r a' b'
unfolding nth_refusal
told_well bs k r a a' b b' ok finite below room_a room_b says =
    let w : Transducer = decode bs in
    let p : List ℕ = nth_path w k in
    let number : ℕ = nth_refusal bs k (length a) (length b) in
    let none : number ≡ 0 =
    none_or_else (refusal bs) (cond (ltb (length a) max_path || ltb (length b) max_path) 10 (cond (endless w) 14 (cond (leb (path_count w) k) 15 0))) ok
    ∙ (rw (le-ltb (length a) max_path room_a, le-ltb (length b) max_path room_b, finite, lt-leb (path_count w) k below)) in
    record {
      well = says.refusal_is ∙ none;
      arcs =
          take_told r.arcs (length a) p a' (says.arcs_is ∙ unless_none number (length p) none) (says.arcs ∙ left_in_none number a p none);
      labels =
          take_told r.labels (length b) (written_by w p) b' (says.labels_is ∙ unless_none number (length (written_by w p)) none)
          (says.labels ∙ left_in_none number b (written_by w p) none);
      cost = says.cost_is ∙ cost_unless_none number (path_cost w p) none;
    }

-- There are such calls: on any bytes, with whatever is lent, if it is long enough.

pub some_counting : (bs : List ℕ) → Counting bs
some_counting bs =
    record {
      answer = record { refusal = count_refusal bs; count = unless (count_refusal bs) (path_count (decode bs)) };
      says = record { refusal_is = refl; count_is = refl };
    }

pub some_telling : (bs : List ℕ) (count : ℕ) (x y : List ℕ) → max_path ≤ length x → max_path ≤ length y → Telling bs count
some_telling bs count x y long-x long-y =
    let number : ℕ → ℕ = λ k. nth_refusal bs k (length x) (length y) in
    let p : ℕ → List ℕ = nth_path (decode bs) in
    record {
      answer = λ k.
          record {
            refusal = number k;
            cost = cost_unless (number k) (path_cost (decode bs) (p k));
            arcs = unless (number k) (length (p k));
            labels = unless (number k) (length (written_by (decode bs) (p k)));
          };
      arcs = λ k. x;
      arcs_left = λ k. left_in (number k) x (p k);
      labels = λ k. y;
      labels_left = λ k. left_in (number k) y (written_by (decode bs) (p k));
      says = λ k l. record { refusal_is = refl; cost_is = refl; arcs_is = refl; labels_is = refl; arcs = refl; labels = refl };
      arcs_room = λ k l. long-x;
      labels_room = λ k l. long-y;
    }
