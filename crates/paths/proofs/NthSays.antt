-- What `nth` and `nth_accepted` answer, case by case: a refusal of 1 to 8, a buffer that is too short, 14, 15, and success. Assumes nothing.
use mathlib.Core.Path.{◌≡◌, sym, ap, ◌∙◌}
use mathlib.Core.Bool.{true, false, ◌||◌, cond}
use mathlib.Core.List.{List}
use Prim.Native.Nat.{ℕ, ◌-◌, ◌≤◌, ◌<◌}
use native.Mathlib.Omega.{arith}
use borrow.Author.Tests.{ne_eqb, lt-ltb, le-ltb, le-leb, lt-leb}
use lib.Dec.{eqb, ltb}
use lib.ListN.{length, take, replicate}
use lib.Seq.{take_at}
use Rattle.wire.specs.Bytes.{filled}
use Rattle.wire.proofs.Places.{length_filled}
use Rattle.transducer.specs.Format.{Transducer, max_path, decode, refusal}
use Rattle.transducer.specs.Path.{accepts}
use Rattle.transducer.specs.Entry.{or_else}
use Rattle.capped.specs.declared.Count.{Count}
use Rattle.report.specs.Answer.{Told}
use Rattle.paths.specs.Count.{endless, path_count, nth_path}
use Rattle.paths.specs.Sweep.{at_state, Totalled}
use Rattle.report.specs.Tell.{Tells}
use Rattle.paths.specs.Entry.{accepted_nth_refusal, nth_refusal, NthSays}
use Rattle.paths.proofs.Sweep.{settled_path_count}
use Rattle.paths.proofs.NthPath.{nth_path_accepts, path_count_listed, nth_path_short}
use Rattle.report.proofs.PathTold.{refused_told, told_refused, told_found}
use Rattle.paths.proofs.Ready.{Sized}

-- The path in its buffer, as it is told.
pub record Found (t : Transducer) (k len : ℕ) (a' : List ℕ) : Type 0 where
  pub taken : take len a' ≡ nth_path t k
  pub inside : len ≤ length a'
  pub few : len ≤ 1023
  pub accepted : accepts t (take len a') ≡ true

module _ (bs : List ℕ) (k : ℕ) {a b : List ℕ} {r : Told} where
  -- 1 to 8
  pub nth_bad : {n : ℕ} → n ≡ refusal bs → (n ≡ 0 → ⊥) → r ≡ refused_told n → NthSays bs k (nth_refusal bs k (length a) (length b)) r a a b b
  unfolding nth_refusal or_else
  nth_bad {n} e nonzero h =
      let rest : ℕ = cond (ltb (length a) max_path || ltb (length b) max_path) 10 (accepted_nth_refusal (decode bs) k) in
      let number : cond (eqb (refusal bs) 0) rest (refusal bs) ≡ n = rw (← e, ne_eqb n 0 nonzero) in
      told_refused (decode bs) (nth_path (decode bs) k) (nth_refusal bs k (length a) (length b)) n r a b number nonzero h

  -- 10
  pub nth_short_arcs : {n : ℕ} → n ≡ refusal bs → n ≡ 0 → length a < 1023 → r ≡ refused_told 10
      → NthSays bs k (nth_refusal bs k (length a) (length b)) r a a b b
  unfolding nth_refusal or_else
  nth_short_arcs e z l h =
      let ok : refusal bs ≡ 0 = sym e ∙ z in
      told_refused (decode bs) (nth_path (decode bs) k) (nth_refusal bs k (length a) (length b)) 10 r a b (rw (ok, lt-ltb (length a) 1023 l))
      (λ q. omega arith) h

  pub nth_short_labels : {n : ℕ} → n ≡ refusal bs → n ≡ 0 → 1023 ≤ length a → length b < 1023 → r ≡ refused_told 10
      → NthSays bs k (nth_refusal bs k (length a) (length b)) r a a b b
  unfolding nth_refusal or_else
  nth_short_labels e z la l h =
      let ok : refusal bs ≡ 0 = sym e ∙ z in
      told_refused (decode bs) (nth_path (decode bs) k) (nth_refusal bs k (length a) (length b)) 10 r a b
      (rw (ok, le-ltb (length a) 1023 la, lt-ltb (length b) 1023 l)) (λ q. omega arith) h

  -- Accepted bytes and enough room: answered as `nth_accepted` does.
  pub nth_passed : {n : ℕ} {a' b' : List ℕ} → n ≡ refusal bs → n ≡ 0 → max_path ≤ length a → max_path ≤ length b
      → NthSays bs k (accepted_nth_refusal (decode bs) k) r a a' b b' → NthSays bs k (nth_refusal bs k (length a) (length b)) r a a' b b'
  unfolding nth_refusal or_else
  nth_passed e z la lb says =
      let ok : refusal bs ≡ 0 = sym e ∙ z in
      rw (ok, le-ltb (length a) max_path la, le-ltb (length b) max_path lb) says

  -- 14
  pub nth_endless : endless (decode bs) ≡ true → r ≡ refused_told 14 → NthSays bs k (accepted_nth_refusal (decode bs) k) r a a b b
  nth_endless ends h =
      told_refused (decode bs) (nth_path (decode bs) k) (accepted_nth_refusal (decode bs) k) 14 r a b (rw ends) (λ q. omega arith) h

  -- 15
  pub nth_none : endless (decode bs) ≡ false → path_count (decode bs) ≤ k → r ≡ refused_told 15
      → NthSays bs k (accepted_nth_refusal (decode bs) k) r a a b b
  nth_none finite many h =
      told_refused (decode bs) (nth_path (decode bs) k) (accepted_nth_refusal (decode bs) k) 15 r a b
      (rw (finite, le-leb (path_count (decode bs)) k many)) (λ q. omega arith) h

  pub nth_found : {len : ℕ} {a' b' : List ℕ} → endless (decode bs) ≡ false → k < path_count (decode bs)
      → a' ≡ filled (length a) (nth_path (decode bs) k) → Found (decode bs) k len a' → Tells (decode bs) (take len a') r b b'
      → NthSays bs k (accepted_nth_refusal (decode bs) k) r a a' b b'
  nth_found {a' = a'} {b' = b'} finite there put path told' =
      let told : Tells (decode bs) (nth_path (decode bs) k) r b b' = rw path.taken at told' in
      told_found (decode bs) (nth_path (decode bs) k) (accepted_nth_refusal (decode bs) k) r a a' b b'
      (rw (finite, lt-leb (path_count (decode bs)) k there)) put told

-- The count that was found at the start.
pub start_count : (t : Transducer) → Sized t → (cs : List Count) (start : ℕ) → Totalled t cs → start ≡ t.start → at_state cs start ≡ path_count t
start_count t z cs start k e = rw e (settled_path_count t z.within cs k.settled k.finite)

pub found : (t : Transducer) → Sized t → (k len : ℕ) (a a' : List ℕ) → endless t ≡ false → k < path_count t → 1023 ≤ length a
    → a' ≡ filled (length a) (nth_path t k) → len ≡ length (nth_path t k) → Found t k len a'
unfolding filled
found t z k len a a' finite there room put long =
    let p : List ℕ = nth_path t k in
    let few : length p ≤ 1023 = omega (arith, nth_path_short t z.within finite k there, z.states) in
    let whole : length a' ≡ length a = ap length put ∙ length_filled (length a) p (omega arith) in
    let taken : take len a' ≡ p = ap (λ (x : List ℕ). take len x) put ∙ take_at p (replicate (length a - length p) 0) len (sym long) in
    record {
      taken = taken;
      inside = omega arith;
      few = omega arith;
      accepted = rw taken (nth_path_accepts t k (path_count_listed t k there).0);
    }
