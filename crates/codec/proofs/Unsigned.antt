-- Bytes that were accepted while weights had no sign are accepted as the transducer that they were. Of weights only `weight_as_before` is used; the other
-- tests do not look at them. Assumes nothing.
use mathlib.Core.Path.{◌≡◌, refl, sym, ap, ap₂, ◌∙◌}
use mathlib.Core.Bool.{Bool, true, false, ◌&&◌, not, cond}
use mathlib.Core.List.{List, [], ◌∷◌}
use Prim.Native.Nat.{ℕ, suc, ◌+◌, ◌≤◌}
use native.Mathlib.Omega.{arith}
use borrow.Author.Tests.{leb-true}
use lib.Dec.{leb, ltb, eqb}
use lib.ListN.{length}
use Rattle.wire.specs.Bytes.{two, four, every}
use Rattle.wire.proofs.Bool.{by_test, and-true, true_and, passed}
use Rattle.transducer.specs.declared.Arc.{Arc}
use Rattle.transducer.specs.declared.Final.{Final}
use Rattle.transducer.specs.Format.{weight_limit, Transducer, Record, max_weight, framed, records, kinds_good, head_states, head_arcs, head_finals, head_start}
use Rattle.transducer.specs.Format.{finals_in, arcs_in, decode, head_good, states_good, finals_rise, sources_stay, order_good, labels_good}
use Rattle.transducer.specs.Format.{all_labels_good, weight_good, weight_at, weights_good, first_of, content_refusal, refusal}
use Rattle.transducer.specs.Weight.{Weight, amount, at_most}
use Rattle.transducer.proofs.Weights.{weight_as_before}
use Rattle.codec.specs.Unsigned.{unsigned_at, unsigned_finals, unsigned_arcs, unsigned_decode}
use Rattle.codec.specs.Unsigned.{unsigned_weights_good, unsigned_refusal, AsBefore, AlwaysAsBefore}

-- What does not look at weights

length_finals : (bs : List ℕ) (rs : List Record) → length (finals_in bs rs) ≡ length (unsigned_finals bs rs)
unfolding finals_in unsigned_finals
length_finals bs [] = refl
length_finals bs (r ∷ rs) =
    by_test (eqb r.kind 2) (λ e. rw e (ap suc (length_finals bs rs))) (λ e. rw e (length_finals bs rs))

length_arcs : (bs : List ℕ) (rs : List Record) → length (arcs_in bs rs) ≡ length (unsigned_arcs bs rs)
unfolding arcs_in unsigned_arcs
length_arcs bs [] = refl
length_arcs bs (r ∷ rs) = by_test (eqb r.kind 3) (λ e. rw e (ap suc (length_arcs bs rs))) (λ e. rw e (length_arcs bs rs))

every_final : (bs : List ℕ) (t : ℕ → Bool) (rs : List Record)
    → every (λ f. t f.state) (finals_in bs rs) ≡ every (λ f. t f.state) (unsigned_finals bs rs)
unfolding finals_in unsigned_finals every
every_final bs t [] = refl
every_final bs t (r ∷ rs) =
    by_test (eqb r.kind 2) (λ e. rw e (ap (λ (b : Bool). t (two bs r.body) && b) (every_final bs t rs))) (λ e. rw e (every_final bs t rs))

every_arc : (bs : List ℕ) (t : ℕ → ℕ → ℕ → ℕ → Bool) (rs : List Record)
    → every (λ a. t a.source a.input a.output a.target) (arcs_in bs rs)
    ≡ every (λ a. t a.source a.input a.output a.target) (unsigned_arcs bs rs)
unfolding arcs_in unsigned_arcs every
every_arc bs t [] = refl
every_arc bs t (r ∷ rs) =
    let at = r.body in
    by_test (eqb r.kind 3)
    (λ e. rw e (ap (λ (b : Bool). t (two bs at) (two bs (at + 2)) (two bs (at + 4)) (two bs (at + 6)) && b) (every_arc bs t rs)))
    (λ e. rw e (every_arc bs t rs))

same_rise : (bs : List ℕ) (floor : ℕ) (rs : List Record) → finals_rise floor (finals_in bs rs) ≡ finals_rise floor (unsigned_finals bs rs)
unfolding finals_in unsigned_finals finals_rise
same_rise bs floor [] = refl
same_rise bs floor (r ∷ rs) =
    by_test (eqb r.kind 2)
    (λ e. rw e (ap (λ (b : Bool). leb floor (two bs r.body) && b) (same_rise bs (two bs r.body + 1) rs)))
    (λ e. rw e (same_rise bs floor rs))

same_stay : (bs : List ℕ) (floor : ℕ) (rs : List Record) → sources_stay floor (arcs_in bs rs) ≡ sources_stay floor (unsigned_arcs bs rs)
unfolding arcs_in unsigned_arcs sources_stay
same_stay bs floor [] = refl
same_stay bs floor (r ∷ rs) =
    by_test (eqb r.kind 3)
    (λ e. rw e (ap (λ (b : Bool). leb floor (two bs r.body) && b) (same_stay bs (two bs r.body) rs)))
    (λ e. rw e (same_stay bs floor rs))

-- Weights that were good

small : (n : ℕ) → at_most (amount n) max_weight ≡ true → n ≤ weight_limit
small n h = leb-true n weight_limit h

-- What was good is the same, and good.
same_finals : (bs : List ℕ) (rs : List Record) → every (λ f. at_most f.weight max_weight) (unsigned_finals bs rs) ≡ true
    → (finals_in bs rs ≡ unsigned_finals bs rs) × (every (λ f. weight_good f.weight) (finals_in bs rs) ≡ true)
unfolding finals_in unsigned_finals unsigned_at every
same_finals bs [] h = (refl, refl)
same_finals bs (r ∷ rs) h =
    by_test (eqb r.kind 2)
    (λ e.
    let at : ℕ = r.body + 2 in
    let both : (at_most (unsigned_at bs at) max_weight ≡ true) × (every (λ f. at_most f.weight max_weight) (unsigned_finals bs rs) ≡ true) =
    and-true (at_most (unsigned_at bs at) max_weight) (every (λ f. at_most f.weight max_weight) (unsigned_finals bs rs)) (rw e at h) in
    let w = weight_as_before bs at (small (four bs at) both.0) in
    let rest = same_finals bs rs both.1 in
    rw e (
      ap₂ (λ (x : Weight) (l : List Final). record { state = two bs r.body; weight = x } ∷ l) w.0 rest.0,
      true_and (weight_good (weight_at bs at)) (every (λ f. weight_good f.weight) (finals_in bs rs)) w.1 rest.1,
    ))
    (λ e. rw e (same_finals bs rs (rw e at h)))

same_arcs : (bs : List ℕ) (rs : List Record) → every (λ a. at_most a.weight max_weight) (unsigned_arcs bs rs) ≡ true
    → (arcs_in bs rs ≡ unsigned_arcs bs rs) × (every (λ a. weight_good a.weight) (arcs_in bs rs) ≡ true)
unfolding arcs_in unsigned_arcs unsigned_at every
same_arcs bs [] h = (refl, refl)
same_arcs bs (r ∷ rs) h =
    by_test (eqb r.kind 3)
    (λ e.
    let b : ℕ = r.body in
    let at : ℕ = b + 8 in
    let both : (at_most (unsigned_at bs at) max_weight ≡ true) × (every (λ a. at_most a.weight max_weight) (unsigned_arcs bs rs) ≡ true) =
    and-true (at_most (unsigned_at bs at) max_weight) (every (λ a. at_most a.weight max_weight) (unsigned_arcs bs rs)) (rw e at h) in
    let w = weight_as_before bs at (small (four bs at) both.0) in
    let rest = same_arcs bs rs both.1 in
    rw e (
      ap₂
          (λ (x : Weight) (l : List Arc).
          record { source = two bs b; input = two bs (b + 2); output = two bs (b + 4); target = two bs (b + 6); weight = x } ∷ l) w.0 rest.0,
      true_and (weight_good (weight_at bs at)) (every (λ a. weight_good a.weight) (arcs_in bs rs)) w.1 rest.1,
    ))
    (λ e. rw e (same_arcs bs rs (rw e at h)))

module _ (bs : List ℕ) where
  abbrev t : Transducer
  t = decode bs

  abbrev u : Transducer
  u = unsigned_decode bs

  same_states : states_good t ≡ states_good u
  unfolding states_good decode unsigned_decode
  same_states =
      ap₂ (λ (x y : Bool). x && y) (every_final bs (λ s. ltb s (head_states bs)) (records bs))
      (every_arc bs (λ s i o d. ltb s (head_states bs) && ltb d (head_states bs)) (records bs))

  same_order : order_good t ≡ order_good u
  unfolding order_good decode unsigned_decode
  same_order = ap₂ (λ (x y : Bool). x && y) (same_rise bs 0 (records bs)) (same_stay bs 0 (records bs))

  same_labels : all_labels_good t ≡ all_labels_good u
  unfolding all_labels_good decode unsigned_decode
  same_labels = every_arc bs (λ s i o d. labels_good i o) (records bs)

  finals_count : length t.finals ≡ length u.finals
  unfolding decode unsigned_decode
  finals_count = length_finals bs (records bs)

  arcs_count : length t.arcs ≡ length u.arcs
  unfolding decode unsigned_decode
  arcs_count = length_arcs bs (records bs)

  good_same : unsigned_weights_good u ≡ true → (t ≡ u) × (weights_good t ≡ true)
  unfolding unsigned_weights_good weights_good decode unsigned_decode
  good_same h =
      let both =
      and-true (every (λ f. at_most f.weight max_weight) (unsigned_finals bs (records bs)))
      (every (λ a. at_most a.weight max_weight) (unsigned_arcs bs (records bs))) h in
      let f = same_finals bs (records bs) both.0 in
      let a = same_arcs bs (records bs) both.1 in (
        ap₂ (λ (x : List Final) (y : List Arc). record { states = head_states bs; start = head_start bs; finals = x; arcs = y }) f.0 a.0,
        true_and (every (λ f. weight_good f.weight) (finals_in bs (records bs))) (every (λ a. weight_good a.weight) (arcs_in bs (records bs)))
            f.1 a.1,
      )

  -- The first four tests, whatever the last ones say.
  abbrev head_fits : Bool
  head_fits = head_good (head_states bs) (head_arcs bs) (head_finals bs) (head_start bs)

  abbrev counts_fit : Bool
  counts_fit = eqb (length u.finals) (head_finals bs) && eqb (length u.arcs) (head_arcs bs)

  abbrev up_to_4 : (content : ℕ) → ℕ
  up_to_4 content = cond (not (framed bs)) 1 (cond (not (kinds_good (records bs))) 2 (cond (not head_fits) 3 (cond (not counts_fit) 4 content)))

  now_is : refusal bs ≡ up_to_4 (first_of (states_good u) (order_good u) (all_labels_good u) (weights_good t))
  unfolding refusal content_refusal
  now_is = rw (finals_count, arcs_count, same_states, same_order, same_labels)

  then_is : unsigned_refusal bs ≡ up_to_4 (first_of (states_good u) (order_good u) (all_labels_good u) (unsigned_weights_good u))
  unfolding unsigned_refusal
  then_is = refl

  -- Where the last test fails and all others pass it was 8.
  not_8 : unsigned_weights_good u ≡ false → (unsigned_refusal bs ≡ 8 → ⊥) → refusal bs ≡ unsigned_refusal bs
  unfolding first_of
  not_8 w bad =
      now_is
      ∙ by_test (framed bs)
      (λ e1.
      by_test (kinds_good (records bs))
      (λ e2.
      by_test head_fits
      (λ e3.
      by_test counts_fit
      (λ e4.
      by_test (states_good u)
      (λ e5.
      by_test (order_good u)
      (λ e6.
      by_test (all_labels_good u) (λ e7. absurd (bad (then_is ∙ (rw (e1, e2, e3, e4, e5, e6, e7, w))))) (λ e7. rw (e1, e2, e3, e4, e5, e6, e7)))
      (λ e6. rw (e1, e2, e3, e4, e5, e6)))
      (λ e5. rw (e1, e2, e3, e4, e5)))
      (λ e4. rw (e1, e2, e3, e4)))
      (λ e3. rw (e1, e2, e3)))
      (λ e2. rw (e1, e2)))
      (λ e1. rw e1)
      ∙ sym then_is

  refused : (unsigned_refusal bs ≡ 8 → ⊥) → refusal bs ≡ unsigned_refusal bs
  refused bad =
      by_test (unsigned_weights_good u) (λ w. now_is ∙ (rw (w, (good_same w).1)) ∙ sym then_is) (λ w. not_8 w bad)

  -- 8 was given where only the last test failed.
  refused_by_8 : unsigned_refusal bs ≡ 8 → refusal bs ≡ cond (weights_good t) 0 8
  unfolding first_of
  refused_by_8 h =
      by_test (framed bs)
      (λ e1.
      by_test (kinds_good (records bs))
      (λ e2.
      by_test head_fits
      (λ e3.
      by_test counts_fit
      (λ e4.
      by_test (states_good u)
      (λ e5.
      by_test (order_good u)
      (λ e6.
      by_test (all_labels_good u) (λ e7. now_is ∙ (rw (e1, e2, e3, e4, e5, e6, e7)) ∙ turned (weights_good t))
      (λ e7. never_8 7 (then_is ∙ (rw (e1, e2, e3, e4, e5, e6, e7))) (λ z. omega arith)))
      (λ e6. never_8 6 (then_is ∙ (rw (e1, e2, e3, e4, e5, e6))) (λ z. omega arith)))
      (λ e5. never_8 5 (then_is ∙ (rw (e1, e2, e3, e4, e5))) (λ z. omega arith)))
      (λ e4. never_8 4 (then_is ∙ (rw (e1, e2, e3, e4))) (λ z. omega arith)))
      (λ e3. never_8 3 (then_is ∙ (rw (e1, e2, e3))) (λ z. omega arith)))
      (λ e2. never_8 2 (then_is ∙ (rw (e1, e2))) (λ z. omega arith)))
      (λ e1. never_8 1 (then_is ∙ (rw e1)) (λ z. omega arith))
    where
      turned : (b : Bool) → ◌≡◌ {A = ℕ} (cond (not b) 8 0) (cond b 0 8)
      turned true = refl
      turned false = refl

      never_8 : {C : Type 0} (k : ℕ) → unsigned_refusal bs ≡ k → (k ≡ 8 → ⊥) → C
      never_8 k e bad = absurd (bad (sym e ∙ h))

  -- Accepted bytes passed the last test.
  good_weights : unsigned_refusal bs ≡ 0 → unsigned_weights_good u ≡ true
  unfolding first_of
  good_weights h =
      let r8 : ℕ = cond (not (unsigned_weights_good u)) 8 0 in
      let r7 : ℕ = cond (not (all_labels_good u)) 7 r8 in
      let r6 : ℕ = cond (not (order_good u)) 6 r7 in
      let r5 : ℕ = cond (not (states_good u)) 5 r6 in
      let r4 : ℕ = cond (not counts_fit) 4 r5 in
      let r3 : ℕ = cond (not head_fits) 3 r4 in
      let r2 : ℕ = cond (not (kinds_good (records bs))) 2 r3 in
      let p1 = passed (framed bs) 0 r2 (sym then_is ∙ h) in
      let p2 = passed (kinds_good (records bs)) 1 r3 p1.1 in
      let p3 = passed head_fits 2 r4 p2.1 in
      let p4 = passed counts_fit 3 r5 p3.1 in
      let p5 = passed (states_good u) 4 r6 p4.1 in
      let p6 = passed (order_good u) 5 r7 p5.1 in
      let p7 = passed (all_labels_good u) 6 r8 p6.1 in
      (passed (unsigned_weights_good u) 7 0 p7.1).0

  pub as_before : AsBefore bs
  as_before =
      record {
        accepted = λ h. refused (λ e. omega arith) ∙ h;
        same = λ h. (good_same (good_weights h)).0;
        refused = refused;
        refused_by_8 = refused_by_8;
      }

pub always_as_before : AlwaysAsBefore
always_as_before bs = as_before bs
