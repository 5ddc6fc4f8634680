-- Which of 11, 12 and 13 is given, and laws of `left_behind`. Assumes nothing.
use mathlib.Core.Path.{◌≡◌, refl, sym, ap, ◌∙◌}
use mathlib.Core.Bool.{Bool, true, false, not, cond, and-false}
use mathlib.Core.List.{List, []}
use Prim.Native.Nat.{ℕ, ◌≤◌, ◌<◌}
use native.Mathlib.Omega.{arith}
use lib.Dec.{ltb, leb, eqb}
use lib.ListN.{length}
use borrow.Author.Tests.{lt-ltb, le-ltb, le-leb, lt-leb, ne_eqb, not-true, not-false}
use Rattle.wire.specs.Bytes.{every, filled}
use Rattle.transducer.specs.Format.{max_arcs, max_states, Transducer, weight_good, weights_good}
use Rattle.transducer.specs.Answer.{Written}
use Rattle.transducer.specs.Entry.{unless}
use Rattle.explore.specs.Explore.{built_refusal, keeps, left_behind, BuiltSays}
use Rattle.explore.specs.Walk.{RefusedWith}
use Rattle.wire.proofs.Bool.{by_test, clash, never, or_right}

module _ (t : Transducer) where
  abbrev arcs_light : Bool
  arcs_light = every (λ a. weight_good a.weight) t.arcs

  abbrev finals_light : Bool
  finals_light = every (λ f. weight_good f.weight) t.finals

  pub overflow_arcs : not arcs_light ≡ true → weights_good t ≡ false
  unfolding weights_good
  overflow_arcs h = rw (not-true arcs_light h) (and-false finals_light)

  pub overflow_finals : not finals_light ≡ true → weights_good t ≡ false
  unfolding weights_good
  overflow_finals h = rw (not-true finals_light h)

  pub none_dear : not arcs_light ≡ false → not finals_light ≡ false → weights_good t ≡ true
  unfolding weights_good
  none_dear p q = rw (not-false arcs_light p, not-false finals_light q)

  module _ (few : t.states ≤ max_states) where
    pub built_12 : max_arcs < length t.arcs → built_refusal t ≡ 12
    unfolding built_refusal
    built_12 h = rw (le-ltb max_states t.states few, lt-ltb max_arcs (length t.arcs) h)

    pub built_13 : length t.arcs ≤ max_arcs → weights_good t ≡ false → built_refusal t ≡ 13
    unfolding built_refusal
    built_13 h w = rw (le-ltb max_states t.states few, le-ltb max_arcs (length t.arcs) h, w)

    pub built_0 : length t.arcs ≤ max_arcs → weights_good t ≡ true → built_refusal t ≡ 0
    unfolding built_refusal
    built_0 h w = rw (le-ltb max_states t.states few, le-ltb max_arcs (length t.arcs) h, w)

late_chain : (a b c : Bool) → keeps (cond a 11 (cond b 12 (cond c 0 13))) ≡ true → ◌≡◌ {A = ℕ} (cond a 11 (cond b 12 (cond c 0 13))) 0
unfolding keeps
late_chain true b c h = never h
late_chain false true c h = never h
late_chain false false true h = refl
late_chain false false false h = never h

-- A refusal of what is built keeps no buffer.
pub built_late : (t : Transducer) → keeps (built_refusal t) ≡ true → built_refusal t ≡ 0
unfolding built_refusal
built_late t h = late_chain (ltb max_states t.states) (ltb max_arcs (length t.arcs)) (weights_good t) h

-- left_behind

pub early_keeps : (number : ℕ) → number ≤ 10 → keeps number ≡ true
unfolding keeps
early_keeps number small = rw (le-leb number 10 small)

pub late_keeps : (number : ℕ) → 13 < number → keeps number ≡ true
unfolding keeps
late_keeps number high = or_right (leb number 10) (ltb 13 number) (lt-ltb 13 number high)

module _ (before written : List ℕ) where
  pub behind_kept : (number : ℕ) → (number ≡ 0 → ⊥) → keeps number ≡ true → left_behind number before written ≡ before
  unfolding left_behind
  behind_kept number bad kept = rw (ne_eqb number 0 bad, kept)

  pub behind_zeroed : (number : ℕ) → 10 < number → number < 14 → left_behind number before written ≡ filled (length before) []
  unfolding left_behind keeps
  behind_zeroed number high low = rw (ne_eqb number 0 (omega arith), lt-leb number 10 high, le-ltb 13 number (omega arith))

  pub behind_written : (number : ℕ) → number ≡ 0 → left_behind number before written ≡ filled (length before) written
  unfolding left_behind
  behind_written number is = rw is

  -- Only the length of a lent buffer counts where the number does not keep it.
  pub behind_same : (number : ℕ) (before' : List ℕ) → (keeps number ≡ true → number ≡ 0) → length before ≡ length before'
      → left_behind number before written ≡ left_behind number before' written
  unfolding left_behind
  behind_same number before' late long =
      by_test (eqb number 0) (λ e. rw (e, long))
      (λ e. by_test (keeps number) (λ l. clash (ap (λ (n : ℕ). eqb n 0) (late l)) e) (λ l. rw (e, l, long)))

-- BuiltSays, by how the buffers are left: as they were, or all zeros. Of a buffer written to before, only the length counts.
module _ (bytes traced : List ℕ) (number : ℕ) where
  pub says_kept : (k : ℕ) (a b c : List ℕ) → number ≡ k → (k ≡ 0 → ⊥) → keeps k ≡ true → (r : Written) → r ≡ record { refusal = k; len = 0 }
      → BuiltSays bytes traced number r a a b b c c
  unfolding unless
  says_kept k a b c is bad kept r h =
      rw (is, h)
      (record {
        refusal_is = refl;
        len_is = rw (ne_eqb k 0 bad);
        table = sym (behind_kept a bytes k bad kept);
        origins = sym (behind_kept b traced k bad kept);
        work = sym (behind_kept c [] k bad kept);
      })

  pub says_zeroed : (k : ℕ) (r : Written) (a a₀ a' b b₀ b' c c₀ c' : List ℕ) → number ≡ k → 10 < k → k < 14
      → length a ≡ length a₀ → length b ≡ length b₀ → length c ≡ length c₀ → RefusedWith k r a a' b b' c c'
      → BuiltSays bytes traced number r a₀ a' b₀ b' c₀ c'
  unfolding unless
  says_zeroed k r a a₀ a' b b₀ b' c c₀ c' is high low la lb lc z =
      rw is
      (record {
        refusal_is = ap (λ (r : Written). r.refusal) z.answer;
        len_is = ap (λ (r : Written). r.len) z.answer ∙ (rw (ne_eqb k 0 (omega arith)));
        table = z.table ∙ (rw la (sym (behind_zeroed a₀ bytes k high low)));
        origins = z.origins ∙ (rw lb (sym (behind_zeroed b₀ traced k high low)));
        work = z.states ∙ (rw lc (sym (behind_zeroed c₀ [] k high low)));
      })
