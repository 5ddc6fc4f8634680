-- The finals of stored keys written one behind the other: what stands after one key more. Assumes nothing.
use mathlib.Core.Path.{◌≡◌, refl, sym, ap, ◌∙◌}
use mathlib.Core.Bool.{Bool, true, false, ◌||◌, not}
use Rattle.std.specs.Prelude.{Result, is_ok}
use mathlib.Core.List.{List, [], ◌∷◌, ◌++◌, append-nil}
use Prim.Native.Nat.{ℕ, suc, ◌+◌, ◌*◌, ◌≤◌, ◌<◌}
use native.Mathlib.Numerals.{add-one}
use native.Mathlib.Omega.{arith}
use lib.ListN.{length, get_or, take, length-append}
use lib.Seq.{sets, take-suc, length-take-le}
use Rattle.wire.specs.Bytes.{every}
use Rattle.transducer.specs.declared.Final.{Final}
use Rattle.transducer.specs.Format.{weight_good}
use Rattle.transducer.specs.Answer.{Refusal}
use Rattle.transducer.specs.Encode.{final_record, final_records}
use Rattle.transducer.proofs.Encode.{sets_then, length_final_records, final_records_append}
use Rattle.transducer.specs.Weight.{Weight}
use Rattle.explore.specs.Explore.{finals_from}
use Rattle.explore.specs.Walk.{FinalsStored}
use Rattle.wire.proofs.Places.{not_every_snoc}
use Rattle.explore.proofs.Finals.{finals_from_append}

-- The finals of the first s keys are written; `final` and `weight` read a key.
pub record Finishing (final : ℕ → Bool) (weight : ℕ → Weight) (states : List ℕ) (count : ℕ) (table₀ table : List ℕ) (finals : ℕ) (overflow : Bool) (s : ℕ)
    : Type 0 where
  pub within : s ≤ count
  pub few : finals ≤ s
  pub kept : length table ≡ length table₀
  pub count_is : finals ≡ length (finals_from final weight 0 (take s states))
  pub overflow_is : overflow ≡ not (every (λ f. weight_good f.weight) (finals_from final weight 0 (take s states)))
  pub stored : table ≡ sets table₀ 12 (final_records (finals_from final weight 0 (take s states)))

-- What an answer tells of the finals that it was given for.
module _ {A : Type 0} {fs : List Final} {count : ℕ} {r : Result A Refusal} {table table' : List ℕ} (put : FinalsStored fs count r table table') where
  pub finals_good : is_ok r ≡ true → not (every (λ f. weight_good f.weight) fs) ≡ false
  finals_good is = rw (sym put.light ∙ is) refl

  pub finals_overflow : is_ok r ≡ false → not (every (λ f. weight_good f.weight) fs) ≡ true
  finals_overflow is = rw (sym put.light ∙ is) refl

module _ (final : ℕ → Bool) (weight : ℕ → Weight) (states : List ℕ) where
  pub finishing_first : (count : ℕ) (table : List ℕ) → Finishing final weight states count table table 0 false 0
  unfolding finals_from every final_records
  finishing_first count table = record { within = omega arith; few = omega arith; kept = refl; count_is = refl; overflow_is = refl; stored = refl }

  one_more : (s : ℕ) → s < length states
      → finals_from final weight 0 (take (suc s) states) ≡ finals_from final weight 0 (take s states) ++ finals_from final weight s (get_or states s 0 ∷ [])
  one_more s l =
      let n : 0 + length (take s states) ≡ s = omega (arith, length-take-le s states (omega arith)) in
      ap (λ (ks : List ℕ). finals_from final weight 0 ks) (take-suc states s 0 l)
      ∙ finals_from_append final weight 0 (take s states) (get_or states s 0 ∷ [])
      ∙ ap (λ (i : ℕ). finals_from final weight 0 (take s states) ++ finals_from final weight i (get_or states s 0 ∷ [])) n

  module _ {count : ℕ} {table₀ table : List ℕ} {finals : ℕ} {overflow : Bool} {s : ℕ}
      (inv : Finishing final weight states count table₀ table finals overflow s) where
    -- At the end: how many finals there are, whether one of their weights is out of range, and that they are written.
    pub finishing_stop : count ≤ s → let fs = finals_from final weight 0 (take count states) in
        (finals ≡ length fs) × (overflow ≡ not (every (λ f. weight_good f.weight) fs)) × (table ≡ sets table₀ 12 (final_records fs))
    finishing_stop stop =
        let all : s ≡ count = omega (arith, inv.within) in
        (rw all at inv.count_is, rw all at inv.overflow_is, rw all at inv.stored)

    module _ (less : s < count) (room : count ≤ length states) where
      -- The next key is that of a state that is not final.
      pub finishing_none : final (get_or states s 0) ≡ false → Finishing final weight states count table₀ table finals overflow (s + 1)
      unfolding finals_from
      finishing_none f =
          let same : finals_from final weight 0 (take (s + 1) states) ≡ finals_from final weight 0 (take s states) =
          rw add-one (one_more s (omega arith) ∙ (rw f (append-nil (finals_from final weight 0 (take s states))))) in
          record {
            within = omega arith;
            few = omega (arith, inv.few);
            kept = inv.kept;
            count_is = rw same inv.count_is;
            overflow_is = rw same inv.overflow_is;
            stored = rw same inv.stored;
          }

      -- It is that of a final state, and is written.
      pub finishing_more : (table' : List ℕ) (value : Weight) (ok : Bool) → final (get_or states s 0) ≡ true → value ≡ weight (get_or states s 0)
          → table' ≡ sets table (12 + 10 * finals) (final_record (record { state = s; weight = value })) → length table' ≡ length table
          → ok ≡ weight_good value → Finishing final weight states count table₀ table' (finals + 1) (overflow || not ok) (s + 1)
      unfolding finals_from final_records every
      finishing_more table' value ok final-is value-is put long good =
          let fs : List Final = finals_from final weight 0 (take s states) in
          let f : Final = record { state = s; weight = value } in
          let more : finals_from final weight 0 (take (s + 1) states) ≡ fs ++ (f ∷ []) =
          rw add-one
          (one_more s (omega arith)
          ∙ (rw final-is (ap (λ (w : Weight). fs ++ (record { state = s; weight = w } ∷ [])) (sym value-is)))) in
          record {
            within = omega arith;
            few = omega (arith, inv.few);
            kept = long ∙ inv.kept;
            count_is = ap (λ (n : ℕ). n + 1) inv.count_is ∙ sym (ap length more ∙ length-append fs (f ∷ []));
            overflow_is =
                ap (λ (d : Bool). d || not ok) inv.overflow_is
                ∙ ap (λ (b : Bool). not (every (λ f. weight_good f.weight) fs) || not b) good
                ∙ not_every_snoc (λ f. weight_good f.weight) fs f
                ∙ sym (ap (λ (l : List Final). not (every (λ f. weight_good f.weight) l)) more);
            stored =
                sets_then table₀ 12 (10 * finals) (final_records fs) (final_record f)
                (length_final_records fs ∙ ap (λ (n : ℕ). 10 * n) (sym inv.count_is)) inv.stored put
                ∙ ap (λ (l : List ℕ). sets table₀ 12 l)
                (ap (λ (l : List ℕ). final_records fs ++ l) (sym (append-nil (final_record f))) ∙ sym (final_records_append fs (f ∷ []))
                ∙ ap final_records (sym more));
          }
