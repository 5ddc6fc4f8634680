-- The finals that are kept, written one behind the other: what stands after one more (arcs: `Passing`). Assumes nothing.
use mathlib.Core.Path.{◌≡◌, refl, sym, ap, ◌∙◌}
use mathlib.Core.Bool.{Bool, true, false, cond, and-false}
use mathlib.Core.List.{List, [], ◌∷◌, ◌++◌, append-nil}
use Prim.Native.Nat.{ℕ, ◌+◌, ◌*◌, ◌≤◌, ◌<◌}
use native.Mathlib.Numerals.{add-one}
use native.Mathlib.Omega.{arith}
use lib.ListN.{length, get_or, take, length-append}
use lib.Seq.{sets, take-suc, take_all}
use Rattle.transducer.specs.declared.Arc.{Arc}
use Rattle.transducer.specs.declared.Final.{Final}
use Rattle.transducer.specs.Format.{Transducer, head_bytes, final_bytes, arcs_at}
use Rattle.transducer.specs.Encode.{final_record, final_records}
use Rattle.transducer.proofs.Encode.{sets_then, length_final_records, final_records_append}
use Rattle.trim.specs.Trim.{useful, arc_useful, renumbered, kept_finals}
use Rattle.trim.proofs.TrimmedGood.{moved_final}

-- One more, kept or not

pub finals_skip : (t : Transducer) (fs : List Final) (f : Final) → useful t f.state ≡ false → kept_finals t (fs ++ (f ∷ [])) ≡ kept_finals t fs
unfolding kept_finals
finals_skip t [] f u = rw u
finals_skip t (g ∷ fs) f u = on (useful t g.state) (finals_skip t fs f u)
  where
    g' : Final
    g' = record { state = renumbered t g.state; weight = g.weight }

    on : (b : Bool) → kept_finals t (fs ++ (f ∷ [])) ≡ kept_finals t fs
        → cond b (g' ∷ kept_finals t (fs ++ (f ∷ []))) (kept_finals t (fs ++ (f ∷ []))) ≡ cond b (g' ∷ kept_finals t fs) (kept_finals t fs)
    on b e = rw e

pub finals_keep : (t : Transducer) (fs : List Final) (f : Final) → useful t f.state ≡ true
    → kept_finals t (fs ++ (f ∷ [])) ≡ kept_finals t fs ++ (moved_final t f ∷ [])
unfolding kept_finals moved_final
finals_keep t [] f u = rw u
finals_keep t (g ∷ fs) f u = on (useful t g.state) (finals_keep t fs f u)
  where
    on : (b : Bool) → kept_finals t (fs ++ (f ∷ [])) ≡ kept_finals t fs ++ (moved_final t f ∷ [])
        → cond b (moved_final t g ∷ kept_finals t (fs ++ (f ∷ []))) (kept_finals t (fs ++ (f ∷ [])))
        ≡ cond b (moved_final t g ∷ kept_finals t fs) (kept_finals t fs) ++ (moved_final t f ∷ [])
    on true e = rw e
    on false e = e

-- Finals

unfoldable pub finals_to : Transducer → (i : ℕ) → List Final
finals_to t i = kept_finals t (take i t.finals)

pub record FinalsKept (t : Transducer) (i count : ℕ) (out₀ out : List ℕ) : Type 0 where
  pub within : i ≤ length t.finals
  pub few : count ≤ i
  pub long : length out ≡ length out₀
  pub count_is : count ≡ length (finals_to t i)
  pub so_far : out ≡ sets out₀ head_bytes (final_records (finals_to t i))

taken_final : (t : Transducer) (i : ℕ) (f : Final) → i < length t.finals → get_or t.finals i f ≡ f
    → take (i + 1) t.finals ≡ take i t.finals ++ (f ∷ [])
taken_final t i f h e = rw (add-one, take-suc t.finals i f h, e)

module _ {t : Transducer} where
  pub finals_first : (out : List ℕ) → FinalsKept t 0 0 out out
  unfolding finals_to kept_finals final_records
  finals_first out = record { within = omega arith; few = omega arith; long = refl; count_is = refl; so_far = refl }

  module _ {i count : ℕ} {out₀ out : List ℕ} (f : Final) (h : i < length t.finals) (is : get_or t.finals i f ≡ f)
      (k : FinalsKept t i count out₀ out) where
    pub finals_skipped : useful t f.state ≡ false → FinalsKept t (i + 1) count out₀ out
    unfolding finals_to
    finals_skipped u =
        let same : kept_finals t (take (i + 1) t.finals) ≡ kept_finals t (take i t.finals) =
        ap (kept_finals t) (taken_final t i f h is) ∙ finals_skip t (take i t.finals) f u in
        record {
          within = omega arith;
          few = omega (arith, k.few);
          long = k.long;
          count_is = rw same k.count_is;
          so_far = rw same k.so_far;
        }

    pub finals_more : {last : List ℕ} {place : ℕ} (f' : Final) → useful t f.state ≡ true → f' ≡ moved_final t f → length last ≡ length out
        → place ≡ arcs_at count → last ≡ sets out place (final_record f') → FinalsKept t (i + 1) (count + 1) out₀ last
    unfolding finals_to final_records
    finals_more {last} {place} f' u e l there put-there =
        let put : last ≡ sets out (arcs_at count) (final_record f') = rw there at put-there in
        let old : List Final = kept_finals t (take i t.finals) in
        let more : kept_finals t (take (i + 1) t.finals) ≡ old ++ (f' ∷ []) =
        ap (kept_finals t) (taken_final t i f h is) ∙ rw e (finals_keep t (take i t.finals) f u) in
        let one : final_records (f' ∷ []) ≡ final_record f' = append-nil (final_record f') in
        let sized : length (final_records old) ≡ final_bytes * count = length_final_records old ∙ ap (λ (n : ℕ). final_bytes * n) (sym k.count_is) in
        record {
          within = omega arith;
          few = omega (arith, k.few);
          long = l ∙ k.long;
          count_is = rw more (omega (arith, length-append old (f' ∷ []), k.count_is));
          so_far = rw (more, final_records_append old (f' ∷ []), one)
              (sets_then out₀ head_bytes (final_bytes * count) (final_records old) (final_record f') sized k.so_far put);
        }

  pub finals_stop : {i count : ℕ} {out₀ out : List ℕ} → length t.finals ≤ i → FinalsKept t i count out₀ out
      → (count ≡ length (kept_finals t t.finals)) × (out ≡ sets out₀ head_bytes (final_records (kept_finals t t.finals)))
  unfolding finals_to
  finals_stop {i} h k =
      let all : take i t.finals ≡ t.finals = take_all i t.finals h in
      (rw all at k.count_is, rw all at k.so_far)

-- An arc is kept where both of its states are.
pub unused_source : (t : Transducer) (a : Arc) → useful t a.source ≡ false → arc_useful t a ≡ false
unfolding arc_useful
unused_source t a e = rw e

pub unused_target : (t : Transducer) (a : Arc) → useful t a.target ≡ false → arc_useful t a ≡ false
unfolding arc_useful
unused_target t a e = rw e (and-false (useful t a.source))

pub used_both : (t : Transducer) (a : Arc) → useful t a.source ≡ true → useful t a.target ≡ true → arc_useful t a ≡ true
unfolding arc_useful
used_both t a p q = rw (p, q)
