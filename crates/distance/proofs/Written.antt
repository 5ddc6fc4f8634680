-- The lent cells as they are written: the costs, none past the last state, and zeros behind. Assumes nothing.
use mathlib.Core.Path.{◌≡◌, refl, sym, ap, ◌∙◌}
use mathlib.Core.Bool.{Bool, true, false, cond}
use mathlib.Core.List.{List}
use Prim.Native.Nat.{ℕ, ◌-◌, ◌≤◌, ◌<◌}
use native.Mathlib.Omega.{arith}
use lib.Dec.{ltb}
use lib.ListN.{length, take, drop, length-drop}
use lib.Seq.{ext_get_or, length-take-le}
use borrow.Rule.Slice.PartMut.{put_mid, same_len_mid}
use borrow.Author.Rules.{rules}
use Rattle.std.proofs.Common.{replicate}
use Rattle.std.proofs.lemmas.List.{places as at_place, length-replicate, get_or_past}
use borrow.Author.Tests.{ltb-true, ltb-false}
use Rattle.wire.specs.Bytes.{places, padded, signed_filled}
use Rattle.wire.proofs.Places.{length_places, get_or_places, length_padded, get_or_padded}
use Rattle.transducer.specs.Format.{max_states}
use Rattle.transducer.specs.Weight.{Weight, no_weight}
use Rattle.distance.specs.Distance.{no_path}
use Rattle.relax.specs.Tentative.{cost_at}
use Rattle.distance.specs.Ended.{cost_told}
use Rattle.distance.specs.Entry.{cost_or_none, Copied}

-- One cost put into the cells from a place to below another.
pub record Spanned (from to : ℕ) (x : Weight) (cells cells' : List Weight) : Type 0 where
  pub long : length cells' ≡ length cells
  pub kept : (s : ℕ) → s < from → cost_at cells' s ≡ cost_at cells s
  pub put : (s : ℕ) → from ≤ s → s < to → cost_at cells' s ≡ x

pub spanned : (from to : ℕ) (x : Weight) (cells part : List Weight) → from ≤ to → to ≤ length cells
    → part ≡ replicate (length (take (to - from) (drop from cells))) x → Spanned from to x cells (put_mid from (to - from) cells part)
spanned from to x cells part low high is =
    let many : length part ≡ length (take (to - from) (drop from cells)) = ap length is ∙ length-replicate _ x in
    let count : length (take (to - from) (drop from cells)) ≡ to - from = length-take-le (to - from) (drop from cells) (omega (arith, length-drop from cells)) in
    let filled : part ≡ replicate (to - from) x = is ∙ ap (λ (n : ℕ). replicate n x) count in
    record {
      long = same_len_mid from (to - from) cells part many;
      kept = λ s h. search (rules, at_place);
      put = λ s h l. rw filled (search (rules, at_place));
    }

-- What is copied and the two that are filled, together.
module _ (states end : ℕ) (costs a b c d : List Weight) (few : states ≤ max_states) (room : max_states ≤ length a) (is_end : end ≡ length c)
    (p : Copied states costs a b) (q : Spanned states max_states no_path b c) (r : Spanned max_states end no_weight c d) where
  wanted : List Weight
  wanted = places max_states 0 1 (cost_or_none states costs)

  length_wanted : length wanted ≡ max_states
  unfolding wanted
  length_wanted = length_places max_states 0 1 (cost_or_none states costs)

  wanted_at : (s : ℕ) → s < max_states → cost_at wanted s ≡ cost_or_none states costs s
  unfolding wanted
  wanted_at s h = get_or_places max_states 0 1 (cost_or_none states costs) s no_weight h ∙ ap (cost_or_none states costs) (omega arith)

  inside : (s : ℕ) → s < max_states → cost_at c s ≡ cost_or_none states costs s
  unfolding cost_or_none
  inside s h = on (ltb s states) refl
    where
      on : (t : Bool) → ltb s states ≡ t → cost_at c s ≡ cond t (cost_told (cost_at costs s)) no_path
      on true e = let l : s < states = ltb-true s states e in q.kept s l ∙ p.put s l
      on false e = q.put s (ltb-false s states e) h

  each : (s : ℕ) → s < length d → cost_at d s ≡ cost_at wanted s
  each s h = on (ltb s max_states) refl
    where
      on : (t : Bool) → ltb s max_states ≡ t → cost_at d s ≡ cost_at wanted s
      on true e =
          let l : s < max_states = ltb-true s max_states e in
          r.kept s l ∙ (inside s l ∙ sym (wanted_at s l))
      on false e =
          let l : max_states ≤ s = ltb-false s max_states e in
          r.put s l (omega (arith, r.long, is_end)) ∙ sym (get_or_past wanted s no_weight (omega (arith, length_wanted)))

  pub put_all : d ≡ signed_filled (length a) (places max_states 0 1 (cost_or_none states costs))
  unfolding signed_filled wanted
  put_all =
      let long : length d ≡ length a = r.long ∙ (q.long ∙ p.long) in
      let whole : length (padded no_weight (length a) wanted) ≡ length a = length_padded no_weight (length a) wanted (omega (arith, length_wanted)) in
      ext_get_or no_weight d (padded no_weight (length a) wanted) (long ∙ sym whole)
      (λ s h. each s h ∙ sym (get_or_padded no_weight (length a) wanted s))
