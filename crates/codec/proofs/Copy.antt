-- Loops that copy numbers from records to the front of a buffer. `NumbersCopied` and `FieldsCopied` say how far one has come.
-- Assumes nothing.
use mathlib.Core.Path.{◌≡◌, refl, sym, ap, ◌∙◌}
use mathlib.Core.List.{List, [], ◌∷◌, ◌++◌, append_assoc}
use Prim.Native.Nat.{ℕ, zero, suc, ◌+◌, ◌*◌, ◌≤◌, ◌<◌}
use native.Mathlib.Numerals.{add-one, add-two, add-three}
use native.Mathlib.Omega.{arith}
use lib.ListN.{length, get_or, drop, set, length-append, length-drop}
use lib.Seq.{sets, sets-eq, take_at, drop-append-add, drop-drop}
use Rattle.wire.specs.Bytes.{places, padded, emptied, filled, cleared}
use Rattle.wire.proofs.Places.{length_places, places_snoc, emptied_front, cleared_front}
use Rattle.transducer.specs.declared.Arc.{Arc}
use Rattle.transducer.specs.Format.{arc_at}
use Rattle.codec.specs.Entry.{arc_fields}

-- The front of a buffer, and what is stored next behind it.
pub sets_front : {A : Type 0} (xs out vs : List A) (k : ℕ) → length xs ≡ k → k + length vs ≤ length out →
    sets (xs ++ drop k out) k vs ≡ (xs ++ vs) ++ drop (k + length vs) out
sets_front xs out vs k e h =
    let long : k + length vs ≤ length (xs ++ drop k out) = simp (length-append, length-drop) (omega arith) in
    let rest : drop (k + length vs) (xs ++ drop k out) ≡ drop (k + length vs) out =
    ap (λ (n : ℕ). drop (n + length vs) (xs ++ drop k out)) (sym e)
    ∙ drop-append-add xs (drop k out) (length vs)
    ∙ drop-drop (length vs) k out in
    sets-eq vs (xs ++ drop k out) k long ∙ rw (take_at xs (drop k out) k e, rest, append_assoc)

-- Places counted from elsewhere.
pub places_shift : {A : Type 0} (k at d s : ℕ) (f : ℕ → A) → places k (at + d) s f ≡ places k at s (λ p. f (p + d))
unfolding places
places_shift zero at d s f = refl
places_shift (suc k) at d s f =
    let e : at + d + s ≡ at + s + d = omega arith in
    ap (λ (l : List _). f (at + d) ∷ l) (ap (λ (n : ℕ). places k n s f) e ∙ places_shift k (at + s) d s f)

-- The first `i` numbers stand at the front; what lies behind is as it was.
abbrev pub NumbersCopied : {A : Type 0} → (f : ℕ → A) → (at step : ℕ) → (out₀ out : List A) → (i : ℕ) → Type 0
NumbersCopied f at step out₀ out i = out ≡ places i at step f ++ drop i out₀

module _ {A : Type 0} (f : ℕ → A) (at step : ℕ) (out₀ : List A) where
  pub copied_first : NumbersCopied f at step out₀ out₀ 0
  unfolding places
  copied_first = refl

  pub copied_next : {out : List A} (i : ℕ) (v : A) → i < length out₀ → v ≡ f (at + step * i) → NumbersCopied f at step out₀ out i →
      NumbersCopied f at step out₀ (set out i v) (i + 1)
  copied_next {out} i v h value c =
      let stored : set out i v ≡ (places i at step f ++ (v ∷ [])) ++ drop (i + 1) out₀ =
      ap (λ (l : List A). set l i v) c
      ∙ sets_front (places i at step f) out₀ (v ∷ []) i (length_places i at step f) (omega arith) in
      let more : places (i + 1) at step f ≡ places i at step f ++ (v ∷ []) = rw (add-one, value) (places_snoc i at step f) in
      rw more stored

  -- All of them stand, and nothing is left behind them.
  pub copied_stop : {out end : List A} (none : A) (count : ℕ) → count ≤ length out₀ → end ≡ emptied none count out →
      NumbersCopied f at step out₀ out count → end ≡ padded none (length out₀) (places count at step f)
  copied_stop none count h e c = e ∙ rw c (emptied_front none count (places count at step f) out₀ (length_places count at step f) h)

-- arc_fields

pub arc_fields_append : (xs ys : List Arc) → arc_fields (xs ++ ys) ≡ arc_fields xs ++ arc_fields ys
unfolding arc_fields
arc_fields_append [] ys = refl
arc_fields_append (x ∷ xs) ys = rw (arc_fields_append xs ys)

pub length_arc_fields : (xs : List Arc) → length (arc_fields xs) ≡ 4 * length xs
unfolding arc_fields
length_arc_fields [] = refl
length_arc_fields (x ∷ xs) = omega (arith, length_arc_fields xs)

length_fields : (bs : List ℕ) (at i : ℕ) → length (arc_fields (places i at 16 (arc_at bs))) ≡ 4 * i
length_fields bs at i = omega (arith, length_arc_fields (places i at 16 (arc_at bs)), length_places i at 16 (arc_at bs))

-- Four numbers stored from a place on.
abbrev pub four_set : List ℕ → (at : ℕ) → List ℕ → List ℕ
four_set out k vs = set (set (set (set out k (get_or vs 0 0)) (k + 1) (get_or vs 1 0)) (k + 2) (get_or vs 2 0)) (k + 3) (get_or vs 3 0)

-- The fields of the first `i` arcs stand at the front; what lies behind is as it was.
abbrev pub FieldsCopied : (bs : List ℕ) → (at : ℕ) → (out₀ out : List ℕ) → (i : ℕ) → Type 0
FieldsCopied bs at out₀ out i = out ≡ arc_fields (places i at 16 (arc_at bs)) ++ drop (4 * i) out₀

module _ (bs : List ℕ) (at : ℕ) (out₀ : List ℕ) where
  pub fields_first : FieldsCopied bs at out₀ out₀ 0
  unfolding places arc_fields
  fields_first = refl

  -- One arc more: its fields, whatever their order, are stored one behind the other.
  pub fields_next : {out : List ℕ} (i : ℕ) (a : Arc) → 4 * i + 3 < length out₀ → a ≡ arc_at bs (at + 16 * i) →
      FieldsCopied bs at out₀ out i → FieldsCopied bs at out₀ (four_set out (4 * i) (arc_fields (a ∷ []))) (i + 1)
  unfolding arc_fields
  fields_next {out} i a h e c =
      let vs : List ℕ = arc_fields (a ∷ []) in
      let old : List ℕ = arc_fields (places i at 16 (arc_at bs)) in
      let stored : sets out (4 * i) vs ≡ (old ++ vs) ++ drop (4 * i + 4) out₀ =
      ap (λ (l : List ℕ). sets l (4 * i) vs) c ∙ sets_front old out₀ vs (4 * i) (length_fields bs at i) (omega arith) in
      let more : arc_fields (places (i + 1) at 16 (arc_at bs)) ≡ old ++ vs =
      rw (add-one, places_snoc i at 16 (arc_at bs), arc_fields_append, e) in
      let four : 4 * (i + 1) ≡ 4 * i + 4 = omega arith in
      rw (more, four, add-one, add-two, add-three) stored

  -- All of them stand, and zeros are put behind them.
  pub fields_stop : {out end : List ℕ} (count : ℕ) → 4 * count ≤ length out₀ → end ≡ cleared (4 * count) out →
      FieldsCopied bs at out₀ out count → end ≡ filled (length out₀) (arc_fields (places count at 16 (arc_at bs)))
  fields_stop count h e c = e ∙ rw c (cleared_front (4 * count) (arc_fields (places count at 16 (arc_at bs))) out₀ (length_fields bs at count) h)
