-- Lists that only grow at the end, and the laws of `met`. Assumes nothing.
use mathlib.Core.Path.{◌≡◌, refl, sym, subst, ◌∙◌}
use mathlib.Core.Bool.{Bool, true, false, cond}
use mathlib.Core.Logic.{◌⊎◌, inl, inr, ⊎_elim}
use mathlib.Core.List.{List, [], ◌∷◌, ◌++◌, append_assoc, append-nil}
use Prim.Native.Nat.{ℕ, ◌≤◌, ◌<◌}
use native.Mathlib.Omega.{arith}
use lib.ListN.{length, get_or, length-append, get_or-append}
use Rattle.explore.specs.Explore.{Decides, there, place, met}
use Rattle.wire.proofs.Bool.{by_test}
use Rattle.explore.proofs.Member.{
  At,
  Mem,
  at_left,
  at_same,
  get_d_at,
  mem_eq,
  mem_left,
  mem_right,
  mem_here,
  mem_cons,
  mem_later,
  mem_append,
  mem_nil,
  there_mem,
  place_left,
}
use Rattle.explore.proofs.Distinct.{Distinct, distinct_snoc}

-- The second list is the first with more at its end.
pub record Grows {A : Type 0} (xs zs : List A) : Type 0 where
  pub added : List A
  pub whole : zs ≡ xs ++ added

module _ {A : Type 0} where
  pub grows_same : (xs : List A) → Grows xs xs
  grows_same xs = record { added = []; whole = sym (append-nil xs) }

  pub grows_append : (xs ys : List A) → Grows xs (xs ++ ys)
  grows_append xs ys = record { added = ys; whole = refl }

  pub grows_trans : {xs ys zs : List A} → Grows xs ys → Grows ys zs → Grows xs zs
  grows_trans {xs} {ys} {zs} g h =
      record { added = g.added ++ h.added; whole = h.whole ∙ (rw g.whole (append_assoc xs g.added h.added)) }

  pub grows_length : {xs zs : List A} → Grows xs zs → length xs ≤ length zs
  grows_length {xs} {zs} g = rw (g.whole, length-append) (omega arith)

  pub grows_get_or : {xs zs : List A} (i : ℕ) (d : A) → Grows xs zs → i < length xs → get_or zs i d ≡ get_or xs i d
  grows_get_or {xs} {zs} i d g l = rw g.whole (get_or-append xs g.added d i l)

  pub grows_at : {xs zs : List A} (i : ℕ) (x : A) → Grows xs zs → At xs i x → At zs i x
  grows_at {xs} {zs} i x g h = rw g.whole (at_left xs g.added i x h)

  pub at_grows : {xs zs : List A} (i : ℕ) (x : A) → Grows xs zs → i < length xs → At zs i x → At xs i x
  at_grows {xs} {zs} i x g l h =
      let here = get_d_at xs i x l in
      let e : get_or xs i x ≡ x = at_same zs i (get_or xs i x) x (grows_at i (get_or xs i x) g here) h in
      subst (λ (z : A). At xs i z) e here

  pub grows_mem : {x : A} {xs zs : List A} → Grows xs zs → Mem x xs → Mem x zs
  grows_mem {x} {xs} {zs} g m = rw g.whole (mem_left g.added m)

  module _ (same : A → A → Bool) where
    -- A state met before keeps its number.
    pub grows_place : {xs zs : List A} (x : A) → Grows xs zs → there same x xs ≡ true → place same x zs ≡ place same x xs
    grows_place {xs} {zs} x g h = rw g.whole (place_left same x xs g.added h)

-- met

module _ {A : Type 0} (same : A → A → Bool) where
  pub met_append : (ys zs xs : List A) → met same (ys ++ zs) xs ≡ met same zs (met same ys xs)
  unfolding met
  met_append [] zs xs = refl
  met_append (y ∷ ys) zs xs = met_append ys zs (cond (there same y xs) xs (xs ++ (y ∷ [])))

  pub met_grows : (ys xs : List A) → Grows xs (met same ys xs)
  unfolding met
  met_grows [] xs = grows_same xs
  met_grows (y ∷ ys) xs = grows_trans (one (there same y xs)) (met_grows ys (cond (there same y xs) xs (xs ++ (y ∷ []))))
    where
      one : (b : Bool) → Grows xs (cond b xs (xs ++ (y ∷ [])))
      one true = grows_same xs
      one false = grows_append xs (y ∷ [])

  pub met_length : (ys xs : List A) → length xs ≤ length (met same ys xs)
  met_length ys xs = grows_length (met_grows ys xs)

  pub met_mem : {x : A} (ys xs : List A) → Mem x (met same ys xs) → Mem x xs ⊎ Mem x ys
  unfolding met
  met_mem {x} [] xs m = inl m
  met_mem {x} (y ∷ ys) xs m =
      on (there same y xs) (met_mem ys (cond (there same y xs) xs (xs ++ (y ∷ []))) m)
    where
      last : Mem x xs ⊎ Mem x (y ∷ []) → Mem x xs ⊎ Mem x (y ∷ ys)
      last (inl k) = inl k
      last (inr k) = inr (mem_left ys k)

      on : (b : Bool) → Mem x (cond b xs (xs ++ (y ∷ []))) ⊎ Mem x ys → Mem x xs ⊎ Mem x (y ∷ ys)
      on true (inl k) = inl k
      on true (inr k) = inr (mem_later y k)
      on false (inl k) = last (mem_append xs (y ∷ []) k)
      on false (inr k) = inr (mem_later y k)

module _ {A : Type 0} {same : A → A → Bool} (right : Decides same) where
  pub met_distinct : (ys xs : List A) → Distinct same xs → Distinct same (met same ys xs)
  unfolding met
  met_distinct [] xs d = d
  met_distinct (y ∷ ys) xs d =
      met_distinct ys (cond (there same y xs) xs (xs ++ (y ∷ [])))
      (by_test (there same y xs) (λ e. rw e d) (λ e. rw e (distinct_snoc right xs y d e)))

  pub mem_met : {x : A} (ys xs : List A) → Mem x ys → Mem x (met same ys xs)
  unfolding met
  mem_met {x} [] xs m = absurd (mem_nil m)
  mem_met {x} (y ∷ ys) xs m =
      let now : List A = cond (there same y xs) xs (xs ++ (y ∷ [])) in
      ⊎_elim (λ e. mem_eq e (grows_mem (met_grows same ys now) here)) (λ k. mem_met ys now k) (mem_cons m)
    where
      here : Mem y (cond (there same y xs) xs (xs ++ (y ∷ [])))
      here = by_test (there same y xs) (λ e. rw e (there_mem right y xs e)) (λ e. rw e (mem_right xs (mem_here y [])))
