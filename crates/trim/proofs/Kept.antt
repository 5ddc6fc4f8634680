-- What trimming keeps, one by one: states and finals, in their order (arcs: `Passing`). Assumes nothing.
use mathlib.Core.Path.{◌≡◌, refl, sym, ap, ◌∙◌}
use mathlib.Core.Bool.{Bool, true, false, ◌||◌, cond}
use mathlib.Core.List.{List, [], ◌∷◌}
use Prim.Native.Nat.{ℕ, zero, suc, ◌+◌, ◌≤◌, ◌<◌}
use native.Mathlib.Omega.{arith}
use lib.Dec.{eqb}
use borrow.Author.Tests.{eqb-true, eqb-false, eq-eqb, ne_eqb}
use Rattle.wire.proofs.Bool.{never}
use Rattle.transducer.specs.declared.Final.{Final}
use Rattle.transducer.specs.Format.{Transducer}
use Rattle.transducer.specs.Path.{is_final, final_weight}
use Rattle.trim.specs.Trim.{useful, renumbered, kept_finals}
use Rattle.reach.specs.Counted.{count}
use Rattle.reach.proofs.Counted.{count_rises, count_before, count_injective}

-- States

pub renumbered_count : (t : Transducer) (s : ℕ) → renumbered t s ≡ count s (useful t)
unfolding renumbered count
renumbered_count t zero = refl
renumbered_count t (suc s) = ap (λ (n : ℕ). n + cond (useful t s) 1 0) (renumbered_count t s)

pub renumbered_rises : (t : Transducer) (s s' : ℕ) → s ≤ s' → renumbered t s ≤ renumbered t s'
renumbered_rises t s s' h = rw (renumbered_count t s, renumbered_count t s') (count_rises (useful t) s s' h)

pub renumbered_before : (t : Transducer) (s s' : ℕ) → s < s' → useful t s ≡ true → renumbered t s < renumbered t s'
renumbered_before t s s' h u = omega (arith, renumbered_count t s, renumbered_count t s', count_before (useful t) s s' h u)

pub renumbered_next : (t : Transducer) (s : ℕ) → useful t s ≡ true → renumbered t (suc s) ≡ renumbered t s + 1
unfolding renumbered
renumbered_next t s u = rw u

pub renumbered_injective : (t : Transducer) (s s' : ℕ) → useful t s ≡ true → useful t s' ≡ true → renumbered t s ≡ renumbered t s' → s ≡ s'
renumbered_injective t s s' u u' e =
    count_injective (useful t) s s' u u' (sym (renumbered_count t s) ∙ e ∙ renumbered_count t s')

-- Finals

pub eqb_renumbered : (t : Transducer) (s s' : ℕ) → useful t s ≡ true → useful t s' ≡ true → eqb (renumbered t s) (renumbered t s') ≡ eqb s s'
eqb_renumbered t s s' u u' = on (eqb s s') refl
  where
    on : (b : Bool) → eqb s s' ≡ b → eqb (renumbered t s) (renumbered t s') ≡ b
    on true e = eq-eqb (renumbered t s) (renumbered t s') (ap (renumbered t) (eqb-true s s' e))
    on false e = ne_eqb (renumbered t s) (renumbered t s') (λ same. eqb-false s s' e (renumbered_injective t s s' u u' same))

-- A state that is of no use is none that is.
not_useful : (t : Transducer) (s s' : ℕ) → useful t s ≡ false → useful t s' ≡ true → eqb s s' ≡ false
not_useful t s s' n u = ne_eqb s s' (λ e. never (sym n ∙ ap (useful t) e ∙ u))

pub kept_is_final : (t : Transducer) (fs : List Final) (s : ℕ) → useful t s ≡ true → is_final (kept_finals t fs) (renumbered t s) ≡ is_final fs s
unfolding kept_finals is_final
kept_is_final t [] s u = refl
kept_is_final t (f ∷ fs) s u = on (useful t f.state) refl (kept_is_final t fs s u)
  where
    moved_final : Final
    moved_final = record { state = renumbered t f.state; weight = f.weight }

    on : (b : Bool) → useful t f.state ≡ b → is_final (kept_finals t fs) (renumbered t s) ≡ is_final fs s
        → is_final (cond b (moved_final ∷ kept_finals t fs) (kept_finals t fs)) (renumbered t s) ≡ eqb f.state s || is_final fs s
    on true e more = rw (eqb_renumbered t f.state s e u, more)
    on false e more = rw (not_useful t f.state s e u) more

pub kept_final_weight : (t : Transducer) (fs : List Final) (s : ℕ) → useful t s ≡ true → final_weight (kept_finals t fs) (renumbered t s) ≡ final_weight fs s
unfolding kept_finals final_weight
kept_final_weight t [] s u = refl
kept_final_weight t (f ∷ fs) s u = on (useful t f.state) refl (kept_final_weight t fs s u)
  where
    moved_final : Final
    moved_final = record { state = renumbered t f.state; weight = f.weight }

    on : (b : Bool) → useful t f.state ≡ b → final_weight (kept_finals t fs) (renumbered t s) ≡ final_weight fs s
        → final_weight (cond b (moved_final ∷ kept_finals t fs) (kept_finals t fs)) (renumbered t s) ≡ cond (eqb f.state s) f.weight (final_weight fs s)
    on true e more = rw (eqb_renumbered t f.state s e u, more)
    on false e more = rw (not_useful t f.state s e u) more
