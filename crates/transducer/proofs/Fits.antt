-- What `fits` and `passed` mean for an arc's labels; where no arc is for any symbol, they mean what they say: the input and the output.
--     fits_cases, any_fits, reads_fits       the only laws that know when an arc for any symbol fits
--     fits_label                             the arcs of a state that fit a symbol all have the same input
-- Assumes nothing.
use Rattle.std.proofs.Common.{◌≡◌, ℕ, ◌<◌, ◌≤◌, true, false, cond, not, ◌&&◌, eqb, ltb, ◌⊎◌, length, get_or, sym, ◌∙◌, subst, inl, inr, arith, ltb-true, lt-ltb, eq-eqb, ne_eqb, eqb-true}
use native.Mathlib.Decide.{dec_le}
use lib.ListN.{get_or-eq_default}
use borrow.Author.Tests.{eqb-false, not-true}
use Rattle.wire.proofs.Bool.{by_test, clash, is_false, and-true, true_and, or-true, same_truth}
use Rattle.wire.proofs.Places.{every_get_or, get_or_every}
use Rattle.transducer.specs.declared.Arc.{Arc}
use Rattle.transducer.specs.Format.{Transducer, any, all_labels_good}
use Rattle.transducer.specs.Path.{arc, no_arc}
use Rattle.transducer.specs.Each.{unnamed, fits, passed, has_no_any_input, plain}
use Rattle.transducer.proofs.Labels.{arc_unbarred}

-- unnamed

module _ (t : Transducer) (q s : ℕ) where
  pub unnamed_none : unnamed t q s ≡ true → (i : ℕ) → i < length t.arcs → (arc t i).source ≡ q → (arc t i).input ≡ s → ⊥
  unfolding unnamed arc
  unnamed_none free i l leaves reads =
      let a : Arc = get_or t.arcs i no_arc in
      let none : not (eqb a.source q && eqb a.input s) ≡ true =
      every_get_or (λ b. not (eqb b.source q && eqb b.input s)) t.arcs i no_arc free l in
      clash (true_and (eqb a.source q) (eqb a.input s) (eq-eqb a.source q leaves) (eq-eqb a.input s reads))
      (not-true (eqb a.source q && eqb a.input s) none)

  pub none_unnamed : ((i : ℕ) → i < length t.arcs → (arc t i).source ≡ q → (arc t i).input ≡ s → ⊥) → unnamed t q s ≡ true
  unfolding unnamed arc
  none_unnamed none =
      get_or_every (λ b. not (eqb b.source q && eqb b.input s)) t.arcs no_arc
      (λ i l. let a : Arc = get_or t.arcs i no_arc in
      let other : eqb a.source q && eqb a.input s ≡ false =
      is_false (eqb a.source q && eqb a.input s)
      (λ e. let p = and-true (eqb a.source q) (eqb a.input s) e in none i l (eqb-true a.source q p.0) (eqb-true a.input s p.1)) in
      rw other)

-- fits

module _ (t : Transducer) (s : ℕ) (a : Arc) where
  -- The arc reads the symbol, or it is for any symbol, there is one, and no arc of its state names it.
  pub data Fitting : Type 0 where
    no_any : a.input ≡ s → Fitting
    as_any : a.input ≡ any → (s ≡ 0 → ⊥) → unnamed t a.source s ≡ true → Fitting

  pub fits_cases : fits t s a ≡ true → Fitting
  unfolding fits
  fits_cases h = on (or-true (eqb a.input s) (eqb a.input any && (not (eqb s 0) && unnamed t a.source s)) h)
    where
      on : (eqb a.input s ≡ true) ⊎ (eqb a.input any && (not (eqb s 0) && unnamed t a.source s) ≡ true) → Fitting
      on (inl e) = no_any (eqb-true a.input s e)
      on (inr e) =
          let p = and-true (eqb a.input any) (not (eqb s 0) && unnamed t a.source s) e in
          let r = and-true (not (eqb s 0)) (unnamed t a.source s) p.1 in
          as_any (eqb-true a.input any p.0) (eqb-false s 0 (not-true (eqb s 0) r.0)) r.1

  pub reads_fits : a.input ≡ s → fits t s a ≡ true
  unfolding fits
  reads_fits e = rw (eq-eqb a.input s e)

  pub any_fits : a.input ≡ any → (s ≡ 0 → ⊥) → unnamed t a.source s ≡ true → fits t s a ≡ true
  unfolding fits
  any_fits e some free = by_test (eqb a.input s) (λ h. rw h) (λ h. rw (h, eq-eqb a.input any e, ne_eqb s 0 some, free))

  pub fits_reads : a.input < any → fits t s a ≡ true → a.input ≡ s
  fits_reads l h = on (fits_cases h)
    where
      on : Fitting → a.input ≡ s
      on (no_any e) = e
      on (as_any is some free) = absurd (omega arith)

  -- A symbol is fitted only by an arc that reads.
  pub fits_some : (s ≡ 0 → ⊥) → fits t s a ≡ true → a.input ≡ 0 → ⊥
  fits_some some h = on (fits_cases h)
    where
      on : Fitting → a.input ≡ 0 → ⊥
      on (no_any e) = λ z. some (sym e ∙ z)
      on (as_any is other free) = λ z. omega arith

  -- An arc that fits a symbol without reading it by name reads.
  pub fits_other : (a.input ≡ s → ⊥) → fits t s a ≡ true → a.input ≡ 0 → ⊥
  fits_other unread h = on (fits_cases h)
    where
      on : Fitting → a.input ≡ 0 → ⊥
      on (no_any e) = λ z. unread e
      on (as_any is some free) = λ z. omega arith

-- Nothing is fitted only by an arc that reads nothing.
pub fits_empty : (t : Transducer) (a : Arc) → fits t 0 a ≡ true → a.input ≡ 0
fits_empty t a h = on (fits_cases t 0 a h)
  where
    on : Fitting t 0 a → a.input ≡ 0
    on (no_any e) = e
    on (as_any is some free) = absurd (some (omega arith))

-- What an arc that reads fits is a symbol.
pub fits_symbol : (t : Transducer) (s : ℕ) (a : Arc) → (a.input ≡ 0 → ⊥) → fits t s a ≡ true → s ≡ 0 → ⊥
fits_symbol t s a reads h z = reads (fits_empty t a (rw z at h))

-- The test as one on the input.

pub fits_none : (t : Transducer) (a : Arc) → fits t 0 a ≡ eqb a.input 0
fits_none t a =
    same_truth (fits t 0 a) (eqb a.input 0) (λ h. eq-eqb a.input 0 (fits_empty t a h)) (λ h. reads_fits t 0 a (eqb-true a.input 0 h))

pub fits_named : (t : Transducer) (s : ℕ) (a : Arc) → a.input < any → fits t s a ≡ eqb a.input s
fits_named t s a l =
    same_truth (fits t s a) (eqb a.input s) (λ h. eq-eqb a.input s (fits_reads t s a l h)) (λ h. reads_fits t s a (eqb-true a.input s h))

-- The input of the arcs of a state that fit a symbol, by which composition and application find them.
pub label_at : Transducer → (state symbol : ℕ) → ℕ
label_at t q symbol = cond (not (eqb symbol 0) && unnamed t q symbol) any symbol

module _ (t : Transducer) (q s : ℕ) where
  pub label_none : s ≡ 0 → label_at t q s ≡ 0
  unfolding label_at
  label_none z = rw (eq-eqb s 0 z) z

  pub label_named : (i : ℕ) → i < length t.arcs → (arc t i).source ≡ q → (arc t i).input ≡ s → label_at t q s ≡ s
  unfolding label_at
  label_named i l leaves reads =
      by_test (eqb s 0) (λ z. rw z)
      (λ z. by_test (unnamed t q s) (λ free. absurd (unnamed_none t q s free i l leaves reads)) (λ named. rw (z, named)))

  pub label_any : (s ≡ 0 → ⊥) → unnamed t q s ≡ true → label_at t q s ≡ any
  unfolding label_at
  label_any some free = rw (ne_eqb s 0 some, free)

  label_other : eqb s 0 ≡ false → unnamed t q s ≡ false → label_at t q s ≡ s
  unfolding label_at
  label_other z named = rw (z, named)

-- The arcs of a state that fit a symbol are those of one input.
module _ (t : Transducer) (q s i : ℕ) (l : i < length t.arcs) (leaves : (arc t i).source ≡ q) where
  fitting_input : Fitting t s (arc t i) → (arc t i).input ≡ label_at t q s
  fitting_input (no_any e) = e ∙ sym (label_named t q s i l leaves e)
  fitting_input (as_any is some free) = is ∙ sym (label_any t q s some (subst (λ (x : ℕ). unnamed t x s ≡ true) leaves free))

  input_fits : (arc t i).input ≡ label_at t q s → fits t s (arc t i) ≡ true
  input_fits is =
      by_test (eqb s 0)
      (λ z. let none : s ≡ 0 = eqb-true s 0 z in reads_fits t s (arc t i) (is ∙ label_none t q s none ∙ sym none))
      (λ z. let some : s ≡ 0 → ⊥ = eqb-false s 0 z in
      by_test (unnamed t q s)
      (λ free. any_fits t s (arc t i) (is ∙ label_any t q s some free) some (subst (λ (x : ℕ). unnamed t x s ≡ true) (sym leaves) free))
      (λ named. reads_fits t s (arc t i) (is ∙ label_other t q s z named)))

  pub fits_label : fits t s (arc t i) ≡ eqb (arc t i).input (label_at t q s)
  fits_label =
      same_truth (fits t s (arc t i)) (eqb (arc t i).input (label_at t q s))
      (λ h. eq-eqb (arc t i).input (label_at t q s) (fitting_input (fits_cases t s (arc t i) h)))
      (λ h. input_fits (eqb-true (arc t i).input (label_at t q s) h))

-- passed

module _ (s : ℕ) (a : Arc) where
  pub passed_output : a.output < any → passed s a ≡ a.output
  unfolding passed
  passed_output l = rw (ne_eqb a.output any (λ e. omega arith))

  pub passed_on : a.output ≡ any → passed s a ≡ s
  unfolding passed
  passed_on e = rw (eq-eqb a.output any e)

  -- No arc writes 65,535 for a symbol.
  pub passed_below : s < any → a.output ≤ any → passed s a < any
  passed_below l m =
      by_test (eqb a.output any) (λ e. rw (passed_on (eqb-true a.output any e)) l)
      (λ e. let below : a.output < any = omega (arith, eqb-false a.output any e) in rw (passed_output below) below)

-- Transducers without an arc for any symbol, or without 65,535

-- Behind the last arc stands one that reads and writes nothing.
beyond : (t : Transducer) (i : ℕ) → length t.arcs ≤ i → arc t i ≡ no_arc
unfolding arc
beyond t i h = get_or-eq_default t.arcs no_arc h

pub named_input : (t : Transducer) → has_no_any_input t ≡ true → (i : ℕ) → (arc t i).input < any
unfolding has_no_any_input arc
named_input t all i = on (dec_le (length t.arcs) i)
  where
    on : Dec (length t.arcs ≤ i) → (get_or t.arcs i no_arc).input < any
    on (yes h) = rw (beyond t i h) (omega arith)
    on (no h) = ltb-true (get_or t.arcs i no_arc).input any (every_get_or (λ a. ltb a.input any) t.arcs i no_arc all (omega arith))

module _ (t : Transducer) (none : plain t ≡ true) where
  plain_both : (i : ℕ) → ((arc t i).input < any) × ((arc t i).output < any)
  unfolding plain arc
  plain_both i = on (dec_le (length t.arcs) i)
    where
      on : Dec (length t.arcs ≤ i) → ((get_or t.arcs i no_arc).input < any) × ((get_or t.arcs i no_arc).output < any)
      on (yes h) = rw (beyond t i h) (omega arith, omega arith)
      on (no h) =
          let a : Arc = get_or t.arcs i no_arc in
          let p = and-true (ltb a.input any) (ltb a.output any)
          (every_get_or (λ a. ltb a.input any && ltb a.output any) t.arcs i no_arc none (omega arith)) in
          (ltb-true a.input any p.0, ltb-true a.output any p.1)

  pub plain_input : (i : ℕ) → (arc t i).input < any
  plain_input i = (plain_both i).0

  pub plain_output : (i : ℕ) → (arc t i).output < any
  plain_output i = (plain_both i).1

pub each_named : (t : Transducer) → ((i : ℕ) → i < length t.arcs → (arc t i).input < any) → has_no_any_input t ≡ true
unfolding has_no_any_input arc
each_named t h = get_or_every (λ a. ltb a.input any) t.arcs no_arc (λ i l. lt-ltb (arc t i).input any (h i l))

-- Only an arc for any symbol passes it on: without the one there is neither.
pub named_plain : (t : Transducer) → all_labels_good t ≡ true → has_no_any_input t ≡ true → plain t ≡ true
unfolding plain arc
named_plain t good all =
    get_or_every (λ a. ltb a.input any && ltb a.output any) t.arcs no_arc
    (λ i l. let r = arc_unbarred t i good l (named_input t all i) in
    true_and (ltb (arc t i).input any) (ltb (arc t i).output any) (lt-ltb (arc t i).input any r.read) (lt-ltb (arc t i).output any r.written))

pub plain_named : (t : Transducer) → plain t ≡ true → has_no_any_input t ≡ true
plain_named t none = each_named t (λ i l. plain_input t none i)
