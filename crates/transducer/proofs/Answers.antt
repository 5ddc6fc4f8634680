-- Laws of what an answer is made of: the refusals in turn, numbers that are 0 on refusal, and buffers left behind. Assumes nothing.
use Rattle.std.proofs.Common.{◌≡◌, ℕ, Bool, true, false, eqb, List, length, refl, eq-eqb, ne_eqb, eqb-true}
use borrow.Author.Tests.{eqb-false}
use Rattle.wire.specs.Bytes.{filled, signed_filled}
use Rattle.transducer.specs.Entry.{or_else, unless, cost_unless, left_in, weights_left_in}
use Rattle.transducer.specs.Weight.{Weight, no_weight}

pub or_else_none : (a b : ℕ) → or_else a b ≡ 0 → (a ≡ 0) × (b ≡ 0)
unfolding or_else
or_else_none a b h = on (eqb a 0) refl
  where
    on : (x : Bool) → eqb a 0 ≡ x → (a ≡ 0) × (b ≡ 0)
    on true e = (eqb-true a 0 e, rw e at h)
    on false e = absurd (eqb-false a 0 e (rw e at h))

pub none_or_else : (a b : ℕ) → a ≡ 0 → or_else a b ≡ b
unfolding or_else
none_or_else a b e = rw (eq-eqb a 0 e)

pub some_or_else : (a b : ℕ) → (a ≡ 0 → ⊥) → or_else a b ≡ a
unfolding or_else
some_or_else a b bad = rw (ne_eqb a 0 bad)

pub unless_none : (number value : ℕ) → number ≡ 0 → unless number value ≡ value
unfolding unless
unless_none number value e = rw (eq-eqb number 0 e)

pub unless_some : (number value : ℕ) → (number ≡ 0 → ⊥) → unless number value ≡ 0
unfolding unless
unless_some number value bad = rw (ne_eqb number 0 bad)

pub cost_unless_none : (number : ℕ) (cost : Weight) → number ≡ 0 → cost_unless number cost ≡ cost
unfolding cost_unless
cost_unless_none number cost e = rw (eq-eqb number 0 e)

pub cost_unless_some : (number : ℕ) (cost : Weight) → (number ≡ 0 → ⊥) → cost_unless number cost ≡ no_weight
unfolding cost_unless
cost_unless_some number cost bad = rw (ne_eqb number 0 bad)

pub left_in_none : (number : ℕ) (before written : List ℕ) → number ≡ 0 → left_in number before written ≡ filled (length before) written
unfolding left_in
left_in_none number before written e = rw (eq-eqb number 0 e)

pub weights_left_in_none : (number : ℕ) (before written : List Weight) → number ≡ 0
    → weights_left_in number before written ≡ signed_filled (length before) written
unfolding weights_left_in
weights_left_in_none number before written e = rw (eq-eqb number 0 e)
