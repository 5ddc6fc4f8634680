use Rattle.std.proofs.Common.{◌≡◌, ℕ, ◌+◌, ◌*◌, ◌<◌, ◌≤◌, eqb, length, sym, ◌∙◌, ⊎_elim, arith, eqb-true}
use native.Mathlib.Decide.{dec_le}
use borrow.Author.Tests.{eqb-false}
use Rattle.wire.proofs.Bool.{or-true, or_false}
use Rattle.wire.proofs.Low.{are_bytes}
use Rattle.transducer.specs.Format.{arc_bytes, decode}
use Rattle.transducer.proofs.AcceptedAt.{opened_inside, input_in_place}
use Rattle.transducer.proofs.Leaving.{no_any_label, no_label, named_label, unnamed_label}
use Rattle.transducer.proofs.naming.label_at.Goals as goal

pub returns-then-no_any_input-symbol : goal.returns-then-no_any_input-symbol
returns-then-no_any_input-symbol c =
    let t = decode c.args.bytes.now in
    ⊎_elim (λ e. no_any_label t c.args.from c.args.to c.args.symbol (c.requires.accepted_at.1 e))
    (λ e. no_label t c.args.from c.args.to c.args.symbol (eqb-true c.args.symbol 0 e))
    (or-true c.args.no_any_input (eqb c.args.symbol 0) c.if-no_any_input-symbol.true)

-- The arc lies within the bytes.
inside : (c : goal.In-loop-i) → c.args.first + arc_bytes * (c.loop-i.i + 1) ≤ length c.args.bytes.now
inside c =
    opened_inside c.args.bytes.now (are_bytes _ c.type_inv.bytes) c.args.first c.requires.accepted_at.0 (c.loop-i.i + 1)
    (omega (arith, c.requires.by_index.1.rest.within))

pub overflow_mul-i : goal.overflow_mul-i
overflow_mul-i c = omega (arith, inside c)

pub overflow_add-first : goal.overflow_add-first
overflow_add-first c = omega (arith, inside c)

pub overflow_add-first-in-loop-i : goal.overflow_add-first-in-loop-i
overflow_add-first-in-loop-i c = omega (arith, inside c)

pub u16_at-requires : goal.u16_at-requires
u16_at-requires c = omega (arith, inside c)

pub returns-then-u16_at-symbol : goal.returns-then-u16_at-symbol
returns-then-u16_at-symbol c =
    let input = input_in_place c.args.bytes.now (are_bytes _ c.type_inv.bytes) c.args.first c.requires.accepted_at.0 c.loop-i.i
    (omega (arith, c.requires.by_index.1.rest.within)) in
    named_label (decode c.args.bytes.now) c.args.from c.args.to c.args.symbol c.requires.by_index.1 c.loop-i.i
    c.loop-i.auto.i c.loop-i-test.true (input ∙ sym c.u16_at.ensures ∙ c.if-u16_at-symbol.true)

-- A number up to i is below it or i.
on_last : (k i : ℕ) → (k < i → ⊥) → (k ≡ i → ⊥) → k < i + 1 → ⊥
on_last k i below same h = on (dec_le i k)
  where
    on : Dec (i ≤ k) → ⊥
    on (yes l) = same (omega arith)
    on (no l) = below (omega arith)

pub loop-i-preserved : goal.loop-i-preserved
loop-i-preserved c k l h e =
    let input = input_in_place c.args.bytes.now (are_bytes _ c.type_inv.bytes) c.args.first c.requires.accepted_at.0 c.loop-i.i
    (omega (arith, c.requires.by_index.1.rest.within)) in
    on_last k c.loop-i.i (λ less. c.loop-i.invariant k l less e)
    (λ same. c.if-u16_at-symbol.false (c.u16_at.ensures ∙ sym input ∙ (rw same at e))) h

pub returns : goal.returns
returns c =
    let tests = or_false c.args.no_any_input (eqb c.args.symbol 0) c.if-no_any_input-symbol.false in
    unnamed_label (decode c.args.bytes.now) c.args.from c.args.to c.args.symbol c.requires.by_index.1 (eqb-false c.args.symbol 0 tests.1)
    (λ i l h. c.loop-i.invariant i l (omega arith))
