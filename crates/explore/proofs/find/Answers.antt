-- The laws of `Searching` carry the loop.
use mathlib.Core.Path.{◌≡◌, sym, ◌∙◌}
use mathlib.Core.List.{List}
use Prim.Native.Nat.{ℕ, ◌-◌, ◌<◌}
use native.Mathlib.Omega.{arith}
use Rattle.transducer.specs.Format.{max_states}
use Rattle.explore.specs.Chain.{Chained}
use Rattle.explore.proofs.Search.{Searching, search_in, search_less, search_found, search_next, search_none}
use Rattle.explore.proofs.find.Goals as goal

-- The key at hand is stored.
in_range : {xs states heads links : List ℕ} {key next : ℕ} → Chained xs states heads links → Searching key xs next → (next ≡ 0 → ⊥) → next - 1 < max_states
in_range chained searching more = omega (arith, (search_in chained searching more).0, chained.few)

pub offset_bounds-states-next : goal.offset_bounds-states-next
offset_bounds-states-next c =
    let r = c.requires in
    omega (arith, in_range r.1 (c.loop-next.invariant r.0 r.1 r.2) c.if-next-eq0.false)

pub bounds-states-next : goal.bounds-states-next
bounds-states-next c =
    let r = c.requires in
    omega (arith, in_range r.1 (c.loop-next.invariant r.0 r.1 r.2) c.if-next-eq0.false, r.1.room)

pub offset_bounds-links-next : goal.offset_bounds-links-next
offset_bounds-links-next c =
    let r = c.requires in
    omega (arith, in_range r.1 (c.loop-next.invariant r.0 r.1 r.2) c.if-next-eq0.false)

pub bounds-links-next : goal.bounds-links-next
bounds-links-next c = let r = c.requires in in_range r.1 (c.loop-next.invariant r.0 r.1 r.2) c.if-next-eq0.false

pub loop-next-smaller : goal.loop-next-smaller
loop-next-smaller c = let r = c.requires in search_less r.1 (c.loop-next.invariant r.0 r.1 r.2) c.if-next-eq0.false

pub loop-next-preserved : goal.loop-next-preserved
loop-next-preserved c = λ xs chained long.
    search_next chained (c.loop-next.invariant xs chained long) c.if-next-eq0.false c.if-states-next.false

pub returns-then-next-eq0 : goal.returns-then-next-eq0
returns-then-next-eq0 c = λ xs chained long. sym ((search_none chained (c.loop-next.invariant xs chained long) c.if-next-eq0.true).0 ∙ long)

pub returns-then-states-next : goal.returns-then-states-next
returns-then-states-next c = λ xs chained long.
    (search_found chained (c.loop-next.invariant xs chained long) c.if-next-eq0.false c.if-states-next.true).0
