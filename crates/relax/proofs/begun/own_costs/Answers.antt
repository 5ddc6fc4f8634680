use Prim.Native.Nat.{ℕ, ◌+◌, ◌*◌, ◌≤◌, ◌<◌}
use native.Mathlib.Omega.{arith}
use mathlib.Core.List.{List}
use lib.ListN.{length, get_or}
use mir.Syntax.{w8, w32}
use mir.Val.{Fits}
use Rattle.wire.specs.Bytes.{Bytes}
use mir.Facts.{to_z-of_z}
use Rattle.transducer.specs.Format.{head_finals}
use Rattle.transducer.proofs.Finals.{final_inside}
use Rattle.relax.proofs.EmptyPaths.{owned_first, owned_state, owned_next, owned_stop}
use Rattle.relax.proofs.begun.own_costs.Goals as goal

is_bytes : (bs : List ℕ) → ((i : ℕ) → Fits w8 (get_or bs i 0)) → Bytes bs
is_bytes bs fit = λ i. omega (arith, fit i)

-- In a turn there is a final of this number, and its record is within the bytes.
is_final : (c : goal.In-loop-i) → c.loop-i.i < head_finals c.args.table.now
is_final c = omega (arith, c.loop-i-test.true, c.requires.1)

inside : (c : goal.In-loop-i) → 12 + 10 * c.loop-i.i + 10 ≤ length c.args.table.now
inside c = final_inside c.args.table.now (is_bytes _ c.type_inv.table) c.requires.0 c.loop-i.i (is_final c)

pub loop-i-init : goal.loop-i-init
loop-i-init c = owned_first c.args.table.now c.args.costs.now c.requires.2

pub overflow_mul-i : goal.overflow_mul-i
overflow_mul-i c = omega (arith, inside c, c.well_formed)

pub overflow_add-i : goal.overflow_add-i
overflow_add-i c = omega (arith, inside c, c.well_formed)

pub load_final-f-requires : goal.load_final-f-requires
load_final-f-requires c = inside c

pub bounds-costs-f : goal.bounds-costs-f
bounds-costs-f c =
    let k = c.loop-i.invariant in
    omega (arith, owned_state c.args.table.now (is_bytes _ c.type_inv.table) c.requires.0 c.load_final-f.result (omega (arith, c.loop-i-test.true, c.requires.1)) c.load_final-f.ensures k, k.long)

pub loop-i-preserved : goal.loop-i-preserved
loop-i-preserved c =
    let f = c.load_final-f.result in
    let weight = to_z-of_z {w = w32} {z = f.weight} (record { sfits = omega arith }) in
    rw weight
    (owned_next c.args.table.now (is_bytes _ c.type_inv.table) c.requires.0 f (omega (arith, c.loop-i-test.true, c.requires.1)) c.load_final-f.ensures c.loop-i.invariant)

pub returns : goal.returns
returns c = owned_stop c.args.table.now (is_bytes _ c.type_inv.table) c.requires.0 (omega (arith, c.loop-i-test.false, c.requires.1)) c.loop-i.invariant
