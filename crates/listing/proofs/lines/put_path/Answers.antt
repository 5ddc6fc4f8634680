-- `found` has the path that is walked to, and `got` what it gives the line: its cost, and its labels at the front of their buffer.
use Rattle.std.proofs.Common.{arith, ℕ, replicate}
use Rattle.std.proofs.Math.ListN.{length-replicate, length-take}
use Rattle.std.proofs.Math.Facts.{to_z-of_z}
use Rattle.transducer.specs.Format.{max_path, decode}
use Rattle.paths.proofs.Ready.{sized}
use Rattle.paths.proofs.NthSays.{found}
use Rattle.listing.proofs.NthLine.{got}
use Rattle.listing.proofs.lines.put_path.Goals as goal

pub tell-told-requires : goal.tell-told-requires
tell-told-requires c =
    let t = decode c.args.walk.now.table.now in
    let w = c.requires.0 in
    let z = sized c.args.walk.now.table.now w.bytes w.prepared.shaped.opened.accepted in
    let path = found t z c.args.k c.nth_arcs-len.result (replicate max_path 0) c.nth_arcs-len.new.arcs w.counted.finite c.requires.1
    (omega (arith, length-replicate {A = ℕ} max_path 0)) c.nth_arcs-len.ensures.0 c.nth_arcs-len.ensures.1 in
    let p = w.prepared in
    (p.shaped.opened, p.shaped.start_is, p.finals, path.inside, path.few, path.accepted, omega arith)

pub slice_bounds-labels-end : goal.slice_bounds-labels-end
slice_bounds-labels-end c =
    let t = decode c.args.walk.now.table.now in
    let w = c.requires.0 in
    let z = sized c.args.walk.now.table.now w.bytes w.prepared.shaped.opened.accepted in
    let path = found t z c.args.k c.nth_arcs-len.result (replicate max_path 0) c.nth_arcs-len.new.arcs w.counted.finite c.requires.1
    (omega (arith, length-replicate {A = ℕ} max_path 0)) c.nth_arcs-len.ensures.0 c.nth_arcs-len.ensures.1 in
    let line = got t z w.counted.finite c.requires.1 (omega (arith, length-replicate {A = ℕ} max_path 0)) path c.tell-told.ensures in
    line.inside

pub slice_bounds-put_line-end : goal.slice_bounds-put_line-end
slice_bounds-put_line-end c =
    let t = decode c.args.walk.now.table.now in
    let w = c.requires.0 in
    let z = sized c.args.walk.now.table.now w.bytes w.prepared.shaped.opened.accepted in
    let path = found t z c.args.k c.nth_arcs-len.result (replicate max_path 0) c.nth_arcs-len.new.arcs w.counted.finite c.requires.1
    (omega (arith, length-replicate {A = ℕ} max_path 0)) c.nth_arcs-len.ensures.0 c.nth_arcs-len.ensures.1 in
    let line = got t z w.counted.finite c.requires.1 (omega (arith, length-replicate {A = ℕ} max_path 0)) path c.tell-told.ensures in
    omega (arith, length-take c.tell-told.result.labels c.tell-told.new.labels, line.inside)

pub put_line-requires : goal.put_line-requires
put_line-requires c =
    let t = decode c.args.walk.now.table.now in
    let w = c.requires.0 in
    let z = sized c.args.walk.now.table.now w.bytes w.prepared.shaped.opened.accepted in
    let path = found t z c.args.k c.nth_arcs-len.result (replicate max_path 0) c.nth_arcs-len.new.arcs w.counted.finite c.requires.1
    (omega (arith, length-replicate {A = ℕ} max_path 0)) c.nth_arcs-len.ensures.0 c.nth_arcs-len.ensures.1 in
    let line = got t z w.counted.finite c.requires.1 (omega (arith, length-replicate {A = ℕ} max_path 0)) path c.tell-told.ensures in
    rw (to_z-of_z line.cost_fits, line.is_line) c.requires.2

pub returns : goal.returns
returns c =
    let t = decode c.args.walk.now.table.now in
    let w = c.requires.0 in
    let z = sized c.args.walk.now.table.now w.bytes w.prepared.shaped.opened.accepted in
    let path = found t z c.args.k c.nth_arcs-len.result (replicate max_path 0) c.nth_arcs-len.new.arcs w.counted.finite c.requires.1
    (omega (arith, length-replicate {A = ℕ} max_path 0)) c.nth_arcs-len.ensures.0 c.nth_arcs-len.ensures.1 in
    let line = got t z w.counted.finite c.requires.1 (omega (arith, length-replicate {A = ℕ} max_path 0)) path c.tell-told.ensures in
    rw (← line.is_line) (rw (to_z-of_z line.cost_fits) at c.put_line.ensures)
