-- What is begun is what `distances` asks for; `costs_fall` and `costs_told` say what is answered.
use Rattle.std.proofs.Common.{◌≡◌, refl, sym, arith, rules, Err}
use Rattle.wire.specs.Bytes.{Bytes}
use Rattle.transducer.specs.Format.{decode}
use Rattle.reach.proofs.Sized.{Sized, sized}
use Rattle.distance.proofs.Answers.{costs_fall, costs_told}
use Rattle.distance.proofs.entry.costs_by.Goals as goal

pub begin-shape-requires : goal.begin-shape-requires
begin-shape-requires c = (sym c.requires.0.refusal_is, c.requires.1)

pub distances-requires : goal.distances-requires
distances-requires c = (c.begin-shape.ensures, c.requires.0, c.requires.2)

pub returns-in_err-distances : goal.returns-in_err-distances
returns-in_err-distances c =
    let bytes : Bytes c.args.table.now = λ i. (c.type_inv.table i).fits in
    let z : Sized (decode c.args.table.now) = sized c.args.table.now bytes (sym c.requires.0.refusal_is) in
    let e = c.in_err-distances.field-0.0 in
    let is : c.from_residual.result ≡ Err e = search rules in
    rw (is, c.in_err-distances.ensures.refusal) (costs_fall c.args.table.now c.args.cells.now z c.distances.ensures.says (rw c.in_err-distances.was refl))

pub put-requires : goal.put-requires
put-requires c =
    let known = c.begin-shape.ensures in
    let cells = c.distances.ensures.says.cells in
    (known.shaped.few_states, omega (arith, known.shaped.states_are, cells.costs), c.requires.3)

pub returns : goal.returns
returns c =
    let bytes : Bytes c.args.table.now = λ i. (c.type_inv.table i).fits in
    let z : Sized (decode c.args.table.now) = sized c.args.table.now bytes (sym c.requires.0.refusal_is) in
    costs_told c.args.table.now c.args.cells.now z c.distances.ensures.says (rw c.in_ok-distances.was refl) c.begin-shape.ensures.shaped.states_are
    c.put.ensures
