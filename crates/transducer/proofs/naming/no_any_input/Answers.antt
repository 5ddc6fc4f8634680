-- `headed` has the numbers that the calls ask for; the arcs that are searched are those of the transducer (`named_decode`).
use Rattle.std.proofs.Common.{◌≡◌, ◌∙◌, arith}
use Rattle.wire.proofs.Low.{are_bytes}
use Rattle.transducer.specs.Format.{arcs_at, head_finals}
use Rattle.transducer.proofs.Offsets.{length_accepted, length_arcs}
use Rattle.transducer.proofs.Headed.{headed}
use Rattle.transducer.proofs.Named.{named_decode}
use Rattle.transducer.proofs.naming.no_any_input.Goals as goal

pub header-head-requires : goal.header-head-requires
header-head-requires c = omega (arith, length_accepted c.args.bytes.now (are_bytes _ c.type_inv.bytes) c.requires.0)

pub arcs_at-requires : goal.arcs_at-requires
arcs_at-requires c = omega (arith, headed c.args.bytes.now (are_bytes _ c.type_inv.bytes) c.requires.0 c.header-head.result c.header-head.ensures)

pub no_any_among-requires : goal.no_any_among-requires
no_any_among-requires c =
    let head = headed c.args.bytes.now (are_bytes _ c.type_inv.bytes) c.requires.0 c.header-head.result c.header-head.ensures in
    omega (arith, c.arcs_at.ensures, head.finals_are, head.arcs_are, length_arcs c.args.bytes.now (are_bytes _ c.type_inv.bytes) c.requires.0, length_accepted c.args.bytes.now (are_bytes _ c.type_inv.bytes) c.requires.0)

pub returns : goal.returns
returns c =
    let head = headed c.args.bytes.now (are_bytes _ c.type_inv.bytes) c.requires.0 c.header-head.result c.header-head.ensures in
    let begin : c.arcs_at.result ≡ arcs_at (head_finals c.args.bytes.now) = omega (arith, c.arcs_at.ensures, head.finals_are) in
    c.no_any_among.ensures
    ∙ named_decode c.args.bytes.now c.header-head.result.arcs c.arcs_at.result (are_bytes _ c.type_inv.bytes) c.requires.0
    (head.arcs_are ∙ length_arcs c.args.bytes.now (are_bytes _ c.type_inv.bytes) c.requires.0) begin
