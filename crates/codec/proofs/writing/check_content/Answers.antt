-- The calls gather the tests of the finals and then of the arcs, which are those of the transducer that the runs give.
use Rattle.codec.proofs.WriteSays.{given_content}
use Rattle.codec.proofs.writing.check_content.Goals as goal

pub returns : goal.returns
returns c =
    λ start.
    rw (c.verdict.ensures, c.check_given_arcs.ensures, c.restart-finals.ensures, c.check_given_finals.ensures)
    (given_content c.args.n c.args.m c.args.f start c.args.final_states.now c.args.final_weights.now c.args.fields.now c.args.arc_weights.now)
