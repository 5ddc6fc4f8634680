-- `tables_first` and `nine_last` have the two texts.
use Rattle.transducer.specs.Answer.{number}
use Rattle.transducer.proofs.Numbered.{number_some}
use Rattle.cascade.specs.Entry.{tables_refusal}
use Rattle.cascade_listing.proofs.Steps.{tables_first, nine_last}
use Rattle.cascade_listing.proofs.refuse_odd.Goals as goal

pub returns-in-Ok : goal.returns-in-Ok
returns-in-Ok c = nine_last (tables_refusal c.args.left.now c.args.right.now) c.in-Ok.ensures c.put_refusal.ensures

pub returns-in-Err : goal.returns-in-Err
returns-in-Err c =
    let e = c.in-Err.refusal in
    tables_first (tables_refusal c.args.left.now c.args.right.now) (number e) c.in-Err.ensures (number_some e) c.put_refusal-in-Err.ensures
