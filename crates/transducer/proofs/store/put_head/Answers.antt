-- Six stores, each right behind the one before, make the record.
use Rattle.transducer.proofs.Encode.{sets_head}
use Rattle.transducer.proofs.store.put_head.Goals as goal

pub returns : goal.returns
returns c =
    let x = c.args in
    sets_head x.out.now x.n x.m x.f x.start c.put_u16.ensures c.put_u16-2.ensures c.put_u16-3.ensures c.put_u16-4.ensures c.put_u16-5.ensures
    c.put_u16-6.ensures
