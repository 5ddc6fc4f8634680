-- What a call answers that refuses once the buffers have been written to.
use Rattle.std.proofs.Common.{◌≡◌, ℕ, List, Result, Err, refl}
use Rattle.transducer.specs.Answer.{Refusal, number, written}
use Rattle.explore.specs.Walk.{Zeroed, RefusedWith}

pub refused_with : {e : Refusal} {r : Result ℕ Refusal} {a a' b b' c c' : List ℕ} → r ≡ Err e → Zeroed a a' b b' c c'
    → RefusedWith (number e) (written r) a a' b b' c c'
refused_with {e} {r} {a} {a'} {b} {b'} {c} {c'} is z =
    let says : RefusedWith (number e) (written (Err e)) a a' b b' c c' =
    record { answer = refl; table = z.table; origins = z.origins; states = z.states } in
    rw is says
