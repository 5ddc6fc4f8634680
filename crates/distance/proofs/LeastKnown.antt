-- What `unvalidated` says holds of all accepted bytes. Assumes nothing.
use mathlib.Core.Path.{◌≡◌, sym}
use mathlib.Core.List.{List}
use Prim.Native.Nat.{ℕ, ◌<◌}
use lib.ListN.{length}
use Rattle.wire.proofs.Bool.{never}
use Rattle.transducer.specs.Format.{min_weight, decode, refusal}
use Rattle.transducer.specs.Path.{arc, no_arc}
use Rattle.transducer.specs.Weight.{AtMost}
use Rattle.transducer.specs.Accepted.{ValidationSays}
use Rattle.transducer.specs.Answer.{validated}
use Rattle.transducer.proofs.Good.{arc_light}
use Rattle.transducer.proofs.Weights.{good_range}
use Rattle.reach.proofs.Sized.{Sized}
use Rattle.distance.specs.Ended.{unvalidated}

lightest : (bs : List ℕ) → Sized (decode bs) → (i : ℕ) → i < length (decode bs).arcs → AtMost min_weight (arc (decode bs) i).weight
unfolding arc
lightest bs size i l = (good_range (arc (decode bs) i).weight (arc_light (decode bs) size.content i no_arc l)).low

pub unvalidated_says : (bs : List ℕ) → Sized (decode bs) → refusal bs ≡ 0 → ValidationSays bs (validated unvalidated)
unvalidated_says bs size ok =
    record {
      refusal_is = sym ok;
      light = λ _. lightest bs size;
      rises = λ _ e. never e;
      written = λ _ e. never e;
      no_any = λ _ e. never e;
    }
