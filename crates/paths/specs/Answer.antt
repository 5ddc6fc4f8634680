-- What counting answers, as numbers: those that C gets. Assumes nothing: these are definitions.
use Rattle.std.specs.Prelude.{ℕ, Result}
use Rattle.transducer.specs.Answer.{Refusal}
use Rattle.transducer.specs.Answer.{refusal_in, value_in}

-- The refusal or 0, then the count, 0 on refusal.
pub record Counted : Type 0 where
  pub refusal : ℕ
  pub count : ℕ

abbrev pub counted : Result ℕ Refusal → Counted
counted answer = record { refusal = refusal_in answer; count = value_in answer }
