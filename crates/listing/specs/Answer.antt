-- What listing answers, as numbers: those that C gets. Assumes nothing: these are definitions.
use Rattle.std.specs.Prelude.{ℕ, Option, Some, None, Result, Ok, Err}
use Rattle.transducer.specs.Answer.{Refusal}
use Rattle.transducer.specs.Answer.{number}
use Rattle.listing.specs.declared.Listing.{Listing}

-- 10 or 0, then how long the text is and the number of the refusal that the text says, 0 where it lists. Both are 0 on 10.
pub record Listed : Type 0 where
  pub refusal : ℕ
  pub len : ℕ
  pub said : ℕ

abbrev pub number_said : Option Refusal → ℕ
number_said None = 0
number_said (Some e) = number e

abbrev pub listed_of : Listing → Listed
listed_of l = record { refusal = 0; len = l.len; said = number_said l.said }

abbrev pub listed : Result Listing Refusal → Listed
listed (Ok l) = listed_of l
listed (Err e) = record { refusal = number e; len = 0; said = 0 }
