-- Answers as C gets them: the refusal as the result, the other numbers through references. Assumes nothing: these are definitions.
use Rattle.std.specs.Prelude.{◌≡◌, List, [], ◌∷◌, ℕ}
use Rattle.transducer.specs.Answer.{Header, Written}
use Rattle.transducer.specs.Weight.{Weight, amount}
use Rattle.paths.specs.Answer.{Counted}
use Rattle.report.specs.Answer.{Told}
use Rattle.listing.specs.Answer.{Listed}

abbrev pub written : (refusal len : ℕ) → Written
written r l = record { refusal = r; len = l }

abbrev pub counted : (refusal count : ℕ) → Counted
counted r n = record { refusal = r; count = n }

abbrev pub listed : (refusal len said : ℕ) → Listed
listed r l s = record { refusal = r; len = l; said = s }

-- The head's four numbers, in their order.
abbrev pub head_numbers : (states arcs finals start : ℕ) → List ℕ
head_numbers states arcs finals start = states ∷ arcs ∷ finals ∷ start ∷ []

-- What is told of a path as three signed numbers, in their order. The cost may be below 0; how many arcs and labels there are is not.
abbrev pub path_numbers : (cost : Weight) → (arcs labels : ℕ) → List Weight
path_numbers cost arcs labels = cost ∷ amount arcs ∷ amount labels ∷ []

-- A head, or a path, told by the refusal and these numbers: of the answer that they are made from, `Says` holds.
pub record HeadIn (refusal : ℕ) (numbers : List ℕ) (Says : Header → Type 0) : Type 0 where
  pub states : ℕ
  pub arcs : ℕ
  pub finals : ℕ
  pub start : ℕ
  pub numbers_are : numbers ≡ head_numbers states arcs finals start
  pub says : Says (record { refusal = refusal; states = states; arcs = arcs; finals = finals; start = start })

pub record ToldIn (refusal : ℕ) (numbers : List Weight) (Says : Told → Type 0) : Type 0 where
  pub cost : Weight
  pub arcs : ℕ
  pub labels : ℕ
  pub numbers_are : numbers ≡ path_numbers cost arcs labels
  pub says : Says (record { refusal = refusal; cost = cost; arcs = arcs; labels = labels })
