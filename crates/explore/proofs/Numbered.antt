-- The numbering of what is built, in paper 01's terms. Assumes nothing.
use mathlib.Core.Path.{◌≡◌, subst, sym}
use mathlib.Core.Bool.{Bool}
use mathlib.Core.List.{List, ◌∷◌}
use Prim.Native.Nat.{ℕ, ◌≤◌, ◌<◌}
use lib.ListN.{length, get_or}
use Rattle.transducer.specs.Format.{max_states}
use Rattle.explore.specs.Explore.{Step, Decides, Built, place, targets, numbered, built, built_refusal}
use Rattle.explore.proofs.Member.{At, Mem, at_length, at_get_or, get_d_at, mem_get_or}
use Rattle.explore.proofs.Distinct.{distinct_at}
use Rattle.explore.proofs.Numbering.{Reach, More, numbered_distinct, numbered_reached, numbered_all}
use Rattle.explore.proofs.Order.{built_is_met, built_first_met}
use Rattle.explore.proofs.Parts.{built_first}
use Rattle.explore.proofs.Built.{unrefused_few}
use Rattle.transducer.specs.Weight.{Weight}

-- Steps lead from the first state to a state.
abbrev pub Reached : {A O : Type 0} → (steps : A → List (Step A O)) → (first : A) → A → Type 0
Reached steps first x = Reach (λ y. targets (steps y)) first x

-- More than 1,024 states are reached.
abbrev pub MoreReached : {A O : Type 0} → (same : A → A → Bool) → (steps : A → List (Step A O)) → (first : A) → Type 0
MoreReached same steps first = More same (λ y. targets (steps y)) first

-- The first state has number 0; each number is a reached state's, and each reached state has one number; of two states the one that is first
-- met earlier has the lower number. What is met, in order: the first state, then where each arc leads, by the arcs' numbers.
pub record Numbered {A O : Type 0} (same : A → A → Bool) (steps : A → List (Step A O)) (first : A) (states met : List A) : Type 0 where
  pub begins : get_or states 0 first ≡ first
  pub reached : (i : ℕ) → i < length states → Reached steps first (get_or states i first)
  pub all : (x : A) → Reached steps first x → (i : ℕ) × (i < length states) × (get_or states i first ≡ x)
  pub once : (i j : ℕ) → i < length states → j < length states → get_or states i first ≡ get_or states j first → i ≡ j
  pub is_met : (i : ℕ) → i < length states → Mem (get_or states i first) met
  pub in_order : (i j : ℕ) → i < j → j < length states → place same (get_or states i first) met < place same (get_or states j first) met

module _ {A O : Type 0} (same : A → A → Bool) (steps : A → List (Step A O)) (final : A → Bool) (weight : A → Weight) (first : A) (right : Decides same) where
  abbrev b : Built A O
  b = built same steps final weight first

  pub built_numbered : length b.states ≤ max_states → Numbered same steps first b.states (first ∷ targets b.steps)
  unfolding built
  built_numbered few =
      record {
        begins = built_first same steps final weight first;
        reached = λ i l. numbered_reached same (λ y. targets (steps y)) first (get_or xs i first) (mem_get_or xs i first l);
        all = λ x r. number_of x (numbered_all right (λ y. targets (steps y)) first few x r);
        once = once;
        is_met = λ i l. built_is_met right steps final weight first few (get_or xs i first) (mem_get_or xs i first l);
        in_order = built_first_met right steps final weight first few first;
      }
    where
      xs : List A
      xs = numbered same (λ y. targets (steps y)) first

      number_of : (x : A) → Mem x xs → (i : ℕ) × (i < length xs) × (get_or xs i first ≡ x)
      number_of x m = (m.number, at_length xs m.number x m.stands, at_get_or xs m.number x first m.stands)

      once : (i j : ℕ) → i < length xs → j < length xs → get_or xs i first ≡ get_or xs j first → i ≡ j
      once i j k l e =
          let here : At xs j (get_or xs i first) = subst (λ (z : A). At xs j z) (sym e) (get_d_at xs j first l) in
          distinct_at right xs i j (get_or xs i first) (numbered_distinct right (λ y. targets (steps y)) first) (get_d_at xs i first k) here

  pub unrefused_numbered : built_refusal b.result ≡ 0 → Numbered same steps first b.states (first ∷ targets b.steps)
  unrefused_numbered h = built_numbered (unrefused_few same steps final weight first right h)
