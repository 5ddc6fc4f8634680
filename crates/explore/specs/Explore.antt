-- A transducer built by following steps from a first state: states numbered as first reached, the earliest number served first,
-- over any kind of state and any step function. Assumes nothing: these are definitions.
use Rattle.std.specs.Prelude.{◌≡◌, Bool, true, false, ◌||◌, cond, List, [], ◌∷◌, ◌++◌, map, ℕ, zero, suc, ltb, leb, eqb, length, get_or}
use Rattle.wire.specs.Bytes.{filled}
use Rattle.transducer.specs.declared.Arc.{Arc}
use Rattle.transducer.specs.declared.Final.{Final}
use Rattle.transducer.specs.Answer.{Written}
use Rattle.transducer.specs.Format.{Transducer, max_states, max_arcs, weights_good}
use Rattle.transducer.specs.Weight.{Weight}
use Rattle.transducer.specs.Entry.{unless}

-- A test that two states are the same is right.
pub record Decides {A : Type 0} (same : A → A → Bool) : Type 0 where
  pub sound : (x y : A) → same x y ≡ true → x ≡ y
  pub complete : (x : A) → same x x ≡ true

-- A step from a state: where it leads, its labels and weight, and where it comes from.
pub record Step (A O : Type 0) : Type 0 where
  pub target : A
  pub input : ℕ
  pub output : ℕ
  pub weight : Weight
  pub origin : O

-- Whether a state stands in a list, and its place there (the list's length where it does not).
unfoldable pub there : {A : Type 0} → (same : A → A → Bool) → A → List A → Bool
there same x [] = false
there same x (y ∷ ys) = same x y || there same x ys

unfoldable pub place : {A : Type 0} → (same : A → A → Bool) → A → List A → ℕ
place same x [] = 0
place same x (y ∷ ys) = cond (same x y) 0 (suc (place same x ys))

-- The states so far with those of a list that are new, in the order of meeting.
unfoldable pub met : {A : Type 0} → (same : A → A → Bool) → (targets : List A) → List A → List A
met same [] xs = xs
met same (y ∷ ys) xs = met same ys (cond (there same y xs) xs (xs ++ (y ∷ [])))

-- Each state is served in turn, from number i on.
unfoldable pub served : {A : Type 0} → (same : A → A → Bool) → (next : A → List A) → (first : A) → (fuel i : ℕ) → List A → List A
served same next first zero i xs = xs
served same next first (suc fuel) i xs =
    let more = served same next first fuel (suc i) (met same (next (get_or xs i first)) xs) in cond (leb (length xs) i) xs more

-- All states that are reached, or more than 1,024 of them.
unfoldable pub numbered : {A : Type 0} → (same : A → A → Bool) → (next : A → List A) → (first : A) → List A
numbered same next first = served same next first (suc max_states) 0 (first ∷ [])

unfoldable pub targets : {A O : Type 0} → List (Step A O) → List A
targets ss = map (λ s. s.target) ss

-- The arcs of the states in a list, the first of which has the number i; `all` numbers their targets.
unfoldable pub arcs_here : {A O : Type 0} → (same : A → A → Bool) → (all : List A) → (i : ℕ) → List (Step A O) → List Arc
arcs_here same all i [] = []
arcs_here same all i (s ∷ ss) =
    record { source = i; input = s.input; output = s.output; target = place same s.target all; weight = s.weight }
    ∷ arcs_here same all i ss

unfoldable pub arcs_from : {A O : Type 0} → (same : A → A → Bool) → (steps : A → List (Step A O)) → (all : List A) → (i : ℕ) → List A → List Arc
arcs_from same steps all i [] = []
arcs_from same steps all i (x ∷ xs) = arcs_here same all i (steps x) ++ arcs_from same steps all (suc i) xs

unfoldable pub finals_from : {A : Type 0} → (final : A → Bool) → (weight : A → Weight) → (i : ℕ) → List A → List Final
finals_from final weight i [] = []
finals_from final weight i (x ∷ xs) =
    cond (final x) (record { state = i; weight = weight x } ∷ finals_from final weight (suc i) xs) (finals_from final weight (suc i) xs)

-- The steps of all states in a list, in order: the step of each arc, by the arc's number.
unfoldable pub steps_from : {A O : Type 0} → (steps : A → List (Step A O)) → List A → List (Step A O)
steps_from steps [] = []
steps_from steps (x ∷ xs) = steps x ++ steps_from steps xs

-- What is built: the states by number, the step of each arc, and the transducer.
pub record Built (A O : Type 0) : Type 0 where
  pub states : List A
  pub steps : List (Step A O)
  pub result : Transducer

unfoldable pub built : {A O : Type 0} → (same : A → A → Bool) → (steps : A → List (Step A O)) → (final : A → Bool) → (weight : A → Weight) → (first : A)
    → Built A O
built same steps final weight first =
    let xs = numbered same (λ x. targets (steps x)) first in
    record {
      states = xs;
      steps = steps_from steps xs;
      result = record { states = length xs; start = 0; finals = finals_from final weight 0 xs; arcs = arcs_from same steps xs 0 xs };
    }

-- Refusals 11, 12 and 13 of what is built; 0 where none holds.
unfoldable pub built_refusal : Transducer → ℕ
built_refusal t =
    cond (ltb max_states t.states) 11 (cond (ltb max_arcs (length t.arcs)) 12 (cond (weights_good t) 0 13))

-- Whether a refusal keeps lent buffers: each but 11 to 13 does.
unfoldable pub keeps : (number : ℕ) → Bool
keeps number = leb number 10 || ltb 13 number

-- A lent buffer after a call that builds: as it was where a refusal keeps it, all zeros for 11 to 13, on success what is written with zeros behind.
unfoldable pub left_behind : (number : ℕ) → (before written : List ℕ) → List ℕ
left_behind number before written =
    cond (eqb number 0) (filled (length before) written) (cond (keeps number) before (filled (length before) []))

-- What a call answers that builds a transducer into a lent buffer, with the origins of its arcs in another and a third lent only to work in.
pub record BuiltSays (bytes traced : List ℕ) (number : ℕ) (r : Written) (a a' b b' c c' : List ℕ) : Type 0 where
  pub refusal_is : r.refusal ≡ number
  pub len_is : r.len ≡ unless number (length bytes)
  pub table : a' ≡ left_behind number a bytes
  pub origins : b' ≡ left_behind number b traced
  pub work : c' ≡ left_behind number c []
