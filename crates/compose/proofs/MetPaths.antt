-- What the origins of a path's arcs lead to: the two paths that its steps come from. Assumes nothing.
use mathlib.Core.Path.{◌≡◌, refl, ap, ap₂, ◌∙◌}
use mathlib.Core.List.{List, [], ◌∷◌, map}
use Prim.Native.Nat.{ℕ, zero, suc, ◌+◌, ◌*◌, ◌≤◌}
use native.Mathlib.Omega.{arith}
use lib.ListN.{length, get_or}
use Rattle.wire.specs.Bytes.{filled}
use Rattle.wire.proofs.Places.{get_or_filled}
use Rattle.transducer.specs.Format.{Transducer, barred}
use Rattle.transducer.specs.Weight.{no_weight}
use Rattle.explore.specs.Explore.{Step, Built}
use Rattle.explore.specs.Walk.{all_origins}
use Rattle.explore.proofs.Trails.{Trail, along}
use Rattle.steps.specs.declared.Origin.{Origin}
use Rattle.steps.specs.declared.Origin.TheVariants.{Both}
use Rattle.steps.specs.declared.State.{State}
use Rattle.steps.specs.Steps.{steps, left_origin, right_origin, origin_pair}
use Rattle.compose.specs.Entry.{origin_pairs}
use Rattle.compose.specs.Claim.{led, met_at}
use Rattle.compose.proofs.Trail.{lefts, rights}
use Rattle.compose.proofs.Origins.{led_lefts, led_rights}

-- The step that is read where there is none; its origins are 0, as what is read behind a list's end is.
abbrev pub no_step : Step State Origin
no_step =
    record { target = record { left = 0; right = 0; filter = 0 }; input = 0; output = 0; weight = no_weight; origin = Both 0 0 }

pub left_at : (ss : List (Step State Origin)) (i : ℕ) → get_or (origin_pairs ss) (2 * i + 0) 0 ≡ left_origin (get_or ss i no_step).origin
unfolding origin_pairs all_origins origin_pair left_origin
left_at [] i = refl
left_at (s ∷ ss) zero = refl
left_at (s ∷ ss) (suc i) =
    let e : 2 * suc i + 0 ≡ suc (suc (2 * i + 0)) = omega arith in
    rw e (left_at ss i)

pub right_at : (ss : List (Step State Origin)) (i : ℕ) → get_or (origin_pairs ss) (2 * i + 1) 0 ≡ right_origin (get_or ss i no_step).origin
unfolding origin_pairs all_origins origin_pair right_origin
right_at [] i = refl
right_at (s ∷ ss) zero = refl
right_at (s ∷ ss) (suc i) =
    let e : 2 * suc i + 1 ≡ suc (suc (2 * i + 1)) = omega arith in
    rw e (right_at ss i)

-- Zeros behind the origins change nothing.
pub met_filled : (room : ℕ) (os : List ℕ) (side : ℕ) (p : List ℕ) → met_at (filled room os) side p ≡ met_at os side p
unfolding met_at
met_filled room os side p = ap led (at_sides p)
  where
    at_sides : (p : List ℕ) → map (λ i. get_or (filled room os) (2 * i + side) 0) p ≡ map (λ i. get_or os (2 * i + side) 0) p
    at_sides [] = refl
    at_sides (i ∷ p) = ap₂ ◌∷◌ (get_or_filled room os (2 * i + side)) (at_sides p)

module _ (b : Built State Origin) where
  lefts_at : (p : List ℕ) → map (λ i. get_or (origin_pairs b.steps) (2 * i + 0) 0) p ≡ map (λ s. left_origin s.origin) (along b no_step p)
  lefts_at [] = refl
  lefts_at (i ∷ p) = ap₂ ◌∷◌ (left_at b.steps i) (lefts_at p)

  rights_at : (p : List ℕ) → map (λ i. get_or (origin_pairs b.steps) (2 * i + 1) 0) p ≡ map (λ s. right_origin s.origin) (along b no_step p)
  rights_at [] = refl
  rights_at (i ∷ p) = ap₂ ◌∷◌ (right_at b.steps i) (rights_at p)

  module _ (t u : Transducer) (p : List ℕ) (x y : State) (trail : Trail (steps t u) x (along b no_step p) y) where
    pub met_lefts : length t.arcs ≤ barred → met_at (origin_pairs b.steps) 0 p ≡ lefts (along b no_step p)
    unfolding met_at
    met_lefts few = ap led (lefts_at p) ∙ led_lefts t u x (along b no_step p) y few trail

    pub met_rights : length u.arcs ≤ barred → met_at (origin_pairs b.steps) 1 p ≡ rights (along b no_step p)
    unfolding met_at
    met_rights few = ap led (rights_at p) ∙ led_rights t u x (along b no_step p) y few trail
