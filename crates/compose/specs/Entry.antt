-- What composing answers and leaves behind. Assumes nothing: these are definitions.
use Rattle.std.specs.Prelude.{◌||◌, cond, List, ℕ, ltb}
use Rattle.transducer.specs.Answer.{Written}
use Rattle.transducer.specs.Format.{Transducer, max_states, max_bytes, max_origins, refusal, decode}
use Rattle.transducer.specs.Encode.{encode}
use Rattle.transducer.specs.Each.{any_refusal}
use Rattle.transducer.specs.Entry.{or_else}
use Rattle.explore.specs.Explore.{Step, built_refusal, BuiltSays}
use Rattle.explore.specs.Walk.{all_origins}
use Rattle.steps.specs.declared.State.{State}
use Rattle.steps.specs.declared.Origin.{Origin}
use Rattle.steps.specs.Steps.{origin_pair}
use Rattle.compose.specs.Compose.{composed}

-- The composition of what is in two transducers' bytes.
abbrev pub composition : (left right : List ℕ) → Transducer
composition xs ys = (composed (decode xs) (decode ys)).result

-- The origins of each arc, the left one and then the right one.
unfoldable pub origin_pairs : List (Step State Origin) → List ℕ
origin_pairs ss = all_origins origin_pair ss

-- 10: a lent buffer is too short
unfoldable pub compose_room : (table origins states : ℕ) → ℕ
compose_room a b c = cond (ltb a max_bytes || (ltb b max_origins || ltb c max_states)) 10 0

-- The left transducer's 1 to 8, 18 for an arc of it that is for any symbol, the right one's 1 to 8, 10, then 11 to 13.
unfoldable pub compose_refusal : (left right : List ℕ) → (table origins states : ℕ) → ℕ
compose_refusal xs ys a b c =
    or_else (refusal xs)
    (or_else (any_refusal (decode xs))
    (or_else (refusal ys) (or_else (compose_room a b c) (built_refusal (composed (decode xs) (decode ys)).result))))

-- The number that refuses a composition where enough is lent: 10 is left out.
unfoldable pub composition_refusal : (left right : List ℕ) → ℕ
composition_refusal xs ys =
    or_else (refusal xs) (or_else (any_refusal (decode xs)) (or_else (refusal ys) (built_refusal (composition xs ys))))

-- The composed transducer, the origins of its arcs, and its states, lent only to work in.
abbrev pub ComposeSays : (left right : List ℕ) → (number : ℕ) → Written → (table table' origins origins' states states' : List ℕ) → Type 0
ComposeSays left right number r a a' b b' c c' =
    BuiltSays (encode (composed (decode left) (decode right)).result) (origin_pairs (composed (decode left) (decode right)).steps) number r a a' b b' c c'
