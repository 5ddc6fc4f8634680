-- What reading and writing answer and leave behind. Assumes nothing: these are definitions.
use Rattle.std.specs.Prelude.{◌≡◌, Bool, ◌||◌, not, cond, List, [], ◌∷◌, map, ℕ, ◌+◌, ◌*◌, ltb, length, get_or}
use Rattle.wire.specs.Bytes.{places}
use Rattle.transducer.specs.declared.Arc.{Arc}
use Rattle.transducer.specs.declared.Final.{Final}
use Rattle.transducer.specs.Answer.{Header}
use Rattle.transducer.specs.Answer.{Written}
use Rattle.transducer.specs.Format.{Transducer, max_states, max_arcs, max_fields, max_bytes, refusal, decode, head_good, content_refusal}
use Rattle.transducer.specs.Encode.{encode}
use Rattle.transducer.specs.Entry.{or_else, unless, left_in, weights_left_in}
use Rattle.transducer.specs.Weight.{Weight, no_weight}

-- An arc's four fields, in record order.
unfoldable pub arc_fields : List Arc → List ℕ
arc_fields [] = []
arc_fields (a ∷ as') = a.source ∷ a.input ∷ a.output ∷ a.target ∷ arc_fields as'

-- Reading: 1 to 8, then 10 for a buffer that is too short.
unfoldable pub read_room : (states weights fields arc_weights : ℕ) → ℕ
read_room a b c d = cond (ltb a max_states || (ltb b max_states || (ltb c max_fields || ltb d max_arcs))) 10 0

unfoldable pub read_refusal : List ℕ → (states weights fields arc_weights : ℕ) → ℕ
read_refusal bs a b c d = or_else (refusal bs) (read_room a b c d)

pub record ReadSays (bs : List ℕ) (number : ℕ) (r : Header) (a a' : List ℕ) (b b' : List Weight) (c c' : List ℕ) (d d' : List Weight) : Type 0 where
  pub refusal_is : r.refusal ≡ number
  pub states_is : r.states ≡ unless number (decode bs).states
  pub arcs_is : r.arcs ≡ unless number (length (decode bs).arcs)
  pub finals_is : r.finals ≡ unless number (length (decode bs).finals)
  pub start_is : r.start ≡ unless number (decode bs).start
  pub final_states : a' ≡ left_in number a (map (λ f. f.state) (decode bs).finals)
  pub final_weights : b' ≡ weights_left_in number b (map (λ f. f.weight) (decode bs).finals)
  pub fields : c' ≡ left_in number c (arc_fields (decode bs).arcs)
  pub arc_weights : d' ≡ weights_left_in number d (map (λ f. f.weight) (decode bs).arcs)

-- Writing: the transducer that the four numbers and the four runs give; what lies behind the f and m of them is ignored.
unfoldable pub final_of : (states : List ℕ) → (weights : List Weight) → (i : ℕ) → Final
final_of ss ws i = record { state = get_or ss i 0; weight = get_or ws i no_weight }

unfoldable pub arc_of : (fields : List ℕ) → (weights : List Weight) → (i : ℕ) → Arc
arc_of fs ws i =
    record {
      source = get_or fs (4 * i) 0;
      input = get_or fs (4 * i + 1) 0;
      output = get_or fs (4 * i + 2) 0;
      target = get_or fs (4 * i + 3) 0;
      weight = get_or ws i no_weight;
    }

unfoldable pub given : (n m f start : ℕ) → (states : List ℕ) → (weights : List Weight) → (fields : List ℕ) → (arc_weights : List Weight) → Transducer
given n m f start a b c d =
    record { states = n; start = start; finals = places f 0 1 (final_of a b); arcs = places m 0 1 (arc_of c d) }

-- 4: fewer than f or m of them
unfoldable pub too_few : (f m : ℕ) → (states weights fields arc_weights : ℕ) → Bool
too_few f m a b c d = ltb a f || (ltb b f || (ltb c (4 * m) || ltb d m))

-- Writing: 3, 4, 5 to 8, then 10 for a buffer that is too short.
unfoldable pub write_refusal : (n m f start : ℕ) → (states : List ℕ) → (weights : List Weight) → (fields : List ℕ) → (arc_weights : List Weight)
    → (room : ℕ) → ℕ
write_refusal n m f start a b c d room =
    cond (not (head_good n m f start)) 3
    (cond (too_few f m (length a) (length b) (length c) (length d)) 4
    (or_else (content_refusal (given n m f start a b c d)) (cond (ltb room max_bytes) 10 0)))

pub record WriteSays (t : Transducer) (number : ℕ) (r : Written) (out out' : List ℕ) : Type 0 where
  pub refusal_is : r.refusal ≡ number
  pub len_is : r.len ≡ unless number (length (encode t))
  pub bytes : out' ≡ left_in number out (encode t)
