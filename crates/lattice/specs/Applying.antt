-- What the parts of applying ask and leave: the walk by keys, the finals of the states met, the lattice before trimming as bytes.
-- Assumes nothing: these are definitions.
use Rattle.std.specs.Prelude.{◌≡◌, Bool, true, not, cond, List, [], ◌∷◌, map, ℕ, ◌+◌, ◌≤◌, ◌<◌, eqb, length, get_or, take, drop}
use Rattle.transducer.specs.declared.Arc.{Arc}
use Rattle.transducer.specs.declared.Final.{Final}
use Rattle.transducer.specs.Format.{Transducer, max_states, max_arcs, max_bytes, arcs_at, refusal, decode}
use Rattle.transducer.specs.Encode.{encode}
use Rattle.transducer.specs.Each.{has_no_any_input}
use Rattle.transducer.specs.Accepted.{AcceptedAt, Indexed, max_code}
use Rattle.transducer.specs.Weight.{weight_of}
use Rattle.reach.specs.Reach.{AllAccessible}
use Rattle.explore.specs.Explore.{finals_from}
use Rattle.explore.specs.Walk.{Keyed, Sofar, keyed, explored}
use Rattle.lattice.specs.declared.State.{State}
use Rattle.lattice.specs.Apply.{string_good, steps, first_state}
use Rattle.lattice.specs.Pack.{pack, unpacked}

-- The steps of a key. A step has one origin.
unfoldable pub one : ℕ → List ℕ
one i = i ∷ []

unfoldable pub next : (string : List ℕ) → Transducer → (key : ℕ) → List Keyed
next cs t k = map (keyed pack one) (steps cs t (unpacked k))

-- The step by an arc to the state of a key, as the code has it.
unfoldable pub arc_keyed : Arc → (i key : ℕ) → Keyed
arc_keyed a i key = record { target = key; input = a.input; output = a.output; weight = a.weight; origins = i ∷ [] }

abbrev pub found : (string : List ℕ) → Transducer → Sofar
found cs t = explored (next cs t) (pack (first_state t))

-- A good string, and an accepted transducer with its first-arc index; `no_any` where none of its arcs is for any symbol.
pub record Applicable (cs bs : List ℕ) (no_any : Bool) (first : ℕ) (index : List ℕ) : Type 0 where
  pub good : string_good cs ≡ true
  pub no_any_says : no_any ≡ true → has_no_any_input (decode bs) ≡ true
  pub opened : AcceptedAt bs first
  pub indexed : Indexed (decode bs) index

-- The states that a lattice may have.
pub record StateIn (cs : List ℕ) (t : Transducer) (x : State) : Type 0 where
  pub position_in : x.position ≤ length cs
  pub state_in : x.state < t.states

-- The final code of the state of a key: that of its state where its position is the last, else 0.
unfoldable pub key_code : (codes : List ℕ) → (last key : ℕ) → ℕ
key_code codes last k = cond (eqb (unpacked k).position last) (get_or codes (unpacked k).state 0) 0

-- Each code is that of a weight, or 0.
abbrev pub SmallCodes : (codes : List ℕ) → Type 0
SmallCodes codes = (s : ℕ) → s < max_states → get_or codes s 0 ≤ max_code

-- The finals of the states of some keys, by their final codes.
unfoldable pub key_finals : (codes : List ℕ) → (last : ℕ) → (keys : List ℕ) → List Final
key_finals codes last keys = finals_from (λ k. not (eqb (key_code codes last k) 0)) (λ k. weight_of (key_code codes last k)) 0 keys

-- The lattice before trimming, by what the walk has found.
unfoldable pub closed : (codes : List ℕ) → (last : ℕ) → Sofar → Transducer
closed codes last b =
    record { states = length b.keys; start = 0; finals = key_finals codes last b.keys; arcs = b.arcs }

-- Where the walk writes the arcs: behind room for the head and as many finals as there can be.
abbrev pub arcs_place : ℕ
arcs_place = arcs_at max_states

-- Its bytes stand from a place on, where there are at most 3,072 arcs.
pub record Closes (t : Transducer) (from : ℕ) (table table' : List ℕ) : Type 0 where
  pub begins : from + arcs_at (length t.finals) ≡ arcs_place
  pub kept : length table' ≡ length table
  pub stands : take (length (encode t)) (drop from table') ≡ encode t

-- A good string, an accepted transducer, and buffers that are long enough.
pub record ApplyAsks (cs bs : List ℕ) (no_any : Bool) (lattice origins pairs : ℕ) : Type 0 where
  pub good : string_good cs ≡ true
  pub no_any_says : no_any ≡ true → has_no_any_input (decode bs) ≡ true
  pub accepted : refusal bs ≡ 0
  pub lattice_long : max_bytes ≤ lattice
  pub origins_long : max_arcs ≤ origins
  pub pairs_long : max_states ≤ pairs

-- Accepted bytes of a transducer whose states are all accessible stand in a buffer from a place on, and there is room for what trimming leaves.
pub record Trimmable (lattice : List ℕ) (from count origins : ℕ) : Type 0 where
  pub inside : from + count ≤ length lattice
  pub accepted : refusal (take count (drop from lattice)) ≡ 0
  pub accessible : AllAccessible (decode (take count (drop from lattice)))
  pub lattice_long : max_bytes ≤ length lattice
  pub origins_long : max_arcs ≤ origins
