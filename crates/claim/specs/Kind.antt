-- Kinds of things that accepting paths stand for, stated once for all of them: the claim's pairs (specs/Claim.antt), the triples of three
-- transducers (`associate`), the pairs of a cascade (`cascade`). Assumes nothing: these are definitions.
use Rattle.std.specs.Prelude.{◌≡◌, true, ◌↔◌, List, ℕ, ◌<◌, min, length, get_or}
use mathlib.Core.List.{Memᴰ as Among}
use Rattle.transducer.specs.Format.{max_count, Transducer}
use Rattle.transducer.specs.Path.{accepts, read_by, written_by, path_cost}
use Rattle.transducer.specs.Weight.{Weight}
use Rattle.paths.specs.Answer.{Counted}

-- A kind: which things are of it, and what each of them reads, writes and costs.
pub record Kind : Type 1 where
  pub Thing : Type 0
  pub Is : Thing → Type 0
  pub input : Thing → List ℕ
  pub output : Thing → List ℕ
  pub cost : Thing → Weight

-- Those things of a kind that have a property; each reads, writes and costs what it did.
abbrev pub those : (K : Kind) → (K.Thing → Type 0) → Kind
those K P = record { Thing = K.Thing; Is = P; input = K.input; output = K.output; cost = K.cost }

-- A path of the transducer w stands for a thing: it reads the thing's input, writes its output and costs its cost.
pub record StandsFor (K : Kind) (w : Transducer) (path : List ℕ) (x : K.Thing) : Type 0 where
  pub is : K.Is x
  pub reads : read_by w path ≡ K.input x
  pub writes : written_by w path ≡ K.output x
  pub costs : path_cost w path ≡ K.cost x

-- Each accepting path of w leads to a thing that it stands for, never two to one thing, and to every thing of the kind some path.
pub record PathsAre (K : Kind) (w : Transducer) (to : List ℕ → K.Thing) : Type 0 where
  pub leads : (p : List ℕ) → accepts w p ≡ true → StandsFor K w p (to p)
  pub never_two : (p q : List ℕ) → accepts w p ≡ true → accepts w q ≡ true → to p ≡ to q → p ≡ q
  pub every : (x : K.Thing) → K.Is x → (p : List ℕ) × (accepts w p ≡ true) × (to p ≡ x)

-- Infinitely many: no list holds them all.
abbrev pub InfinitelyMany : Kind → Type 0
InfinitelyMany K = (l : List K.Thing) → ((x : K.Thing) → K.Is x → Among x l) → ⊥

-- A list that has each of them exactly once; its length is their number.
pub record EachOnce (K : Kind) (l : List K.Thing) : Type 0 where
  pub only : (x : K.Thing) → Among x l → K.Is x
  pub all : (x : K.Thing) → K.Is x → Among x l
  pub once : (i j : ℕ) (d : K.Thing) → i < length l → j < length l → get_or l i d ≡ get_or l j d → i ≡ j

-- A count is refused by 14 exactly where they are infinitely many; otherwise it is the least of 99 and their number.
pub record Counts (K : Kind) (r : Counted) : Type 0 where
  pub endless : (r.refusal ≡ 14) ↔ InfinitelyMany K
  pub finite : (InfinitelyMany K → ⊥) → (l : List K.Thing) × EachOnce K l
  pub number : (l : List K.Thing) → EachOnce K l → (r.refusal ≡ 0) × (r.count ≡ min max_count (length l))
