-- The lattice of a string, and what is claimed of it: its accepting paths and those of the transducer that fit the string stand one to one.
-- Assumes nothing: these are definitions.
use Rattle.std.specs.Prelude.{◌≡◌, true, List, map, ℕ, get_or}
use Rattle.transducer.specs.Format.{Transducer}
use Rattle.transducer.specs.Path.{accepts, read_by, written_by, path_cost}
use Rattle.transducer.specs.Each.{path_fits, path_passed}
use Rattle.lattice.specs.Apply.{applied}
use Rattle.trim.specs.Trim.{trimmed, origins_kept, through}

-- The lattice handed over: what applying the string makes, trimmed.
unfoldable pub lattice : (string : List ℕ) → Transducer → Transducer
lattice cs t = trimmed (applied cs t).result

-- The arc of the transducer that each arc of the lattice comes from.
unfoldable pub lattice_origins : (string : List ℕ) → Transducer → List ℕ
lattice_origins cs t = map (λ i. get_or (map (λ s. s.origin) (applied cs t).steps) i 0) (origins_kept (applied cs t).result)

-- A path of z stands for an accepting path of t that fits the string: it reads the string, writes what the other writes for it, with the symbols that
-- it passes on, and costs the same.
pub record ReadsAs (cs : List ℕ) (t z : Transducer) (path original : List ℕ) : Type 0 where
  pub accepting : accepts t original ≡ true
  pub fitting : path_fits t cs original ≡ true
  pub same_input : read_by z path ≡ cs
  pub same_output : written_by z path ≡ path_passed t cs original
  pub same_cost : path_cost z path ≡ path_cost t original

-- Each accepting path of z leads to a path that it stands for, never two to the same, and to each that fits the string some path.
pub record ReadsOneToOne (cs : List ℕ) (t z : Transducer) (origins : List ℕ) : Type 0 where
  pub leads : (p : List ℕ) → accepts z p ≡ true → ReadsAs cs t z p (through origins p)
  pub never_two : (p q : List ℕ) → accepts z p ≡ true → accepts z q ≡ true → through origins p ≡ through origins q → p ≡ q
  pub every : (x : List ℕ) → accepts t x ≡ true → path_fits t cs x ≡ true → (p : List ℕ) × (accepts z p ≡ true) × (through origins p ≡ x)
