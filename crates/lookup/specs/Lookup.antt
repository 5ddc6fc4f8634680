-- A string looked up on a transducer: the refusal, the number of accepting paths and the least cost. Assumes nothing: these are definitions.
use Rattle.std.specs.Prelude.{◌≡◌, Bool, true, cond, List, ℕ, ◌≤◌, eqb, length, take}
use Rattle.transducer.specs.Format.{max_states, max_arcs, max_bytes, max_path, Transducer, refusal, decode}
use Rattle.transducer.specs.Encode.{encode}
use Rattle.transducer.specs.Each.{has_no_any_input}
use Rattle.transducer.specs.Entry.{or_else, unless, cost_unless}
use Rattle.transducer.specs.Path.{path_cost}
use Rattle.explore.specs.Explore.{built_refusal}
use Rattle.lattice.specs.Apply.{string_good, applied}
use Rattle.lattice.specs.Lattice.{lattice}
use Rattle.paths.specs.Count.{path_count}
use Rattle.paths.specs.Entry.{accepted_count_refusal}
use Rattle.shortest.specs.Shortest.{shortest}
use Rattle.lookup.specs.Answer.{LookedUp, StringCount}

-- Applying and counting: 9 for a string that is not good, 11 and 12 for a lattice that is too large, then 14 if its accepting paths are infinitely many.
unfoldable pub count_string_refusal : (string : List ℕ) → Transducer → ℕ
count_string_refusal cs t =
    or_else (or_else (cond (string_good cs) 0 9) (built_refusal (applied cs t).result)) (accepted_count_refusal (lattice cs t))

-- Then 16 if there is no accepting path. 19 does not arise: see `Meaning`.
unfoldable pub lookup_refusal : (string : List ℕ) → Transducer → ℕ
lookup_refusal cs t = or_else (count_string_refusal cs t) (cond (eqb (path_count (lattice cs t)) 0) 16 0)

-- The answer: count and least cost are 0 on refusal.
unfoldable pub looked_up : (string : List ℕ) → Transducer → LookedUp
looked_up cs t =
    record {
      refusal = lookup_refusal cs t;
      count = unless (lookup_refusal cs t) (path_count (lattice cs t));
      cost = cost_unless (lookup_refusal cs t) (path_cost (lattice cs t) (shortest (lattice cs t)));
    }

-- What is asked of the table: accepted bytes; `no_any` only if no arc is for any symbol.
pub record TableAsks (bs : List ℕ) (no_any : Bool) : Type 0 where
  pub accepted : refusal bs ≡ 0
  pub no_any_says : no_any ≡ true → has_no_any_input (decode bs) ≡ true

-- And of the lengths of the buffers that a lattice is made in.
pub record LatticeAsks (bs : List ℕ) (no_any : Bool) (lattice origins pairs : ℕ) : Type 0 where
  pub table : TableAsks bs no_any
  pub lattice_long : max_bytes ≤ lattice
  pub origins_long : max_arcs ≤ origins
  pub pairs_long : max_states ≤ pairs

-- And of those that a path is put into.
pub record LookupAsks (bs : List ℕ) (no_any : Bool) (lattice origins pairs arcs labels : ℕ) : Type 0 where
  pub lattice_asks : LatticeAsks bs no_any lattice origins pairs
  pub arcs_long : max_path ≤ arcs
  pub labels_long : max_path ≤ labels

-- What applying and counting answer, and where the lattice stands.
pub record CountStringSays (cs : List ℕ) (t : Transducer) (r : StringCount) (lattice' : List ℕ) : Type 0 where
  pub refusal_is : r.refusal ≡ count_string_refusal cs t
  pub count_is : r.count ≡ unless (count_string_refusal cs t) (path_count (lattice cs t))
  pub bytes : r.refusal ≡ 0 → take r.len lattice' ≡ encode (lattice cs t)
  pub inside : r.refusal ≡ 0 → r.len ≤ length lattice'
