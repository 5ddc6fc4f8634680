-- What holds of a state that is served: its position is in the string, and its arcs stand together among those of the transducer. Assumes nothing.
use Rattle.std.proofs.Common.{◌≡◌, sym, subst, cond, List, ℕ, ◌+◌, ◌≤◌, ◌<◌, Bool, length, get_or, arith}
use lib.Dec.{eqb}
use Rattle.transducer.specs.Format.{Transducer, Good, decode, max_states, max_arcs, max_symbols}
use Rattle.transducer.specs.declared.Arc.{Arc}
use Rattle.transducer.specs.Accepted.{Leaving}
use Rattle.transducer.specs.Each.{fits}
use Rattle.transducer.specs.Path.{arc}
use Rattle.transducer.specs.Weight.{Weight}
use Rattle.transducer.proofs.RoundTrip.{good_range, good_content}
use Rattle.wire.proofs.Bool.{cond_most}
use Rattle.explore.specs.declared.Walk.{Walk}
use Rattle.explore.specs.Walk.{Sofar, Keyed, Went, taken}
use Rattle.explore.proofs.Walking.{Taking}
use Rattle.lattice.specs.declared.State.{State}
use Rattle.lattice.specs.Applying.{Applicable, StateIn, arc_keyed}
use Rattle.lattice.specs.Pack.{pack}
use Rattle.lattice.proofs.ServedArcs.{index_within, index_leaving, arcs_left, symbol_of, Reads, reads_written, read_taken, serving_next, serving_full}
use Rattle.lattice.proofs.Symbols.{string_short}

pub record Serves (t : Transducer) (index : List ℕ) (x : State) : Type 0 where
  pub state_in : x.state < t.states
  pub state_small : x.state < max_states
  pub position_small : x.position ≤ max_symbols
  pub last_within : get_or index (x.state + 1) 0 ≤ length t.arcs
  pub few_arcs : length t.arcs ≤ max_arcs
  pub leaving : Leaving t x.state (get_or index x.state 0) (get_or index (x.state + 1) 0)

pub serves : {cs bs : List ℕ} {no_any : Bool} {first : ℕ} {index : List ℕ} {x y : State} → Good (decode bs)
    → Applicable cs bs no_any first index → StateIn cs (decode bs) y → x ≡ y → Serves (decode bs) index x
serves {cs} {bs} {no_any} {first} {index} {x} {y} good ok inside is =
    let parts : StateIn cs (decode bs) x = subst (λ (z : State). StateIn cs (decode bs) z) (sym is) inside in
    let range = good_range (decode bs) good in
    record {
      state_in = parts.state_in;
      state_small = omega (arith, parts.state_in, range.states);
      position_small = omega (arith, parts.position_in, string_short cs ok.good);
      last_within = (index_within (decode bs) index ok.indexed x.state parts.state_in).1;
      few_arcs = range.arcs;
      leaving = index_leaving (decode bs) index ok.indexed x.state parts.state_in good;
    }

-- Where a step leads
module _ {t : Transducer} {index : List ℕ} {x : State} (s : Serves t index x) where
  pub target_position : (read : ℕ) {moved : ℕ} → moved ≡ cond (eqb read 0) 0 1 → x.position + moved ≤ max_symbols + 1
  target_position read {moved} is = let most = cond_most {n = 1} (eqb read 0) 0 1 (omega arith) (omega arith) in omega (arith, s.position_small, is, most)

  pub target_small : (i : ℕ) {a : Arc} → Good t → a ≡ arc t i → i < get_or index (x.state + 1) 0 → a.target < max_states
  target_small i good is less = rw is (omega (arith, (good_content t good).target i (omega (arith, s.last_within)), (good_range t good).states))

-- The label that was told says whether the arc of the turn fits the symbol.
pub fits_label : (cs : List ℕ) (t : Transducer) (x : State) (i label : ℕ) {symbol : ℕ} {a : Arc} → symbol ≡ symbol_of cs x → a ≡ arc t i
    → fits t symbol (arc t i) ≡ eqb (arc t i).input label → fits t (symbol_of cs x) a ≡ eqb a.input label
fits_label cs t x i label at is told = rw (← at, is) told

-- A turn whose step was taken: either the loop goes on, or there are too many states.
pub record Turned (goal : Sofar) (rest : List Keyed) (source : ℕ) (w : Walk) (table origins states heads links : List ℕ) : Type 0 where
  pub on : w.full ≡ 0 → Taking 1 source rest goal w table origins states heads links
  pub full : (w.full ≡ 0 → ⊥) → Went 1 goal w table origins states heads links

pub turned : (cs : List ℕ) (t : Transducer) (x y : State) {end i source : ℕ} {goal : Sofar} {w : Walk} {table origins states heads links : List ℕ}
    (g : Taking 1 source (arcs_left cs t x end i) goal w table origins states heads links) → i < end
    → (a : Arc) → a ≡ arc t i → y.state ≡ a.target → (to : ℕ) → to ≡ pack y → (read written moved : ℕ) → Reads cs t x a read written
    → moved ≡ cond (eqb read 0) 0 1 → y.position ≡ x.position + moved → (weight : Weight) → weight ≡ a.weight
    → {w' : Walk} {table' origins' states' heads' links' : List ℕ}
    → Went 1 (taken source (arc_keyed (record { source = source; input = read; output = written; target = a.target; weight = weight }) i to) g.sofar)
    w' table' origins' states' heads' links'
    → Turned goal (arcs_left cs t x end (i + 1)) source w' table' origins' states' heads' links'
turned cs t x y {end} {i} {source} g less a is lands to packed read written moved reads m p weight same {w'} {table'} {origins'} {states'} {heads'} {links'} went =
    let By : Arc → Type 0 = λ z. Went 1 (taken source (arc_keyed z i to) g.sofar) w' table' origins' states' heads' links' in
    let put : ℕ → Weight → Arc = λ o v. record { source = source; input = read; output = o; target = a.target; weight = v } in
    let took = subst (λ (o : ℕ). By (put o a.weight)) (reads_written reads) (subst (λ (v : Weight). By (put written v)) same went) in
    let comes = read_taken cs t x i source a is y lands to packed read written moved reads m p in
    record {
      on = serving_next cs t x g less _ comes w' table' origins' states' heads' links' took;
      full = serving_full cs t x g less _ comes w' table' origins' states' heads' links' took;
    }
