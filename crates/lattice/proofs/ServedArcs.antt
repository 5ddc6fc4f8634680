-- Serving one state, arc by arc: the steps of a key are those of the arcs of its state, from one entry of the first-arc index to below the next,
-- and each arc gives one step or none. Assumes nothing.
use mathlib.Core.Path.{◌≡◌, refl, sym, ap, subst, ◌∙◌}
use mathlib.Core.Bool.{true, false, cond}
use mathlib.Core.List.{List, [], ◌∷◌, ◌++◌, map}
use Prim.Native.Nat.{ℕ, suc, ◌+◌, ◌*◌, ◌-◌, ◌≤◌, ◌<◌}
use native.Mathlib.Numerals.{add-one}
use native.Mathlib.Omega.{arith}
use lib.Dec.{ltb, eqb}
use lib.ListN.{length, get_or, set}
use borrow.Author.Tests.{lt-ltb, le-ltb, ltb-true, eq-eqb, ne_eqb, eqb-true, eqb-false}
use Rattle.transducer.specs.declared.Arc.{Arc}
use Rattle.transducer.specs.Format.{max_states, max_arcs, any, Transducer, Good}
use Rattle.transducer.specs.Path.{arc}
use Rattle.transducer.specs.Each.{fits, passed}
use Rattle.transducer.specs.Accepted.{arcs_below, Indexed, Leaving}
use Rattle.transducer.proofs.Fits.{fits_empty, fits_other, reads_fits, passed_output}
use Rattle.transducer.proofs.Good.{good_tests}
use Rattle.transducer.proofs.Labels.{arc_unbarred}
use Rattle.transducer.proofs.Leaving.{state_leaving}
use Rattle.transducer.proofs.Ranges.{from_to, map_from_to, each_arc_range}
use Rattle.transducer.proofs.Index.{arcs_below_length}
use Rattle.explore.specs.declared.Walk.{Walk}
use Rattle.explore.specs.Explore.{place}
use Rattle.explore.specs.Walk.{Keyed, keyed, Sofar, taken, all_taken, state_served, traced_by, Walked, Went}
use Rattle.wire.proofs.Bool.{by_test}
use Rattle.explore.proofs.Walking.{Taking, taking_state, taking_over, taking_part, taking_full, taking_stop}
use Rattle.lattice.specs.declared.State.{State}
use Rattle.lattice.specs.Apply.{string_good, step, arc_steps, steps}
use Rattle.lattice.specs.Applying.{one, next, arc_keyed}
use Rattle.lattice.specs.Pack.{pack, unpacked}
use Rattle.lattice.proofs.AppliedSteps.{string_symbol}
use Rattle.transducer.proofs.RoundTrip.{good_content}

-- The origin of a step is written where there is room for its arc.

pub traced_one : (count i : ℕ) (origins origins' : List ℕ) → count < max_arcs → origins' ≡ set origins count i
    → origins' ≡ traced_by 1 count (i ∷ []) origins
unfolding traced_by
traced_one count i origins origins' l e =
    let m : 1 * count ≡ count = omega arith in
    e ∙ (rw (lt-ltb count max_arcs l, m))

pub traced_none : (count : ℕ) (vs origins origins' : List ℕ) → max_arcs ≤ count → origins' ≡ origins → origins' ≡ traced_by 1 count vs origins
unfolding traced_by
traced_none count vs origins origins' l e = e ∙ (rw (le-ltb count max_arcs l))

-- A target that has the number 1,024 is one state too many.
pub taken_over : (source number : ℕ) (s : Keyed) {b : Sofar} {w : Walk} {table origins states heads links : List ℕ}
    → Walked 1 b w table origins states heads links → number ≡ place eqb s.target b.keys → number ≡ max_states
    → max_states < length (taken source s b).keys
unfolding all_taken
taken_over source number s {b} {w} {table} {origins} {states} {heads} {links} k is full =
    let g : Taking 1 source (s ∷ []) (taken source s b) w table origins states heads links = record { sofar = b; walked = k; leads = refl } in
    taking_over g s [] refl number is full

-- The arcs of a state

module _ (t : Transducer) (index : List ℕ) (indexed : Indexed t index) (q : ℕ) (l : q < t.states) where
  index_first : get_or index q 0 ≡ arcs_below q t.arcs
  index_first = indexed.at_state q (omega arith)

  index_last : get_or index (q + 1) 0 ≡ arcs_below (suc q) t.arcs
  index_last = ap (λ (k : ℕ). get_or index k 0) (add-one q) ∙ indexed.at_state (suc q) l

  pub index_within : (get_or index q 0 ≤ length t.arcs) × (get_or index (q + 1) 0 ≤ length t.arcs)
  index_within = (
    omega (arith, index_first, arcs_below_length q t.arcs),
    omega (arith, index_last, arcs_below_length (suc q) t.arcs),
  )

  pub index_leaving : Good t → Leaving t q (get_or index q 0) (get_or index (q + 1) 0)
  index_leaving good = rw (index_first, index_last) (state_leaving t q good)

-- What comes of the arc of number i, and of the arcs from i to below `end`.
unfoldable pub arc_next : (cs : List ℕ) → Transducer → State → (i : ℕ) → List Keyed
arc_next cs t x i = map (keyed pack one) (arc_steps cs t x i (arc t i))

unfoldable pub arcs_left : (cs : List ℕ) → Transducer → State → (end i : ℕ) → List Keyed
arcs_left cs t x end i = from_to (end - i) i (arc_next cs t x)

-- The symbol at the position of a state, 0 behind the last one.
unfoldable pub symbol_of : (cs : List ℕ) → State → ℕ
symbol_of cs x = cond (ltb x.position (length cs)) (get_or cs x.position 0) 0

-- What an arc reads at the position of a state, nothing or the symbol, which it fits; and what it writes for that.
pub data Reads (cs : List ℕ) (t : Transducer) (x : State) (a : Arc) (read written : ℕ) : Type 0 where
  reads_none : a.input ≡ 0 → read ≡ 0 → written ≡ passed read a → Reads cs t x a read written
  reads_some : (a.input ≡ 0 → ⊥) → fits t (symbol_of cs x) a ≡ true → read ≡ symbol_of cs x → written ≡ passed read a → Reads cs t x a read written

pub reads_written : {cs : List ℕ} {t : Transducer} {x : State} {a : Arc} {read written : ℕ} → Reads cs t x a read written → written ≡ passed read a
reads_written (reads_none e r w) = w
reads_written (reads_some some fit r w) = w

-- The symbol is never 65,535.
symbol_below : (cs : List ℕ) (x : State) → string_good cs ≡ true → symbol_of cs x < any
unfolding symbol_of
symbol_below cs x good =
    by_test (ltb x.position (length cs))
    (λ within. rw within (string_symbol cs x.position good (ltb-true x.position (length cs) within)).1) (λ behind. rw behind (omega arith))

-- An arc that reads by name, nothing or the symbol itself, writes its own output.
module _ (cs : List ℕ) (t : Transducer) (x : State) (good : Good t) (i : ℕ) (below : i < length t.arcs) (a : Arc) (is : a ≡ arc t i)
    (read written : ℕ) (from : read ≡ a.input) (same : written ≡ a.output) where
  own_output : a.input < any → written ≡ passed read a
  own_output l =
      let r = arc_unbarred t i (good_tests t good).labels below (rw is at l) in
      let short : a.output < any = rw is r.written in
      same ∙ sym (passed_output read a short)

  pub reads_nothing : a.input ≡ 0 → Reads cs t x a read written
  reads_nothing e = reads_none e (from ∙ e) (own_output (omega (arith, e)))

  pub reads_itself : string_good cs ≡ true → a.input ≡ symbol_of cs x → Reads cs t x a read written
  reads_itself string e =
      by_test (eqb a.input 0) (λ h. reads_nothing (eqb-true a.input 0 h))
      (λ h. reads_some (eqb-false a.input 0 h) (reads_fits t (symbol_of cs x) a e) (from ∙ e) (own_output (omega (arith, e, symbol_below cs x string))))

-- An arc for any other symbol reads the symbol, and writes it where it passes it on.
pub reads_other : {cs : List ℕ} {t : Transducer} {x : State} {a : Arc} {symbol read written : ℕ} → symbol ≡ symbol_of cs x
    → (a.input ≡ symbol → ⊥) → fits t (symbol_of cs x) a ≡ true → read ≡ symbol → written ≡ passed symbol a → Reads cs t x a read written
reads_other {cs} {t} {x} {a} symbol_is other fit from same =
    reads_some (fits_other t (symbol_of cs x) a (λ e. other (e ∙ sym symbol_is)) fit) fit (from ∙ symbol_is)
    (same ∙ ap (λ (symbol : ℕ). passed symbol a) (sym from))

pub symbol_read : (cs : List ℕ) (x : State) {y : State} {symbol : ℕ} → symbol ≡ cond (ltb x.position (length cs)) (get_or cs x.position 0) 0 → x ≡ y
    → symbol ≡ symbol_of cs y
unfolding symbol_of
symbol_read cs x e is = e ∙ ap (symbol_of cs) is

-- An arc as it reads a symbol, 0 for none, with another source.
abbrev pub reading : (source symbol : ℕ) → Arc → Arc
reading source symbol a = record { source = source; input = symbol; output = passed symbol a; target = a.target; weight = a.weight }

next_left : (cs : List ℕ) (t : Transducer) (key : ℕ) (x : State) → x ≡ unpacked key → Good t
    → next cs t key ≡ arcs_left cs t x (arcs_below (suc x.state) t.arcs) (arcs_below x.state t.arcs)
unfolding next steps arc_next arcs_left
next_left cs t key x is good =
    let from : ℕ = arcs_below x.state t.arcs in
    let n : ℕ = arcs_below (suc x.state) t.arcs - from in
    ap (λ (y : State). map (keyed pack one) (steps cs t y)) (sym is)
    ∙ ap (λ (ss : List _). map (keyed pack one) ss) (each_arc_range t x.state (arc_steps cs t x) (good_content t good).stay)
    ∙ map_from_to (keyed pack one) n from (λ i. arc_steps cs t x i (arc t i))

module _ (cs : List ℕ) (t : Transducer) (x : State) where
  left_more : (end i : ℕ) → i < end → arcs_left cs t x end i ≡ arc_next cs t x i ++ arcs_left cs t x end (i + 1)
  unfolding arcs_left from_to
  left_more end i l =
      let e : end - i ≡ suc (end - suc i) = omega arith in
      rw (e, add-one i)

  left_none : (end i : ℕ) → end ≤ i → arcs_left cs t x end i ≡ []
  unfolding arcs_left from_to
  left_none end i l =
      let e : end - i ≡ 0 = omega arith in
      rw e

  module _ (i source : ℕ) (a : Arc) (is : a ≡ arc t i) where
    module _ (y : State) (lands : y.state ≡ a.target) (to : ℕ) (packed : to ≡ pack y) where
      -- An arc that reads nothing keeps the position.
      pub empty_taken : a.input ≡ 0 → y.position ≡ x.position → arc_next cs t x i ≡ arc_keyed (reading source 0 a) i to ∷ []
      unfolding arc_next arc_steps step keyed one arc_keyed
      empty_taken e p = rw (← is, eq-eqb a.input 0 e, packed, ← p, ← lands)

      -- An arc that fits the symbol moves one on.
      pub symbol_taken : (a.input ≡ 0 → ⊥) → fits t (symbol_of cs x) a ≡ true → y.position ≡ x.position + 1
          → arc_next cs t x i ≡ arc_keyed (reading source (symbol_of cs x) a) i to ∷ []
      unfolding arc_next arc_steps step keyed one arc_keyed symbol_of
      symbol_taken some fit p =
          by_test (ltb x.position (length cs))
          (λ within. let here : fits t (get_or cs x.position 0) a ≡ true = rw within at fit in
          rw (← is, ne_eqb a.input 0 some, within, here, packed, ← p, ← lands))
          (λ behind. absurd (some (fits_empty t a (rw behind at fit))))

      -- Both by what is read.
      pub read_taken : (read written moved : ℕ) → Reads cs t x a read written → moved ≡ cond (eqb read 0) 0 1 → y.position ≡ x.position + moved
          → arc_next cs t x i ≡ arc_keyed (reading source read a) i to ∷ []
      read_taken read written moved (reads_none e r _) m p =
          let none : moved ≡ 0 = m ∙ (rw r) in
          rw r (empty_taken e (omega arith))
      read_taken read written moved (reads_some some fit r _) m p =
          let symbol : read ≡ 0 → ⊥ = λ z. some (fits_empty t a (rw (sym r ∙ z) at fit)) in
          let one_on : moved ≡ 1 = m ∙ (rw (ne_eqb read 0 symbol)) in
          rw r (symbol_taken some fit (omega arith))

    -- Any other gives none.
    pub none_taken : (a.input ≡ 0 → ⊥) → fits t (symbol_of cs x) a ≡ false → arc_next cs t x i ≡ []
    unfolding arc_next arc_steps symbol_of
    none_taken some other =
        by_test (ltb x.position (length cs))
        (λ within. let here : fits t (get_or cs x.position 0) a ≡ false = rw within at other in
        rw (← is, ne_eqb a.input 0 some, within, here))
        (λ behind. rw (← is, ne_eqb a.input 0 some, behind))

-- The steps of one state, those of the arcs from i on left to take

pub serving_first : (cs : List ℕ) (t : Transducer) (index : List ℕ) (source : ℕ) (x : State) {b : Sofar} {w : Walk}
    {table origins states heads links : List ℕ} → Good t → Indexed t index → x ≡ unpacked (get_or states source 0) → x.state < t.states
    → source < w.states → Walked 1 b w table origins states heads links
    → Taking 1 source (arcs_left cs t (unpacked (get_or states source 0)) (get_or index (x.state + 1) 0) (get_or index x.state 0))
    (state_served (next cs t) source b) w table origins states heads links
serving_first cs t index source x {b} {w} {table} {origins} {states} {heads} {links} good indexed is inside l k =
    let from : get_or index x.state 0 ≡ arcs_below x.state t.arcs = index_first t index indexed x.state inside in
    let to : get_or index (x.state + 1) 0 ≡ arcs_below (suc x.state) t.arcs = index_last t index indexed x.state inside in
    rw (from, to, ← is)
    (subst (λ (rest : List Keyed). Taking 1 source rest (state_served (next cs t) source b) w table origins states heads links)
    (next_left cs t (get_or states source 0) x is good) (taking_state (next cs t) source l k))

module _ (cs : List ℕ) (t : Transducer) (x : State) {end i source : ℕ} {goal : Sofar} {w : Walk} {table origins states heads links : List ℕ}
    (g : Taking 1 source (arcs_left cs t x end i) goal w table origins states heads links) where
  pub serving_stop : end ≤ i → Went 1 goal w table origins states heads links
  serving_stop l = taking_stop g (left_none cs t x end i l)

  module _ (l : i < end) where
    pub serving_skip : arc_next cs t x i ≡ [] → Taking 1 source (arcs_left cs t x end (i + 1)) goal w table origins states heads links
    serving_skip none =
        let are : arcs_left cs t x end i ≡ arcs_left cs t x end (i + 1) =
        left_more cs t x end i l ∙ ap (λ (ss : List Keyed). ss ++ arcs_left cs t x end (i + 1)) none in
        subst (λ (rest : List Keyed). Taking 1 source rest goal w table origins states heads links) are g

    module _ (s : Keyed) (is : arc_next cs t x i ≡ s ∷ []) (w' : Walk) (table' origins' states' heads' links' : List ℕ)
        (went : Went 1 (taken source s g.sofar) w' table' origins' states' heads' links') where
      are : arcs_left cs t x end i ≡ (s ∷ []) ++ arcs_left cs t x end (i + 1)
      are = left_more cs t x end i l ∙ ap (λ (ss : List Keyed). ss ++ arcs_left cs t x end (i + 1)) is

      pub serving_next : w'.full ≡ 0 → Taking 1 source (arcs_left cs t x end (i + 1)) goal w' table' origins' states' heads' links'
      unfolding all_taken
      serving_next e = taking_part g (s ∷ []) (arcs_left cs t x end (i + 1)) are w' table' origins' states' heads' links' went e

      pub serving_full : (w'.full ≡ 0 → ⊥) → Went 1 goal w' table' origins' states' heads' links'
      unfolding all_taken
      serving_full e = taking_full g (s ∷ []) (arcs_left cs t x end (i + 1)) are w' table' origins' states' heads' links' went e
