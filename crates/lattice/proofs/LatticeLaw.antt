-- The accepting paths of the lattice and those of the transducer that fit the string stand one to one: first without trimming, by the steps
-- of each arc, then with it, by the arcs kept. Assumes nothing.
use mathlib.Core.Path.{◌≡◌, refl, sym, ap, ap₂, ◌∙◌}
use mathlib.Core.Bool.{true}
use mathlib.Core.List.{List, [], ◌∷◌, map}
use Prim.Native.Nat.{ℕ, zero, suc, ◌≤◌, ◌<◌}
use native.Mathlib.Nat.{not-suc-le-zero, le_of_suc-le-suc}
use native.Mathlib.Omega.{arith}
use lib.ListN.{length, get_or, get_or-map}
use Rattle.wire.specs.Bytes.{filled}
use Rattle.wire.proofs.Places.{get_or_filled}
use Rattle.transducer.specs.Format.{max_states, Transducer, Good}
use Rattle.transducer.specs.Path.{arc, runs, accepts, read_by, written_by, path_cost}
use Rattle.transducer.specs.Each.{path_fits}
use Rattle.transducer.specs.Weight.{plus, no_weight}
use Rattle.transducer.proofs.Members.{distinct_places}
use Rattle.transducer.proofs.Paths.{Runs, runs_cons}
use Rattle.transducer.proofs.Runs.{accepts_accepting, Within, good_within}
use Rattle.explore.specs.Explore.{Step, built_refusal}
use Rattle.explore.proofs.Member.{at_length, at_get_or}
use Rattle.explore.proofs.Trails.{inputs, outputs, weights, along, Once}
use Rattle.explore.proofs.Accepting.{Accepting, accepts_read, accepts_written, accepts_once, accepts_trail, trail_accepts}
use Rattle.explore.proofs.Built.{unrefused_few}
use Rattle.lattice.specs.declared.State.{State}
use Rattle.lattice.specs.Apply.{string_good, same_state, steps, final_state, applied, first_state}
use Rattle.trim.specs.Trim.{trimmed, origins_kept, through}
use Rattle.lattice.specs.Lattice.{lattice, lattice_origins, ReadsAs, ReadsOneToOne}
use Rattle.lattice.proofs.AppliedSteps.{steps_distinct}
use Rattle.lattice.proofs.AppliedTrails.{numbers, Accepted, trail_accepted, accepting_followed, never_two}
use Rattle.lattice.proofs.LatticeGood.{state_weight, good_applied}
use Rattle.lattice.proofs.SameState.{same_state_decides}
use Rattle.trim.proofs.Trimmed.{Led, trimmed_led, led_injective, LedBy, led_onto}
use Rattle.trim.proofs.TrimmedKeeps.{length_origins}

-- The step that is read where there is none; its origin is 0, as what is read behind a list's end is.
abbrev no_step : Step State ℕ
no_step = record { target = record { position = 0; state = 0 }; input = 0; output = 0; weight = no_weight; origin = 0 }

-- No step stands twice among the steps of a state.
pub steps_once : (cs : List ℕ) (t : Transducer) → Once (steps cs t)
steps_once cs t x k l s h m =
    distinct_places (λ (s : Step State ℕ). s.origin) (steps cs t x) s k l (steps_distinct cs t x) (at_length (steps cs t x) k s h)
    (at_length (steps cs t x) l s m)
    (ap (λ (s : Step State ℕ). s.origin) (at_get_or (steps cs t x) k s s h ∙ sym (at_get_or (steps cs t x) l s s m)))

-- Without trimming

module _ (cs : List ℕ) (t : Transducer) (fine : built_refusal (applied cs t).result ≡ 0) where
  abbrev taken : List ℕ → List (Step State ℕ)
  taken p = along (applied cs t) no_step p

  abbrev arc_origins : List ℕ
  arc_origins = map (λ s. s.origin) (applied cs t).steps

  few : length (applied cs t).states ≤ max_states
  unfolding applied
  few = unrefused_few same_state (steps cs t) (final_state cs t) (state_weight t) (first_state t) same_state_decides fine

  through_numbers : (p : List ℕ) → through arc_origins p ≡ numbers (taken p)
  unfolding through numbers
  through_numbers [] = refl
  through_numbers (i ∷ p) = ap₂ ◌∷◌ (get_or-map (λ s. s.origin) (applied cs t).steps i no_step) (through_numbers p)

  -- The steps of an accepting path.
  record LatticeSteps (p : List ℕ) : Type 0 where
    last : State
    accepting : Accepting (steps cs t) (final_state cs t) (first_state t) (taken p) last
    reads : read_by (applied cs t).result p ≡ inputs (taken p)
    writes : written_by (applied cs t).result p ≡ outputs (taken p)
    costs : path_cost (applied cs t).result p ≡ plus (weights (taken p)) (state_weight t last)

  steps_of : (p : List ℕ) → accepts (applied cs t).result p ≡ true → LatticeSteps p
  unfolding applied
  steps_of p h =
      let r = accepts_trail same_state (steps cs t) (final_state cs t) (state_weight t) (first_state t) no_step same_state_decides few p h in
      record {
        last = r.0;
        accepting = r.1;
        reads = accepts_read same_state (steps cs t) (final_state cs t) (state_weight t) (first_state t) no_step p h;
        writes = accepts_written same_state (steps cs t) (final_state cs t) (state_weight t) (first_state t) no_step p h;
        costs = r.2;
      }

  applied_leads : (p : List ℕ) → accepts (applied cs t).result p ≡ true → ReadsAs cs t (applied cs t).result p (through arc_origins p)
  applied_leads p h =
      let r : LatticeSteps p = steps_of p h in
      let a : Accepted cs t (taken p) r.last = trail_accepted cs t (taken p) r.last r.accepting.trail r.accepting.final_end in
      rw (through_numbers p)
      (record {
        accepting = a.accepting;
        fitting = a.whole;
        same_input = r.reads ∙ a.reads;
        same_output = r.writes ∙ a.writes;
        same_cost = r.costs ∙ a.cost;
      })

  applied_never_two : (p q : List ℕ) → accepts (applied cs t).result p ≡ true → accepts (applied cs t).result q ≡ true
      → through arc_origins p ≡ through arc_origins q → p ≡ q
  unfolding applied
  applied_never_two p q h k e =
      let r : LatticeSteps p = steps_of p h in
      let s : LatticeSteps q = steps_of q k in
      let same : taken p ≡ taken q =
      never_two cs t (first_state t) (taken p) (taken q) r.last s.last r.accepting.trail s.accepting.trail
      (sym (through_numbers p) ∙ e ∙ through_numbers q) in
      accepts_once same_state (steps cs t) (final_state cs t) (state_weight t) (first_state t) no_step (steps_once cs t) p q h k same

  applied_every : (x : List ℕ) → accepts t x ≡ true → path_fits t cs x ≡ true
      → (p : List ℕ) × (accepts (applied cs t).result p ≡ true) × (through arc_origins p ≡ x)
  unfolding applied
  applied_every x a e =
      let f = accepting_followed cs t x a e in
      let r =
      trail_accepts same_state (steps cs t) (final_state cs t) (state_weight t) (first_state t) no_step same_state_decides few f.0.taken f.0.last
      (record { trail = f.0.trail; final_end = f.1 }) in
      (r.0, r.1, through_numbers r.0 ∙ ap numbers r.2 ∙ f.0.path)

  pub applied_one_to_one : ReadsOneToOne cs t (applied cs t).result (map (λ s. s.origin) (applied cs t).steps)
  applied_one_to_one = record { leads = applied_leads; never_two = applied_never_two; every = applied_every }

-- With trimming

get_or_map_below : (f : ℕ → ℕ) (l : List ℕ) (i : ℕ) → i < length l → get_or (map f l) i 0 ≡ f (get_or l i 0)
get_or_map_below f [] i h = absurd (not-suc-le-zero h)
get_or_map_below f (x ∷ l) zero h = refl
get_or_map_below f (x ∷ l) (suc i) h = get_or_map_below f l i (le_of_suc-le-suc h)

-- Origins of origins: a path leads on from where it leads.
pub through_twice : (z : Transducer) (os ks : List ℕ) (s : ℕ) (p : List ℕ) → length z.arcs ≤ length ks → runs z s p ≡ true
    → through (through os ks) p ≡ through os (through ks p)
unfolding through
through_twice z os ks s [] few h = refl
through_twice z os ks s (i ∷ p) few h =
    let r : Runs z s i p = runs_cons z s i p h in
    let below : i < length ks = omega (arith, r.below) in
    ap₂ ◌∷◌ (get_or_map_below (λ j. get_or os j 0) ks i below) (through_twice z os ks (arc z i).target p few r.rest)

-- Zeros behind the origins change nothing.
pub through_filled : (room : ℕ) (os p : List ℕ) → through (filled room os) p ≡ through os p
unfolding through
through_filled room os [] = refl
through_filled room os (i ∷ p) = ap₂ ◌∷◌ (get_or_filled room os i) (through_filled room os p)

module _ (cs : List ℕ) (t z : Transducer) (os : List ℕ) (within : Within z) (one : ReadsOneToOne cs t z os) where
  through_kept : (p : List ℕ) → accepts (trimmed z) p ≡ true → through (through os (origins_kept z)) p ≡ through os (through (origins_kept z) p)
  through_kept p h =
      through_twice (trimmed z) os (origins_kept z) (trimmed z).start p (omega (arith, length_origins z)) (accepts_accepting (trimmed z) p h).goes

  trimmed_leads : (p : List ℕ) → accepts (trimmed z) p ≡ true → ReadsAs cs t (trimmed z) p (through (through os (origins_kept z)) p)
  trimmed_leads p h =
      let l : Led z (trimmed z) (origins_kept z) p = trimmed_led z p h in
      let r : ReadsAs cs t z (through (origins_kept z) p) (through os (through (origins_kept z) p)) =
      one.leads (through (origins_kept z) p) l.accepting in
      rw (through_kept p h)
      (record {
        accepting = r.accepting;
        fitting = r.fitting;
        same_input = l.reads ∙ r.same_input;
        same_output = l.writes ∙ r.same_output;
        same_cost = l.cost ∙ r.same_cost;
      })

  trimmed_never_two : (p q : List ℕ) → accepts (trimmed z) p ≡ true → accepts (trimmed z) q ≡ true
      → through (through os (origins_kept z)) p ≡ through (through os (origins_kept z)) q → p ≡ q
  trimmed_never_two p q h k e =
      let same : through (origins_kept z) p ≡ through (origins_kept z) q =
      one.never_two (through (origins_kept z) p) (through (origins_kept z) q) (trimmed_led z p h).accepting (trimmed_led z q k).accepting
      (sym (through_kept p h) ∙ e ∙ through_kept q k) in
      led_injective z (trimmed z).start (trimmed z).start p q (accepts_accepting (trimmed z) p h).goes (accepts_accepting (trimmed z) q k).goes same

  trimmed_every : (x : List ℕ) → accepts t x ≡ true → path_fits t cs x ≡ true
      → (p : List ℕ) × (accepts (trimmed z) p ≡ true) × (through (through os (origins_kept z)) p ≡ x)
  trimmed_every x a e =
      let r = one.every x a e in
      let l : LedBy z (trimmed z) (origins_kept z) r.0 = led_onto z within r.0 r.1 in
      (l.path, l.accepting, through_kept l.path l.accepting ∙ ap (through os) l.leads ∙ r.2)

  -- What stands one to one still does when it is trimmed.
  pub trimmed_one_to_one : ReadsOneToOne cs t (trimmed z) (through os (origins_kept z))
  trimmed_one_to_one = record { leads = trimmed_leads; never_two = trimmed_never_two; every = trimmed_every }

pub lattice_one_to_one : (cs : List ℕ) (t : Transducer) → Good t → string_good cs ≡ true → built_refusal (applied cs t).result ≡ 0
    → ReadsOneToOne cs t (lattice cs t) (lattice_origins cs t)
unfolding lattice lattice_origins through
lattice_one_to_one cs t good string fine =
    trimmed_one_to_one cs t (applied cs t).result (map (λ s. s.origin) (applied cs t).steps)
    (good_within (applied cs t).result ((good_applied cs t good string).1 fine)) (applied_one_to_one cs t fine)
