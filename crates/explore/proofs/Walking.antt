-- What a walk's loops keep, over plain lists: a step taken, the steps of one state (`Taking`), and the whole walk (`Walking`). Each has a law
-- for its beginning, its next turn and its ways out. Assumes nothing.
use mathlib.Core.Path.{◌≡◌, refl, sym, ap, subst, ◌∙◌}
use mathlib.Core.Bool.{Bool, false}
use mathlib.Core.List.{List, [], ◌∷◌, ◌++◌}
use Prim.Native.Nat.{ℕ, suc, ◌+◌, ◌*◌, ◌≤◌, ◌<◌}
use native.Mathlib.Nat.{mul-zero}
use native.Mathlib.Numerals.{add-one}
use native.Mathlib.Omega.{arith}
use lib.Dec.{eqb}
use lib.ListN.{length, get_or}
use Rattle.transducer.specs.Format.{max_arcs, max_states}
use Rattle.transducer.specs.declared.Arc.{Arc}
use Rattle.transducer.specs.Encode.{arc_records}
use Rattle.explore.specs.declared.Walk.{Walk}
use Rattle.explore.specs.Explore.{Step, there, place}
use Rattle.explore.specs.Chain.{Chained}
use Rattle.explore.specs.Walk.{
  Keyed,
  Sofar,
  with_key,
  taken,
  all_taken,
  state_served,
  begun,
  explored,
  flag,
  max_arc_bytes,
  Recorded,
  traced_by,
  Records,
  Walked,
  Went,
  WalkTold,
}
use Rattle.explore.proofs.Member.{mem_get_or}
use Rattle.explore.proofs.Chain.{stored_at}
use Rattle.explore.proofs.Search.{place_new, place_le}
use Rattle.explore.proofs.TakenSteps.{
  arc_of_keyed,
  taken_with,
  all_taken_append,
  part_over,
  new_over,
  served_on,
  explored_on,
  served_on_step,
  served_on_rest,
  served_on_state,
}
use Rattle.explore.proofs.ExploredKeys.{Keying, Mirrored, mirrors_length, mirrors_key, mirrored_begun, mirrored_served}
use Rattle.explore.proofs.Recording.{recorded_more}

-- A step taken

-- What is recorded does not speak of the number of states.
pub recorded_states : {width : ℕ} {as' : List Arc} {os : List ℕ} {overflow : Bool} {w : Walk} {table origins : List ℕ} (n : ℕ)
    → Recorded width as' os overflow w table origins
    → Recorded width as' os overflow (record { states = n; arcs = w.arcs; overflow = w.overflow; full = w.full }) table origins
recorded_states n r =
    let h = r.arcs_held in
    record {
      arcs_held = record { arcs_are = h.arcs_are; overflow_is = h.overflow_is; table_long = h.table_long; written = h.written };
      origins_held = r.origins_held;
    }

pub walked_next : (width : ℕ) (b : Sofar) (source number count : ℕ) (s : Keyed) (w w' : Walk)
    (table table' origins origins' states states' heads heads' links links' : List ℕ) → Walked width b w table origins states heads links
    → number ≡ place eqb s.target b.keys → Chained (with_key s.target b.keys) states' heads' links'
    → count ≡ length (with_key s.target b.keys) → length s.origins ≡ width → origins' ≡ traced_by width w.arcs s.origins origins
    → Records (arc_of_keyed source s number) (record { states = count; arcs = w.arcs; overflow = w.overflow; full = w.full }) w' table table'
    → Walked width (taken source s b) w' table' origins' states' heads' links'
walked_next width b source number count s w w' table table' origins origins' states states' heads heads' links links' k is chained counted wide o records =
    rw (taken_with source number s b is)
    (record {
      chained = chained;
      states_are = records.states_stay ∙ counted;
      not_full = records.full_stays ∙ k.not_full;
      recorded =
          recorded_more width b.arcs b.origins s.origins b.overflow
          (record { states = count; arcs = w.arcs; overflow = w.overflow; full = w.full }) w' table table' origins origins'
          (arc_of_keyed source s number) (recorded_states count k.recorded) records wide o;
    })

-- A walk that is not full has all its steps taken, and one that is full has met too many states.

pub went_done : {width : ℕ} {b : Sofar} {w : Walk} {table origins states heads links : List ℕ} → Walked width b w table origins states heads links
    → Went width b w table origins states heads links
went_done k = record { done = λ h. k; full = λ h. absurd (h k.not_full) }

pub went_full : {width : ℕ} {b : Sofar} {w : Walk} {table origins states heads links : List ℕ} → (w.full ≡ 0 → ⊥) → max_states < length b.keys
    → Went width b w table origins states heads links
went_full e over = record { done = λ h. absurd (e h); full = λ h. over }

-- The steps of one state, with `rest` left to take

pub record Taking (width source : ℕ) (rest : List Keyed) (goal : Sofar) (w : Walk) (table origins states heads links : List ℕ) : Type 0 where
  pub sofar : Sofar
  pub walked : Walked width sofar w table origins states heads links
  pub leads : all_taken source rest sofar ≡ goal

pub taking_first : {width : ℕ} {b : Sofar} {w : Walk} {table origins states heads links : List ℕ} (source : ℕ) (ss : List Keyed)
    → Walked width b w table origins states heads links → Taking width source ss (all_taken source ss b) w table origins states heads links
taking_first {width} {b} source ss k = record { sofar = b; walked = k; leads = refl }

-- The number of the state that is served gives its key.
pub state_of : {width : ℕ} {b : Sofar} {w : Walk} {table origins states heads links : List ℕ} (source : ℕ)
    → Walked width b w table origins states heads links → source < w.states → get_or states source 0 ≡ get_or b.keys source 0
state_of source k l = stored_at k.chained source (omega (arith, k.states_are))

pub taking_state : {width : ℕ} {b : Sofar} {w : Walk} {table origins states heads links : List ℕ} (next : ℕ → List Keyed) (source : ℕ)
    → source < w.states → Walked width b w table origins states heads links
    → Taking width source (next (get_or states source 0)) (state_served next source b) w table origins states heads links
unfolding state_served
taking_state {width} {b} next source l k =
    record { sofar = b; walked = k; leads = ap (λ (key : ℕ). all_taken source (next key) b) (state_of source k l) }

module _ {width source : ℕ} {rest : List Keyed} {goal : Sofar} {w : Walk} {table origins states heads links : List ℕ}
    (g : Taking width source rest goal w table origins states heads links) where
  pub taking_stop : rest ≡ [] → Went width goal w table origins states heads links
  unfolding all_taken
  taking_stop none =
      let same : g.sofar ≡ goal = rw none at g.leads in
      subst (λ (z : Sofar). Went width z w table origins states heads links) same (went_done g.walked)

  module _ (s : Keyed) (more : List Keyed) (are : rest ≡ s ∷ more) where
    pub taking_next : (w' : Walk) (table' origins' states' heads' links' : List ℕ)
        → Walked width (taken source s g.sofar) w' table' origins' states' heads' links'
        → Taking width source more goal w' table' origins' states' heads' links'
    unfolding all_taken
    taking_next w' table' origins' states' heads' links' walked =
        record {
          sofar = taken source s g.sofar;
          walked = walked;
          leads = sym (ap (λ (ss : List Keyed). all_taken source ss g.sofar) are) ∙ g.leads;
        }

    -- The target of the next step is one state too many.
    pub taking_over : (number : ℕ) → number ≡ place eqb s.target g.sofar.keys → number ≡ max_states → max_states < length goal.keys
    taking_over number is full =
        let few : length g.sofar.keys ≤ max_states = g.walked.chained.few in
        let low : place eqb s.target g.sofar.keys ≤ length g.sofar.keys = place_le s.target g.sofar.keys in
        let new : there eqb s.target g.sofar.keys ≡ false = place_new s.target g.sofar.keys (omega arith) in
        let over : max_states < length (all_taken source (s ∷ more) g.sofar).keys = new_over source s more g.sofar (omega arith) new in
        let same : all_taken source (s ∷ more) g.sofar ≡ goal =
        sym (ap (λ (ss : List Keyed). all_taken source ss g.sofar) are) ∙ g.leads in
        subst (λ (z : Sofar). max_states < length z.keys) same over

  -- The first of the steps that are left are taken, by a part of the walk.
  module _ (ss more : List Keyed) (are : rest ≡ ss ++ more) (w' : Walk) (table' origins' states' heads' links' : List ℕ)
      (went : Went width (all_taken source ss g.sofar) w' table' origins' states' heads' links') where
    then_more : all_taken source more (all_taken source ss g.sofar) ≡ goal
    then_more =
        sym (all_taken_append source ss more g.sofar) ∙ sym (ap (λ (zs : List Keyed). all_taken source zs g.sofar) are) ∙ g.leads

    pub taking_part : w'.full ≡ 0 → Taking width source more goal w' table' origins' states' heads' links'
    taking_part e = record { sofar = all_taken source ss g.sofar; walked = went.done e; leads = then_more }

    pub taking_full : (w'.full ≡ 0 → ⊥) → Went width goal w' table' origins' states' heads' links'
    taking_full e =
        let over : max_states < length (all_taken source (ss ++ more) g.sofar).keys = part_over source ss more g.sofar (went.full e) in
        let same : all_taken source (ss ++ more) g.sofar ≡ goal = all_taken_append source ss more g.sofar ∙ then_more in
        went_full e (subst (λ (z : Sofar). max_states < length z.keys) same over)

-- The whole walk, with the states of numbers below s served

pub record Walking {A : Type 0} (pack : A → ℕ) (Within : A → Type 0) (width : ℕ) (next : ℕ → List Keyed) (key s : ℕ) (w : Walk)
    (table origins states heads links : List ℕ) : Type 0 where
  pub sofar : Sofar
  pub mirrored : Mirrored pack Within sofar
  pub walked : Walked width sofar w table origins states heads links
  pub leads : served_on next s sofar ≡ explored next key

-- A stored key is that of a state within.
pub record KeyOf {A : Type 0} (pack : A → ℕ) (Within : A → Type 0) (key : ℕ) : Type 0 where
  pub state : A
  pub within : Within state
  pub key_is : key ≡ pack state

module _ {A O : Type 0} {same : A → A → Bool} {steps : A → List (Step A O)} {first : A} {pack : A → ℕ} {os : O → List ℕ} {next : ℕ → List Keyed}
    {Within : A → Type 0} (k : Keying same steps first pack os next Within) (width : ℕ) where
  pub walking_first : (key : ℕ) (table origins states heads links : List ℕ) → key ≡ pack first → max_arc_bytes ≤ length table
      → width * max_arcs ≤ length origins → Chained ([] ++ (key ∷ [])) states heads links
      → Walking pack Within width next (pack first) 0 (record { states = 1; arcs = 0; overflow = 0; full = 0 }) table origins states heads links
  unfolding begun arc_records flag
  walking_first key table origins states heads links is table_long origins_long chained =
      record {
        sofar = begun (pack first);
        mirrored = mirrored_begun k;
        walked =
            record {
              chained = rw is at chained;
              states_are = refl;
              not_full = refl;
              recorded =
                  record {
                    arcs_held = record { arcs_are = refl; overflow_is = refl; table_long = table_long; written = refl };
                    origins_held =
                        record { origins_long = origins_long; paired = sym (mul-zero width); traced = rw (mul-zero width) };
                  };
            };
        leads = sym (explored_on next (pack first));
      }

  module _ {s : ℕ} {w : Walk} {table origins states heads links : List ℕ}
      (g : Walking pack Within width next (pack first) s w table origins states heads links) where
    pub walking_stop : w.states ≤ s → WalkTold width (explored next (pack first)) w table origins states
    walking_stop end =
        let h = g.walked in
        let same : g.sofar ≡ explored next (pack first) =
        sym (served_on_rest next s g.sofar (omega (arith, h.states_are))) ∙ g.leads in
        subst (λ (z : Sofar). WalkTold width z w table origins states) same
        (record { few = h.chained.few; states_are = h.states_are; recorded = h.recorded; stored = h.chained.stored })

    module _ (l : s < w.states) where
      inside_keys : s < length g.sofar.keys
      inside_keys = omega (arith, g.walked.states_are)

      pub walking_small : s < max_states
      walking_small = omega (arith, inside_keys, g.walked.chained.few)

      pub walking_state : KeyOf pack Within (get_or states s 0)
      walking_state =
          let m = g.mirrored in
          let n : length g.sofar.keys ≡ length m.states = mirrors_length g.sofar m.states m.mirrors in
          let h : s < length m.states = omega (arith, inside_keys) in
          record {
            state = get_or m.states s first;
            within = m.mirrors.within (get_or m.states s first) (mem_get_or m.states s first h);
            key_is = state_of s g.walked l ∙ mirrors_key g.sofar m.states s first m.mirrors h;
          }

      module _ (w' : Walk) (table' origins' states' heads' links' : List ℕ)
          (went : Went width (state_served next s g.sofar) w' table' origins' states' heads' links') where
        pub walking_next : w'.full ≡ 0 → Walking pack Within width next (pack first) (s + 1) w' table' origins' states' heads' links'
        walking_next e =
            let small : s < max_states = walking_small in
            let step : served_on next s g.sofar ≡ served_on next (suc s) (state_served next s g.sofar) =
            served_on_step next s g.sofar inside_keys (omega arith) in
            record {
              sofar = state_served next s g.sofar;
              mirrored = mirrored_served k s g.sofar g.mirrored inside_keys;
              walked = went.done e;
              leads = rw (add-one s) (sym step ∙ g.leads);
            }

        pub walking_full : (w'.full ≡ 0 → ⊥) → max_states < length (explored next (pack first)).keys
        walking_full e =
            let small : s < max_states = walking_small in
            subst (λ (z : Sofar). max_states < length z.keys) g.leads
            (served_on_state next s g.sofar inside_keys (omega arith) (went.full e))
