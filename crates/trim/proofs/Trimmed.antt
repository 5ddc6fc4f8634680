-- The accepting paths of a trimmed transducer stand one to one with those of the transducer, by the arcs that were kept. Assumes nothing.
use mathlib.Core.Path.{◌≡◌, refl, sym, ap, ap₂, ◌∙◌}
use mathlib.Core.Bool.{Bool, true, false}
use mathlib.Core.List.{List, [], ◌∷◌, map}
use Prim.Native.Nat.{ℕ, ◌<◌}
use native.Mathlib.Nat.{not-suc-le-zero, zero-add}
use native.Mathlib.Omega.{arith}
use lib.ListN.{length, get_or}
use Rattle.wire.proofs.Bool.{never, and-true, true_and}
use Rattle.transducer.specs.declared.Arc.{Arc}
use Rattle.transducer.specs.Format.{Transducer}
use Rattle.transducer.specs.Path.{arc, runs, ends, accepts, is_final, final_weight, non_empty, read_by, written_by, arcs_cost, path_cost}
use Rattle.transducer.proofs.Paths.{Runs, runs_cons, cons_runs}
use Rattle.transducer.proofs.Runs.{Accepting, AcceptingBy, accepting_cons, accepts_accepting, Within}
use Rattle.transducer.specs.Weight.{plus}
use Rattle.trim.specs.Trim.{useful, arc_useful, renumbered, moved, kept_arcs, kept_finals, kept_numbers, trimmed, origins_kept, through}
use Rattle.trim.proofs.Useful.{useful_next, start_useful}
use Rattle.trim.proofs.Passing.{PassedAt, passed_at, PassedTo, passed_to, passing_injective}
use Rattle.trim.proofs.Kept.{renumbered_injective, kept_is_final, kept_final_weight}

-- What trimming makes: where the start is useful what is kept, else the start alone.
unfoldable pub kept : Transducer → Transducer
kept t = record { states = renumbered t t.states; start = renumbered t t.start; finals = kept_finals t t.finals; arcs = kept_arcs t t.arcs }

unfoldable pub lone : Transducer
lone = record { states = 1; start = 0; finals = []; arcs = [] }

pub trimmed_kept : (t : Transducer) → useful t t.start ≡ true → trimmed t ≡ kept t
unfolding trimmed kept
trimmed_kept t u = rw u

pub trimmed_lone : (t : Transducer) → useful t t.start ≡ false → trimmed t ≡ lone
unfolding trimmed lone
trimmed_lone t u = rw u

pub origins_some : (t : Transducer) → useful t t.start ≡ true → origins_kept t ≡ kept_numbers t 0 t.arcs
unfolding origins_kept
origins_some t u = rw u

pub origins_none : (t : Transducer) → useful t t.start ≡ false → origins_kept t ≡ []
unfolding origins_kept
origins_none t u = rw u

pub lone_runs : (s : ℕ) (p : List ℕ) → runs lone s p ≡ true → p ≡ []
unfolding lone
lone_runs s [] h = refl
lone_runs s (i ∷ p) h = absurd (not-suc-le-zero (runs_cons lone s i p h).below)

pub lone_accepts_nothing : (p : List ℕ) → accepts lone p ≡ true → ⊥
unfolding lone accepts is_final
lone_accepts_nothing p h = never (and-true (runs lone 0 p) false h).1

-- The arc that an arc was kept from.
pub record KeptArc (t : Transducer) (j i : ℕ) : Type 0 where
  pub below : i < length t.arcs
  pub used : arc_useful t (arc t i) ≡ true
  pub arc_is : arc (kept t) j ≡ moved t (arc t i)

pub kept_arc : (t : Transducer) (j : ℕ) → j < length (kept_arcs t t.arcs) → KeptArc t j (get_or (kept_numbers t 0 t.arcs) j 0)
unfolding kept arc
kept_arc t j h =
    let r : PassedAt (arc_useful t) (moved t) 0 t.arcs j = passed_at (arc_useful t) (moved t) 0 t.arcs j h in
    let e : get_or (kept_numbers t 0 t.arcs) j 0 ≡ r.place = r.number ∙ zero-add r.place in
    rw e (record { below = r.below; used = r.passes; arc_is = r.arc_is })

-- A path of what is kept, from a useful state

pub record LedFrom (t z : Transducer) (os : List ℕ) (s : ℕ) (p : List ℕ) : Type 0 where
  pub goes : runs t s (through os p) ≡ true
  pub there : ends z (renumbered t s) p ≡ renumbered t (ends t s (through os p))
  pub used : useful t (ends t s (through os p)) ≡ true
  pub reads : read_by z p ≡ read_by t (through os p)
  pub writes : written_by z p ≡ written_by t (through os p)
  pub costs : arcs_cost z p ≡ arcs_cost t (through os p)

led_cons : (t z : Transducer) (os : List ℕ) (s j : ℕ) (p : List ℕ) → get_or os j 0 < length t.arcs → arc z j ≡ moved t (arc t (get_or os j 0))
    → (arc t (get_or os j 0)).source ≡ s → LedFrom t z os (arc t (get_or os j 0)).target p → LedFrom t z os s (j ∷ p)
unfolding through moved ends read_by written_by arcs_cost
led_cons t z os s j p h e from r =
    record {
      goes = cons_runs t s (get_or os j 0) (through os p) (record { below = h; leaves = from; rest = r.goes });
      there = ap (λ (a : Arc). ends z a.target p) e ∙ r.there;
      used = r.used;
      reads = ap₂ non_empty (ap (λ (a : Arc). a.input) e) r.reads;
      writes = ap₂ non_empty (ap (λ (a : Arc). a.output) e) r.writes;
      costs = ap₂ plus (ap (λ (a : Arc). a.weight) e) r.costs;
    }

pub kept_led : (t : Transducer) (s : ℕ) (p : List ℕ) → useful t s ≡ true → runs (kept t) (renumbered t s) p ≡ true
    → LedFrom t (kept t) (kept_numbers t 0 t.arcs) s p
unfolding through runs ends read_by written_by arcs_cost kept moved arc_useful
kept_led t s [] u h = record { goes = refl; there = refl; used = u; reads = refl; writes = refl; costs = refl }
kept_led t s (j ∷ p) u h =
    let i : ℕ = get_or (kept_numbers t 0 t.arcs) j 0 in
    let r : Runs (kept t) (renumbered t s) j p = runs_cons (kept t) (renumbered t s) j p h in
    let k : KeptArc t j i = kept_arc t j r.below in
    let two : (useful t (arc t i).source ≡ true) × (useful t (arc t i).target ≡ true) =
    and-true (useful t (arc t i).source) (useful t (arc t i).target) k.used in
    let from : renumbered t (arc t i).source ≡ renumbered t s = sym (ap (λ (a : Arc). a.source) k.arc_is) ∙ r.leaves in
    let rest : runs (kept t) (renumbered t (arc t i).target) p ≡ true = sym (ap (λ (a : Arc). runs (kept t) a.target p) k.arc_is) ∙ r.rest in
    led_cons t (kept t) (kept_numbers t 0 t.arcs) s j p k.below k.arc_is (renumbered_injective t (arc t i).source s two.0 u from)
    (kept_led t (arc t i).target p two.1 rest)

pub record Led (t z : Transducer) (os p : List ℕ) : Type 0 where
  pub accepting : accepts t (through os p) ≡ true
  pub reads : read_by z p ≡ read_by t (through os p)
  pub writes : written_by z p ≡ written_by t (through os p)
  pub cost : path_cost z p ≡ path_cost t (through os p)

kept_accepted : (t : Transducer) (p : List ℕ) → useful t t.start ≡ true → accepts (kept t) p ≡ true → Led t (kept t) (kept_numbers t 0 t.arcs) p
unfolding kept accepts path_cost
kept_accepted t p u h =
    let os : List ℕ = kept_numbers t 0 t.arcs in
    let last : ℕ = ends t t.start (through os p) in
    let last' : ℕ = ends (kept t) (renumbered t t.start) p in
    let both : (runs (kept t) (renumbered t t.start) p ≡ true) × (is_final (kept_finals t t.finals) last' ≡ true) =
    and-true (runs (kept t) (renumbered t t.start) p) (is_final (kept_finals t t.finals) last') h in
    let l : LedFrom t (kept t) os t.start p = kept_led t t.start p u both.0 in
    let final : is_final t.finals last ≡ true =
    sym (kept_is_final t t.finals last l.used) ∙ sym (ap (is_final (kept_finals t t.finals)) l.there) ∙ both.1 in
    record {
      accepting = true_and (runs t t.start (through os p)) (is_final t.finals last) l.goes final;
      reads = l.reads;
      writes = l.writes;
      cost =
          ap₂ plus l.costs
          (ap (final_weight (kept_finals t t.finals)) l.there ∙ kept_final_weight t t.finals last l.used);
    }

pub trimmed_led : (t : Transducer) (p : List ℕ) → accepts (trimmed t) p ≡ true → Led t (trimmed t) (origins_kept t) p
trimmed_led t p h = on (useful t t.start) refl
  where
    on : (b : Bool) → useful t t.start ≡ b → Led t (trimmed t) (origins_kept t) p
    on true u = rw (trimmed_kept t u, origins_some t u) (kept_accepted t p u (rw (trimmed_kept t u) at h))
    on false u = absurd (lone_accepts_nothing p (rw (trimmed_lone t u) at h))

-- No two paths lead to one

pub through_injective : (z : Transducer) (os : List ℕ)
    → ((j j' : ℕ) → j < length z.arcs → j' < length z.arcs → get_or os j 0 ≡ get_or os j' 0 → j ≡ j') → (s s' : ℕ) (p p' : List ℕ)
    → runs z s p ≡ true → runs z s' p' ≡ true → through os p ≡ through os p' → p ≡ p'
unfolding through
through_injective z os one-origin s s' [] [] h h' e = refl
through_injective z os one-origin s s' [] (j' ∷ p') h h' e = let z : ◌≡◌ {A = ℕ} 0 1 = cc in absurd (omega arith)
through_injective z os one-origin s s' (j ∷ p) [] h h' e = let z : ◌≡◌ {A = ℕ} 0 1 = cc in absurd (omega arith)
through_injective z os one-origin s s' (j ∷ p) (j' ∷ p') h h' e =
    let r : Runs z s j p = runs_cons z s j p h in
    let r' : Runs z s' j' p' = runs_cons z s' j' p' h' in
    let one : get_or os j 0 ≡ get_or os j' 0 = cc in
    let more : map (λ j. get_or os j 0) p ≡ map (λ j. get_or os j 0) p' = cc in
    ap₂ ◌∷◌ (one-origin j j' r.below r'.below one)
    (through_injective z os one-origin (arc z j).target (arc z j').target p p' r.rest r'.rest more)

kept_led_injective : (t : Transducer) (s s' : ℕ) (p p' : List ℕ) → runs (kept t) s p ≡ true → runs (kept t) s' p' ≡ true
    → through (kept_numbers t 0 t.arcs) p ≡ through (kept_numbers t 0 t.arcs) p' → p ≡ p'
unfolding kept
kept_led_injective t = through_injective (kept t) (kept_numbers t 0 t.arcs) (passing_injective (arc_useful t) (moved t) 0 t.arcs)

pub led_injective : (t : Transducer) (s s' : ℕ) (p p' : List ℕ) → runs (trimmed t) s p ≡ true → runs (trimmed t) s' p' ≡ true
    → through (origins_kept t) p ≡ through (origins_kept t) p' → p ≡ p'
led_injective t s s' p p' h h' e = on (useful t t.start) refl
  where
    on : (b : Bool) → useful t t.start ≡ b → p ≡ p'
    on true u =
        kept_led_injective t s s' p p' (rw (trimmed_kept t u) at h) (rw (trimmed_kept t u) at h') (rw (origins_some t u) at e)
    on false u = lone_runs s p (rw (trimmed_lone t u) at h) ∙ sym (lone_runs s' p' (rw (trimmed_lone t u) at h'))

-- Every accepting path is through to

pub record LedBy (t z : Transducer) (os q : List ℕ) : Type 0 where
  pub path : List ℕ
  pub accepting : accepts z path ≡ true
  pub leads : through os path ≡ q

kept_unled : (t : Transducer) → Within t → (s : ℕ) (q : List ℕ) → useful t s ≡ true → Accepting t s q
    → (p : List ℕ) × (runs (kept t) (renumbered t s) p ≡ true) × (through (kept_numbers t 0 t.arcs) p ≡ q)
unfolding through runs kept moved arc_useful arc
kept_unled t w s [] u a = ([], refl, refl)
kept_unled t w s (i ∷ q) u a =
    let os : List ℕ = kept_numbers t 0 t.arcs in
    let r : AcceptingBy t s i q = accepting_cons t s i q a in
    let target_used : useful t (arc t i).target ≡ true = useful_next t w s i q u r in
    let used : arc_useful t (arc t i) ≡ true =
    true_and (useful t (arc t i).source) (useful t (arc t i).target) (ap (useful t) r.leaves ∙ u) target_used in
    let k : PassedTo (arc_useful t) (moved t) 0 t.arcs i = passed_to (arc_useful t) (moved t) 0 t.arcs i r.below used in
    let o : get_or os k.place 0 ≡ i = k.number ∙ zero-add i in
    let is : arc (kept t) k.place ≡ moved t (arc t i) = rw o at (kept_arc t k.place k.below).arc_is in
    let more = kept_unled t w (arc t i).target q target_used r.rest in (
      k.place ∷ more.0,
      cons_runs (kept t) (renumbered t s) k.place more.0
          (record {
            below = k.below;
            leaves = ap (λ (a : Arc). a.source) is ∙ ap (renumbered t) r.leaves;
            rest = ap (λ (a : Arc). runs (kept t) a.target more.0) is ∙ more.1;
          }),
      ap₂ ◌∷◌ o more.2,
    )

pub kept_led_by : (t : Transducer) → Within t → (q : List ℕ) → useful t t.start ≡ true → accepts t q ≡ true → LedBy t (kept t) (kept_numbers t 0 t.arcs) q
unfolding kept accepts
kept_led_by t w q u h =
    let os : List ℕ = kept_numbers t 0 t.arcs in
    let r = kept_unled t w t.start q u (accepts_accepting t q h) in
    let p : List ℕ = r.0 in
    let l : LedFrom t (kept t) os t.start p = kept_led t t.start p u r.1 in
    let last : ℕ = ends t t.start (through os p) in
    let final : is_final t.finals last ≡ true = ap (λ (q : List ℕ). is_final t.finals (ends t t.start q)) r.2 ∙ (accepts_accepting t q h).final in
    let final' : is_final (kept_finals t t.finals) (ends (kept t) (renumbered t t.start) p) ≡ true =
    ap (is_final (kept_finals t t.finals)) l.there ∙ kept_is_final t t.finals last l.used ∙ final in
    record {
      path = p;
      accepting =
          true_and (runs (kept t) (renumbered t t.start) p) (is_final (kept_finals t t.finals) (ends (kept t) (renumbered t t.start) p)) r.1 final';
      leads = r.2;
    }

pub led_onto : (t : Transducer) → Within t → (q : List ℕ) → accepts t q ≡ true → LedBy t (trimmed t) (origins_kept t) q
led_onto t w q h =
    let u : useful t t.start ≡ true = start_useful t w q h in
    rw (trimmed_kept t u, origins_some t u) (kept_led_by t w q u h)
