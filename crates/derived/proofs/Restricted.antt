-- A restricted transducer can be written if the whole one can, and its paths are those whose arcs all pass the test. Assumes nothing.
use mathlib.Core.Path.{◌≡◌, refl, sym, ap, ap₂, ◌∙◌}
use mathlib.Core.Bool.{Bool, true, ◌&&◌}
use mathlib.Core.List.{List, [], ◌∷◌}
use Prim.Native.Nat.{ℕ, ◌<◌}
use native.Mathlib.Nat.{zero-add}
use native.Mathlib.Omega.{arith}
use lib.Dec.{ltb}
use lib.ListN.{length, get_or}
use Rattle.wire.specs.Bytes.{every}
use Rattle.wire.proofs.Bool.{and-true, true_and}
use Rattle.transducer.specs.declared.Arc.{Arc}
use Rattle.transducer.specs.Format.{Transducer, Good, states_good, finals_rise, sources_stay, order_good}
use Rattle.transducer.specs.Format.{labels_good, all_labels_good, weight_good, weights_good}
use Rattle.transducer.specs.Path.{arc, non_empty, is_final, final_weight, runs, ends, accepts, read_by, written_by, arcs_cost, path_cost}
use Rattle.transducer.specs.Weight.{plus}
use Rattle.transducer.proofs.Good.{Content, good_tests, tests_good, HeadRange, finals_rise_good, sources_stay_good}
use Rattle.transducer.proofs.Good.{finals_inside, arcs_inside, finals_light, arcs_light}
use Rattle.transducer.proofs.Paths.{Runs, runs_cons, cons_runs}
use Rattle.transducer.proofs.RoundTrip.{good_range}
use Rattle.transducer.proofs.Runs.{Accepting, accepts_accepting, accepting_accepts, Within}
use Rattle.trim.specs.Passing.{passing, passing_numbers}
use Rattle.trim.specs.Trim.{through}
use Rattle.trim.proofs.Passing.{passing_few, PassedAt, passed_at, PassedTo, passed_to, passing_rise, passing_injective}
use Rattle.trim.proofs.Passing.{every_passing, passing_stay, passing_same, numbers_same}
use Rattle.trim.proofs.Trimmed.{Led, LedBy, through_injective}
use Rattle.derived.specs.Restricted.{unchanged, restricted, origins_restricted}

-- Bytes

module _ (test : Arc → Bool) (t : Transducer) where
  stay : sources_stay 0 t.arcs ≡ true → sources_stay 0 (passing test unchanged t.arcs) ≡ true
  stay h = passing_stay test unchanged (λ s. s) (λ s s' l. l) (λ a. refl) 0 t.arcs h

  each : (p : Arc → Bool) → every p t.arcs ≡ true → every p (passing test unchanged t.arcs) ≡ true
  each p h = every_passing test unchanged p p t.arcs (λ a u e. e) h

  pub restricted_good : Good t → Good (restricted test t)
  unfolding restricted states_good order_good all_labels_good weights_good
  restricted_good g =
      let c : Content t = good_tests t g in
      let r : HeadRange t.states (length t.arcs) (length t.finals) t.start = good_range t g in
      let n : ℕ = t.states in
      let l : List Arc = passing test unchanged t.arcs in
      tests_good (restricted test t)
      (record {
        some = r.some;
        states = r.states;
        arcs = omega (arith, r.arcs, passing_few test unchanged t.arcs);
        finals = r.finals;
        start = r.start;
      })
      (record {
        states =
            true_and (every (λ f. ltb f.state n) t.finals) (every (λ a. ltb a.source n && ltb a.target n) l) (finals_inside t c)
            (each (λ a. ltb a.source n && ltb a.target n) (arcs_inside t c));
        order = true_and (finals_rise 0 t.finals) (sources_stay 0 l) (finals_rise_good t c) (stay (sources_stay_good t c));
        labels = each (λ a. labels_good a.input a.output) c.labels;
        weights =
            true_and (every (λ f. weight_good f.weight) t.finals) (every (λ a. weight_good a.weight) l) (finals_light t c)
            (each (λ a. weight_good a.weight) (arcs_light t c));
      })

  -- Arcs

  -- The arc that an arc comes from.
  pub record KeptArc (j i : ℕ) : Type 0 where
    pub below : i < length t.arcs
    pub passes : test (arc t i) ≡ true
    pub arc_is : arc (restricted test t) j ≡ arc t i

  pub kept_arc : (j : ℕ) → j < length (restricted test t).arcs → KeptArc j (get_or (origins_restricted test t) j 0)
  unfolding restricted origins_restricted arc
  kept_arc j h =
      let r : PassedAt test unchanged 0 t.arcs j = passed_at test unchanged 0 t.arcs j h in
      let e : get_or (passing_numbers test 0 t.arcs) j 0 ≡ r.place = r.number ∙ zero-add r.place in
      rw e (record { below = r.below; passes = r.passes; arc_is = r.arc_is })

  -- Each arc that passes is kept.
  pub record KeptAs (i : ℕ) : Type 0 where
    pub number : ℕ
    pub below : number < length (restricted test t).arcs
    pub origin : get_or (origins_restricted test t) number 0 ≡ i

  pub kept_as : (i : ℕ) → i < length t.arcs → test (arc t i) ≡ true → KeptAs i
  unfolding restricted origins_restricted arc
  kept_as i h c =
      let r : PassedTo test unchanged 0 t.arcs i = passed_to test unchanged 0 t.arcs i h c in
      record { number = r.place; below = r.below; origin = r.number ∙ zero-add i }

  -- Their order stays.
  pub origins_rise : (j j' : ℕ) → j < j' → j' < length (origins_restricted test t)
      → get_or (origins_restricted test t) j 0 < get_or (origins_restricted test t) j' 0
  unfolding origins_restricted
  origins_rise j j' h h' = passing_rise test 0 t.arcs j j' h h'

  pub restricted_within : Within t → Within (restricted test t)
  unfolding restricted
  restricted_within w =
      record {
        leaves = λ j h. let a = kept_arc j h in rw a.arc_is (w.leaves _ a.below);
        arrives = λ j h. let a = kept_arc j h in rw a.arc_is (w.arrives _ a.below);
        starts = w.starts;
      }

  -- Paths

  -- A path of the restricted transducer, by its origins, is one of the whole one: it leads to the same state, reads, writes and costs what that does.
  pub record KeptPath (s : ℕ) (p : List ℕ) : Type 0 where
    pub goes : runs t s (through (origins_restricted test t) p) ≡ true
    pub there : ends (restricted test t) s p ≡ ends t s (through (origins_restricted test t) p)
    pub reads : read_by (restricted test t) p ≡ read_by t (through (origins_restricted test t) p)
    pub writes : written_by (restricted test t) p ≡ written_by t (through (origins_restricted test t) p)
    pub costs : arcs_cost (restricted test t) p ≡ arcs_cost t (through (origins_restricted test t) p)

  pub kept_path : (s : ℕ) (p : List ℕ) → runs (restricted test t) s p ≡ true → KeptPath s p
  unfolding through runs ends read_by written_by arcs_cost
  kept_path s [] h = record { goes = refl; there = refl; reads = refl; writes = refl; costs = refl }
  kept_path s (j ∷ p) h =
      let v : Transducer = restricted test t in
      let r : Runs v s j p = runs_cons v s j p h in
      let i : ℕ = get_or (origins_restricted test t) j 0 in
      let a : KeptArc j i = kept_arc j r.below in
      let e : arc v j ≡ arc t i = a.arc_is in
      let u : ℕ = (arc t i).target in
      let more : KeptPath u p = kept_path u p (rw e at r.rest) in
      record {
        goes =
            cons_runs t s i (through (origins_restricted test t) p)
            (record { below = a.below; leaves = sym (ap (λ (a : Arc). a.source) e) ∙ r.leaves; rest = more.goes });
        there = ap (λ (a : Arc). ends v a.target p) e ∙ more.there;
        reads = ap₂ non_empty (ap (λ (a : Arc). a.input) e) more.reads;
        writes = ap₂ non_empty (ap (λ (a : Arc). a.output) e) more.writes;
        costs = ap₂ plus (ap (λ (a : Arc). a.weight) e) more.costs;
      }

  pub restricted_led : (p : List ℕ) → accepts (restricted test t) p ≡ true → Led t (restricted test t) (origins_restricted test t) p
  unfolding path_cost restricted
  restricted_led p h =
      let v : Transducer = restricted test t in
      let a : Accepting v v.start p = accepts_accepting v p h in
      let r : KeptPath t.start p = kept_path t.start p a.goes in
      let q : List ℕ = through (origins_restricted test t) p in
      record {
        accepting = accepting_accepts t q (record { goes = r.goes; final = sym (ap (is_final t.finals) r.there) ∙ a.final });
        reads = r.reads;
        writes = r.writes;
        cost = ap₂ plus r.costs (ap (final_weight t.finals) r.there);
      }

  -- No two paths come from one.
  pub restricted_injective : (s s' : ℕ) (p p' : List ℕ) → runs (restricted test t) s p ≡ true → runs (restricted test t) s' p' ≡ true
      → through (origins_restricted test t) p ≡ through (origins_restricted test t) p' → p ≡ p'
  unfolding restricted origins_restricted
  restricted_injective = through_injective (restricted test t) (origins_restricted test t) (passing_injective test unchanged 0 t.arcs)

  -- Each path whose arcs all pass is left.
  abbrev pub all_pass : List ℕ → Bool
  all_pass q = every (λ i. test (arc t i)) q

  pub record PathKept (s : ℕ) (q : List ℕ) : Type 0 where
    pub path : List ℕ
    pub goes : runs (restricted test t) s path ≡ true
    pub leads : through (origins_restricted test t) path ≡ q

  pub path_kept : (s : ℕ) (q : List ℕ) → runs t s q ≡ true → all_pass q ≡ true → PathKept s q
  unfolding through runs every
  path_kept s [] h c = record { path = []; goes = refl; leads = refl }
  path_kept s (i ∷ q) h c =
      let v : Transducer = restricted test t in
      let r : Runs t s i q = runs_cons t s i q h in
      let e = and-true (test (arc t i)) (all_pass q) c in
      let k : KeptAs i = kept_as i r.below e.0 in
      let j : ℕ = k.number in
      let is : arc v j ≡ arc t i = rw k.origin at (kept_arc j k.below).arc_is in
      let more : PathKept (arc t i).target q = path_kept (arc t i).target q r.rest e.1 in
      record {
        path = j ∷ more.path;
        goes =
            cons_runs v s j more.path
            (record {
              below = k.below;
              leaves = ap (λ (a : Arc). a.source) is ∙ r.leaves;
              rest = ap (λ (a : Arc). runs v a.target more.path) is ∙ more.goes;
            });
        leads = ap₂ ◌∷◌ k.origin more.leads;
      }

  pub restricted_onto : (q : List ℕ) → accepts t q ≡ true → all_pass q ≡ true → LedBy t (restricted test t) (origins_restricted test t) q
  unfolding restricted
  restricted_onto q h c =
      let v : Transducer = restricted test t in
      let a : Accepting t t.start q = accepts_accepting t q h in
      let r : PathKept t.start q = path_kept t.start q a.goes c in
      let l : KeptPath t.start r.path = kept_path t.start r.path r.goes in
      let there : ends v t.start r.path ≡ ends t t.start q = l.there ∙ ap (ends t t.start) r.leads in
      record {
        path = r.path;
        accepting = accepting_accepts v r.path (record { goes = r.goes; final = ap (is_final t.finals) there ∙ a.final });
        leads = r.leads;
      }

-- Two tests that agree on each arc restrict alike.
pub restricted_same : (f g : Arc → Bool) (t : Transducer) → ((i : ℕ) → i < length t.arcs → f (arc t i) ≡ g (arc t i))
    → (restricted f t ≡ restricted g t) × (origins_restricted f t ≡ origins_restricted g t)
unfolding restricted origins_restricted arc
restricted_same f g t e = (
  ap (λ (l : List Arc). record { states = t.states; start = t.start; finals = t.finals; arcs = l }) (passing_same f g unchanged t.arcs e),
  numbers_same f g 0 t.arcs e,
)
