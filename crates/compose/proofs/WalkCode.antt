-- What the walk's code keeps, over plain lists: the steps of a run that are left from right arc j on, and those of a state that are left from
-- left arc i on. Each has a law for its first place, its next one and its end. Assumes nothing.
use mathlib.Core.Path.{◌≡◌, sym, ap, subst, ◌∙◌}
use mathlib.Core.Bool.{true, false, cond}
use mathlib.Core.List.{List, [], ◌∷◌, ◌++◌, map, map-append, append-nil}
use Prim.Native.Nat.{ℕ, suc, ◌+◌, ◌*◌, ◌-◌, ◌≤◌, ◌<◌}
use native.Mathlib.Numerals.{add-one}
use native.Mathlib.Omega.{arith}
use lib.Dec.{ltb, leb, eqb}
use lib.ListN.{length, get_or, set}
use borrow.Author.Tests.{ltb-true, ltb-false, lt-ltb, le-ltb, le-leb, lt-leb}
use Rattle.transducer.specs.Format.{max_arcs, Transducer, Good}
use Rattle.transducer.specs.Accepted.{arcs_below, Indexed, Leaving}
use Rattle.transducer.proofs.Index.{arcs_below_length, arcs_below_mono}
use Rattle.explore.specs.declared.Walk.{Walk}
use Rattle.explore.specs.Explore.{place}
use Rattle.explore.specs.Chain.{Chained}
use Rattle.explore.specs.Walk.{Keyed, Sofar, with_key, taken, all_taken, state_served, traced_by, Records, Walked, Went}
use Rattle.wire.proofs.Bool.{by_test}
use Rattle.explore.proofs.Recording.{KeyKept}
use Rattle.explore.proofs.Walking.{walked_next, Taking, taking_state, taking_next, taking_part, taking_full, taking_stop}
use Rattle.steps.specs.declared.Begin.{Begin}
use Rattle.steps.specs.declared.Origin.{Origin}
use Rattle.steps.specs.declared.Run.{Run}
use Rattle.steps.specs.declared.State.{State}
use Rattle.steps.specs.declared.Step.{Step}
use Rattle.steps.specs.Steps.{left_origin, right_origin, origin_pair, steps, first_state}
use Rattle.steps.specs.Packing.{pack, unpacked}
use Rattle.steps.specs.Runs.{coded, run_step, run_steps, Takeable, InBoth}
use Rattle.compose.specs.Walk.{keyed_step, key_steps}
use Rattle.compose.specs.Taking.{run_left}
use Rattle.compose.proofs.Explored.{two_origins}
use Rattle.transducer.proofs.Leaving.{state_leaving}
use Rattle.steps.proofs.RunSteps.{runs_from, good_runs}
use Rattle.steps.proofs.Reading.{first_step, NextStep, right_from, right_to, RunHere}

-- The key of the first state.
pub first_key : (t u : Transducer) (k a b : ℕ) → k ≡ pack (record { left = a; right = b; filter = 0 }) → a ≡ t.start → b ≡ u.start
    → k ≡ pack (first_state t u)
unfolding first_state
first_key t u k a b is p q = is ∙ (rw (p, q))

-- The two origins of an arc stored, or left out where there is no room for the arc.
module _ (arcs : ℕ) (o : Origin) (origins : List ℕ) where
  pub traced_pair : (x y : ℕ) → arcs < max_arcs → x ≡ left_origin o → y ≡ right_origin o
      → set (set origins (2 * arcs) x) (2 * arcs + 1) y ≡ traced_by 2 arcs (origin_pair o) origins
  unfolding traced_by origin_pair
  traced_pair x y l x-is y-is = rw (lt-ltb arcs max_arcs l, x-is, y-is, add-one (2 * arcs))

  pub traced_full : max_arcs ≤ arcs → origins ≡ traced_by 2 arcs (origin_pair o) origins
  unfolding traced_by
  traced_full h = rw (le-ltb arcs max_arcs h)

-- A step taken, as the code has it.
pub step_walked : (b : Sofar) (source number count : ℕ) (s : Step) (w w' : Walk)
    (table table' origins origins' states states' heads heads' links links' : List ℕ) → Walked 2 b w table origins states heads links
    → number ≡ place eqb s.target b.keys → Chained (with_key s.target b.keys) states' heads' links'
    → count ≡ length (with_key s.target b.keys)
    → Records (record { source = source; input = s.input; output = s.output; target = number; weight = s.weight })
    (record { states = count; arcs = w.arcs; overflow = w.overflow; full = w.full }) w' table table'
    → origins' ≡ traced_by 2 w.arcs (origin_pair s.origin) origins
    → Walked 2 (taken source (keyed_step s) b) w' table' origins' states' heads' links'
unfolding keyed_step
step_walked b source number count s w w' table table' origins origins' states states' heads heads' links links' k is chained counted records o =
    walked_next 2 b source number count (keyed_step s) w w' table table' origins origins' states states' heads heads' links links' k is chained counted
    (two_origins s.origin) o records

-- The same where the search for its target has stored a new one.
pub step_kept : (b : Sofar) (source number : ℕ) (s : Step) (w w₁ w' : Walk)
    (table table' origins origins' states states' heads heads' links links' : List ℕ) → Walked 2 b w table origins states heads links
    → KeyKept s.target b.keys number w w₁ states' heads' links'
    → Records (record { source = source; input = s.input; output = s.output; target = number; weight = s.weight }) w₁ w' table table'
    → origins' ≡ traced_by 2 w₁.arcs (origin_pair s.origin) origins
    → Walked 2 (taken source (keyed_step s) b) w' table' origins' states' heads' links'
step_kept b source number s w w₁ w' table table' origins origins' states states' heads heads' links links' k kept records o =
    step_walked b source number w₁.states s w w' table table' origins origins' states states' heads heads' links links' k kept.number_is
    kept.chained kept.counted
    (subst (λ (z : Walk).
    Records (record { source = source; input = s.input; output = s.output; target = number; weight = s.weight }) z w' table table') kept.rest_stays
    records)
    (o ∙ ap (λ (z : Walk). traced_by 2 z.arcs (origin_pair s.origin) origins) kept.rest_stays)

-- The steps of a run

module _ (u : Transducer) (r : Run) (to j : ℕ) where
  pub run_left_next : (k : ℕ) (s : Step) → NextStep u r j to k → s ≡ run_step u r j → run_left u r to j ≡ keyed_step s ∷ run_left u r to k
  run_left_next k s next is =
      ap (λ (ss : List Step). map keyed_step ss) next.are ∙ ap (λ (z : Step). keyed_step z ∷ run_left u r to k) (sym is)

  pub run_left_first : (s : Step) → Takeable u r j to → j < to → s ≡ run_step u r j → run_left u r to j ≡ keyed_step s ∷ run_left u r to (suc j)
  run_left_first s ready l is =
      ap (λ (ss : List Step). map keyed_step ss) (first_step u r j to ready l) ∙ ap (λ (z : Step). keyed_step z ∷ run_left u r to (suc j)) (sym is)

  pub run_left_none : to ≤ j → run_left u r to j ≡ []
  unfolding run_steps
  run_left_none end = let none : to - j ≡ 0 = omega arith in rw none

-- The next step is taken, and its target stored where the search for it has ended.
pub taking_kept : {u : Transducer} {r : Run} {to j k source number : ℕ} {goal : Sofar} {s : Step} {w w₁ w' : Walk}
    {table table' origins origins' states states' heads heads' links links' : List ℕ}
    (g : Taking 2 source (run_left u r to j) goal w table origins states heads links) → NextStep u r j to k → s ≡ run_step u r j
    → KeyKept s.target g.sofar.keys number w w₁ states' heads' links'
    → Records (record { source = source; input = s.input; output = s.output; target = number; weight = s.weight }) w₁ w' table table'
    → origins' ≡ traced_by 2 w₁.arcs (origin_pair s.origin) origins
    → Taking 2 source (run_left u r to k) goal w' table' origins' states' heads' links'
taking_kept {u} {r} {to} {j} {k} {source} {number} {goal} {s} {w} {w₁} {w'} {table} {table'} {origins} {origins'} {states} {states'} {heads} {heads'}
    {links} {links'} g next is kept records o =
    taking_next g (keyed_step s) (run_left u r to k) (run_left_next u r to j k s next is) w' table' origins' states' heads' links'
    (step_kept g.sofar source number s w w₁ w' table table' origins origins' states states' heads heads' links links' g.walked kept records o)

-- Where the arcs of a composed state's parts stand: the left ones from `first` to below `last`, the right ones up to below `to`.
pub record Placed (t u : Transducer) (x : State) (first last to : ℕ) : Type 0 where
  pub inside : InBoth t u x
  pub first_is : first ≡ arcs_below x.left t.arcs
  pub last_is : last ≡ arcs_below (suc x.left) t.arcs
  pub to_is : to ≡ right_to u x

next_index : {t : Transducer} {index : List ℕ} (s : ℕ) → Indexed t index → s < t.states → get_or index (s + 1) 0 ≡ arcs_below (suc s) t.arcs
next_index {t} {index} s at l = ap (λ (k : ℕ). get_or index k 0) (add-one s) ∙ at.at_state (suc s) l

pub placed : (t u : Transducer) (x : State) (lindex rindex : List ℕ) → Indexed t lindex → Indexed u rindex → InBoth t u x
    → Placed t u x (get_or lindex x.left 0) (get_or lindex (x.left + 1) 0) (get_or rindex (x.right + 1) 0)
placed t u x lindex rindex l r inside =
    record {
      inside = inside;
      first_is = l.at_state x.left (omega (arith, inside.left_in));
      last_is = next_index x.left l inside.left_in;
      to_is = next_index x.right r inside.right_in;
    }

module _ {t u : Transducer} {x : State} {first last to : ℕ} (p : Placed t u x first last to) where
  pub placed_left : (first ≤ last) × (last ≤ length t.arcs)
  placed_left =
      let order : arcs_below x.left t.arcs ≤ arcs_below (suc x.left) t.arcs =
      arcs_below_mono x.left (suc x.left) t.arcs (omega arith) in
      let inside : arcs_below (suc x.left) t.arcs ≤ length t.arcs = arcs_below_length (suc x.left) t.arcs in
      (omega (arith, p.first_is, p.last_is), omega (arith, p.last_is))

  pub placed_right : to ≤ length u.arcs
  placed_right = rw p.to_is (arcs_below_length (suc x.right) u.arcs)

  pub placed_leaving : Good u → Leaving u x.right (right_from u x) to
  placed_leaving g = rw p.to_is (state_leaving u x.right g)

-- The steps of a state

-- Those from left arc i on, among the arcs up to `last`; behind it stand those of the right arcs alone.
unfoldable pub runs_left : (t u : Transducer) → State → (last i : ℕ) → List Keyed
runs_left t u x last i = cond (leb i last) (map keyed_step (runs_from t u x (last - i) i)) []

runs_left_first : (t u : Transducer) (x : State) (key first last to : ℕ) → Good t → Good u → x ≡ unpacked key → Placed t u x first last to
    → key_steps t u key ≡ runs_left t u x last first
unfolding key_steps runs_left
runs_left_first t u x key first last to tg ug x-is p =
    let are : map coded (steps t u x) ≡ runs_from t u x (last - first) first = rw (p.first_is, p.last_is) (good_runs t u x tg ug) in
    let order : leb first last ≡ true = le-leb first last (placed_left p).0 in
    rw (← x-is, order, are)

module _ (t u : Transducer) (x : State) (last i : ℕ) where
  runs_left_none : last < i → runs_left t u x last i ≡ []
  unfolding runs_left
  runs_left_none h = rw (lt-leb i last h)

  runs_left_next : i ≤ last → (to : ℕ) (b : Begin) (r : Run) → RunHere t u x i last to b r
      → runs_left t u x last i ≡ run_left u r (cond b.alone 1 to) b.j ++ runs_left t u x last (b.i + 1)
  unfolding runs_left
  runs_left_next l to b r here = rw (le-leb i last l, add-one b.i) (by_test (ltb b.i last) before end)
    where
      ss : List Step
      ss = run_steps u r (cond b.alone 1 to - b.j) b.j

      before : ltb b.i last ≡ true
          → map keyed_step (runs_from t u x (last - i) i)
          ≡ map keyed_step ss ++ cond (leb (suc b.i) last) (map keyed_step (runs_from t u x (last - suc b.i) (suc b.i))) []
      before k =
          let h : b.i < last = ltb-true b.i last k in
          let more : leb (suc b.i) last ≡ true = le-leb (suc b.i) last h in
          rw (more, here.are_more h) (map-append keyed_step ss (runs_from t u x (last - suc b.i) (suc b.i)))

      end : ltb b.i last ≡ false
          → map keyed_step (runs_from t u x (last - i) i)
          ≡ map keyed_step ss ++ cond (leb (suc b.i) last) (map keyed_step (runs_from t u x (last - suc b.i) (suc b.i))) []
      end k =
          let h : last ≤ b.i = ltb-false b.i last k in
          let most : b.i ≤ last = here.at_most in
          let none : leb (suc b.i) last ≡ false = lt-leb (suc b.i) last (omega arith) in
          rw (none, here.are_last (omega arith)) (sym (append-nil (map keyed_step ss)))

-- A state served up to left arc i.
pub record Serving (t u : Transducer) (x : State) (source last : ℕ) (goal : Sofar) (i : ℕ) (w : Walk) (table origins states heads links : List ℕ)
    : Type 0 where
  pub taking : Taking 2 source (runs_left t u x last i) goal w table origins states heads links

pub serving_first : (t u : Transducer) (x : State) (source first last to : ℕ) (b : Sofar) (w : Walk) (table origins states heads links : List ℕ) → Good t
    → Good u → source < w.states → x ≡ unpacked (get_or states source 0) → Placed t u x first last to → Walked 2 b w table origins states heads links
    → Serving t u x source last (state_served (key_steps t u) source b) first w table origins states heads links
serving_first t u x source first last to b w table origins states heads links tg ug l x-is p k =
    let are = runs_left_first t u x (get_or states source 0) first last to tg ug x-is p in
    record { taking = rw are at (taking_state (key_steps t u) source l k) }

module _ {t u : Transducer} {x : State} {source last : ℕ} {goal : Sofar} {i : ℕ} {w : Walk} {table origins states heads links : List ℕ}
    (g : Serving t u x source last goal i w table origins states heads links) where
  pub serving_stop : last < i → Went 2 goal w table origins states heads links
  serving_stop h = taking_stop g.taking (runs_left_none t u x last i h)

  module _ (l : i ≤ last) {to : ℕ} {b : Begin} {r : Run} (here : RunHere t u x i last to b r) (w' : Walk) (table' origins' states' heads' links' : List ℕ)
      (went : Went 2 (all_taken source (run_left u r (cond b.alone 1 to) b.j) g.taking.sofar) w' table' origins' states' heads' links') where
    abbrev run : List Keyed
    run = run_left u r (cond b.alone 1 to) b.j

    abbrev rest : List Keyed
    rest = runs_left t u x last (b.i + 1)

    pub serving_next : w'.full ≡ 0 → Serving t u x source last goal (b.i + 1) w' table' origins' states' heads' links'
    serving_next e =
        record { taking = taking_part g.taking run rest (runs_left_next t u x last i l to b r here) w' table' origins' states' heads' links' went e }

    pub serving_full : (w'.full ≡ 0 → ⊥) → Went 2 goal w' table' origins' states' heads' links'
    serving_full e = taking_full g.taking run rest (runs_left_next t u x last i l to b r here) w' table' origins' states' heads' links' went e
