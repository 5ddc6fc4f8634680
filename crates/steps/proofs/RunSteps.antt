-- The steps of a composed state as runs: of each left arc in turn, alone or with the right arcs that fit its output, then of the right arcs alone.
-- Assumes nothing.
use mathlib.Core.Path.{◌≡◌, refl, sym, ap, ◌∙◌}
use mathlib.Core.Bool.{Bool, true, false, ◌||◌, cond}
use mathlib.Core.List.{List, [], ◌∷◌, ◌++◌, map, map-append, append_assoc}
use Prim.Native.Nat.{ℕ, zero, suc, ◌-◌, ◌≤◌, ◌<◌}
use native.Mathlib.Omega.{arith}
use lib.Dec.{eqb}
use lib.ListN.{length}
use borrow.Author.Tests.{eqb-true, eqb-false, eq-eqb, ne_eqb}
use Rattle.transducer.specs.declared.Arc.{Arc}
use Rattle.transducer.specs.Format.{max_arcs, Transducer, barred, sources_stay, Good}
use Rattle.transducer.specs.Path.{arc}
use Rattle.transducer.specs.Each.{each_arc, fits}
use Rattle.transducer.specs.Accepted.{arcs_below}
use Rattle.transducer.proofs.Ranges.{from_to, from_to_same, from_to_skip, map_from_to, each_arc_range}
use Rattle.transducer.proofs.Index.{arcs_below_length, arcs_below_mono}
use Rattle.transducer.proofs.Fits.{fits_none}
use Rattle.wire.proofs.Bool.{by_test, is_false}
use Rattle.explore.specs.Explore as explore
use Rattle.steps.specs.declared.Origin.{Origin}
use Rattle.steps.specs.declared.Run.{Run}
use Rattle.steps.specs.declared.State.{State}
use Rattle.steps.specs.declared.Step.{Step}
use Rattle.steps.specs.Steps.{left_alone, right_alone, both_step, left_steps, right_steps, steps}
use Rattle.steps.specs.Runs.{coded, run_step, run_steps}
use Rattle.transducer.proofs.RoundTrip.{good_range, good_content}
use Rattle.transducer.specs.Weight.{no_weight}
use Rattle.transducer.proofs.Weights.{none_plus}

-- run_steps

pub run_none : (u : Transducer) (r : Run) (j : ℕ) → run_steps u r 0 j ≡ []
unfolding run_steps
run_none u r j = refl

-- A run of a left arc alone is one step.
pub run_alone : (u : Transducer) (r : Run) (j : ℕ) → r.alone ≡ true → run_steps u r 1 j ≡ run_step u r j ∷ []
unfolding run_steps
run_alone u r j e = rw e

or_of : (a b c : Bool) → a ≡ false → b ≡ c → a || b ≡ c
or_of a b c p q = rw p q

module _ (u : Transducer) (r : Run) (together : r.alone ≡ false) where
  -- The steps that a right arc adds.
  abbrev pub run_arc : (j : ℕ) → List Step
  run_arc j = cond (fits u r.label (arc u j)) (run_step u r j ∷ []) []

  tested : (j : ℕ) (b : Bool) → fits u r.label (arc u j) ≡ b → r.alone || fits u r.label (arc u j) ≡ b
  tested j b e = or_of r.alone (fits u r.label (arc u j)) b together e

  pub run_range : (n j : ℕ) → run_steps u r n j ≡ from_to n j run_arc
  unfolding run_steps from_to
  run_range zero j = refl
  run_range (suc n) j =
      by_test (fits u r.label (arc u j))
      (λ e. rw (tested j true e, e) (ap (λ (l : List Step). run_step u r j ∷ l) (run_range n (suc j))))
      (λ e. rw (tested j false e, e) (run_range n (suc j)))

  -- Right arcs that do not fit the label may be passed over.
  pub run_skip : (j k to : ℕ) → j ≤ k → k ≤ to → ((m : ℕ) → j ≤ m → m < k → fits u r.label (arc u m) ≡ true → ⊥)
      → run_steps u r (to - j) j ≡ run_steps u r (to - k) k
  run_skip j k to l m unread =
      run_range (to - j) j ∙ from_to_skip j k to run_arc l m (λ i p q. rw (is_false (fits u r.label (arc u i)) (unread i p q)))
      ∙ sym (run_range (to - k) k)

  pub run_unread : (j to : ℕ) → j ≤ to → ((m : ℕ) → j ≤ m → m < to → fits u r.label (arc u m) ≡ true → ⊥) → run_steps u r (to - j) j ≡ []
  run_unread j to l unread =
      let e : to - to ≡ 0 = omega arith in
      run_skip j to to l (omega arith) unread ∙ (rw e (run_none u r to))

-- The three kinds of run, from a state x: of left arc i alone, of left arc i with right arcs, of right arcs alone.

abbrev pub alone_run : State → (i : ℕ) → Arc → Run
alone_run x i a =
    record { alone = true; left = i; label = 0; input = a.input; target = record { left = a.target; right = x.right; filter = 0 }; weight = a.weight }

abbrev pub both_run : State → (i : ℕ) → Arc → Run
both_run x i a =
    record {
      alone = false;
      left = i;
      label = a.output;
      input = a.input;
      target = record { left = a.target; right = x.right; filter = 0 };
      weight = a.weight;
    }

abbrev pub right_run : State → Run
right_run x =
    record { alone = false; left = barred; label = 0; input = 0; target = record { left = x.left; right = x.right; filter = 1 }; weight = no_weight }

-- The steps of a run with each right arc of the right state that fits.
abbrev pub right_steps_of : (u : Transducer) → State → Run → List Step
right_steps_of u x r = run_steps u r (arcs_below (suc x.right) u.arcs - arcs_below x.right u.arcs) (arcs_below x.right u.arcs)

-- A step of each kind, as the run's.

pub coded_left : (u : Transducer) (x : State) (i j : ℕ) (a : Arc) → coded (left_alone x i a) ≡ run_step u (alone_run x i a) j
unfolding coded left_alone run_step
coded_left u x i j a = refl

pub coded_both : (u : Transducer) (x : State) (i j : ℕ) (a : Arc) → i < 65535 → coded (both_step i a j (arc u j)) ≡ run_step u (both_run x i a) j
unfolding coded both_step run_step
coded_both u x i j a small = rw (ne_eqb i 65535 (λ q. omega arith))

pub coded_right : (u : Transducer) (x : State) (j : ℕ) → coded (right_alone x j (arc u j)) ≡ run_step u (right_run x) j
unfolding coded right_alone run_step
coded_right u x j = rw (none_plus (arc u j).weight)

-- What a test lets through, mapped.
map_cond : {A B : Type 0} (f : A → B) (b : Bool) (x : A) → map f (cond b (x ∷ []) []) ≡ cond b (f x ∷ []) []
map_cond f true x = refl
map_cond f false x = refl

-- A left arc that writes nothing goes alone where the filter state is 0, and not at all where it is not.
pub left_steps_alone : (u : Transducer) (x : State) (i : ℕ) (a : Arc) → a.output ≡ 0 → x.filter ≡ 0
    → map coded (left_steps u x i a) ≡ run_steps u (alone_run x i a) 1 0
unfolding left_steps
left_steps_alone u x i a e k =
    rw (eq-eqb a.output 0 e, eq-eqb x.filter 0 k, coded_left u x i 0 a, run_alone u (alone_run x i a) 0 refl)

pub left_steps_none : (u : Transducer) (x : State) (i : ℕ) (a : Arc) → a.output ≡ 0 → (x.filter ≡ 0 → ⊥) → map coded (left_steps u x i a) ≡ []
unfolding left_steps
left_steps_none u x i a e k = rw (eq-eqb a.output 0 e, ne_eqb x.filter 0 k)

-- A left arc that writes goes with each right arc that fits its output.
pub left_steps_both : (u : Transducer) (x : State) (i : ℕ) (a : Arc) → sources_stay 0 u.arcs ≡ true → (a.output ≡ 0 → ⊥) → i < 65535
    → map coded (left_steps u x i a) ≡ right_steps_of u x (both_run x i a)
unfolding left_steps
left_steps_both u x i a stay writes small =
    let lo : ℕ = arcs_below x.right u.arcs in
    let n : ℕ = arcs_below (suc x.right) u.arcs - lo in
    let f : ℕ → Arc → List (explore.Step State Origin) = λ j b. cond (fits u a.output b) (both_step i a j b ∷ []) [] in
    rw (ne_eqb a.output 0 writes)
    (ap (map coded) (each_arc_range u x.right f stay) ∙ map_from_to coded n lo (λ j. f j (arc u j))
    ∙ from_to_same n lo (λ j. map coded (f j (arc u j))) (run_arc u (both_run x i a) refl)
    (λ j p q. map_cond coded (fits u a.output (arc u j)) (both_step i a j (arc u j)) ∙ (rw (coded_both u x i j a small)))
    ∙ sym (run_range u (both_run x i a) refl n lo))

-- The right arcs that read nothing go alone.
pub right_steps_alone : (u : Transducer) (x : State) → sources_stay 0 u.arcs ≡ true
    → map coded (each_arc u x.right (right_steps x)) ≡ right_steps_of u x (right_run x)
unfolding right_steps
right_steps_alone u x stay =
    let lo : ℕ = arcs_below x.right u.arcs in
    let n : ℕ = arcs_below (suc x.right) u.arcs - lo in
    ap (map coded) (each_arc_range u x.right (right_steps x) stay) ∙ map_from_to coded n lo (λ j. right_steps x j (arc u j))
    ∙ from_to_same n lo (λ j. map coded (right_steps x j (arc u j))) (run_arc u (right_run x) refl)
    (λ j p q. map_cond coded (eqb (arc u j).input 0) (right_alone x j (arc u j)) ∙ (rw (coded_right u x j, fits_none u (arc u j))))
    ∙ sym (run_range u (right_run x) refl n lo)

-- The steps of left arc i.
unfoldable pub arc_steps : (t u : Transducer) → State → (i : ℕ) → List Step
arc_steps t u x i =
    cond (eqb (arc t i).output 0) (cond (eqb x.filter 0) (run_steps u (alone_run x i (arc t i)) 1 0) [])
    (right_steps_of u x (both_run x i (arc t i)))

-- The steps of `count` left arcs from i on, then those of the right arcs alone.
unfoldable pub runs_from : (t u : Transducer) → State → (count i : ℕ) → List Step
runs_from t u x zero i = right_steps_of u x (right_run x)
runs_from t u x (suc n) i = arc_steps t u x i ++ runs_from t u x n (suc i)

module _ (t u : Transducer) (x : State) where
  pub arc_steps_alone : (i : ℕ) → (arc t i).output ≡ 0 → x.filter ≡ 0 → arc_steps t u x i ≡ run_steps u (alone_run x i (arc t i)) 1 0
  unfolding arc_steps
  arc_steps_alone i e k = rw (eq-eqb (arc t i).output 0 e, eq-eqb x.filter 0 k)

  pub arc_steps_none : (i : ℕ) → (arc t i).output ≡ 0 → (x.filter ≡ 0 → ⊥) → arc_steps t u x i ≡ []
  unfolding arc_steps
  arc_steps_none i e k = rw (eq-eqb (arc t i).output 0 e, ne_eqb x.filter 0 k)

  pub arc_steps_both : (i : ℕ) → ((arc t i).output ≡ 0 → ⊥) → arc_steps t u x i ≡ right_steps_of u x (both_run x i (arc t i))
  unfolding arc_steps
  arc_steps_both i writes = rw (ne_eqb (arc t i).output 0 writes)

  -- An output that no right arc fits gives no step.
  pub arc_steps_unread : (i : ℕ) → ((arc t i).output ≡ 0 → ⊥)
      → ((j : ℕ) → arcs_below x.right u.arcs ≤ j → j < arcs_below (suc x.right) u.arcs → fits u (arc t i).output (arc u j) ≡ true → ⊥)
      → arc_steps t u x i ≡ []
  arc_steps_unread i writes unread =
      arc_steps_both i writes
      ∙ run_unread u (both_run x i (arc t i)) refl (arcs_below x.right u.arcs) (arcs_below (suc x.right) u.arcs)
      (arcs_below_mono x.right (suc x.right) u.arcs (omega arith)) unread

  pub runs_range : (n i : ℕ) → runs_from t u x n i ≡ from_to n i (arc_steps t u x) ++ right_steps_of u x (right_run x)
  unfolding runs_from from_to
  runs_range zero i = refl
  runs_range (suc n) i = rw (append_assoc, runs_range n (suc i))

  -- Behind the last left arc.
  pub runs_last : (last : ℕ) → runs_from t u x (last - last) last ≡ right_steps_of u x (right_run x)
  unfolding runs_from
  runs_last last = let e : last - last ≡ 0 = omega arith in rw e

  pub runs_next : (i last : ℕ) → i < last → runs_from t u x (last - i) i ≡ arc_steps t u x i ++ runs_from t u x (last - suc i) (suc i)
  unfolding runs_from
  runs_next i last l = let e : last - i ≡ suc (last - suc i) = omega arith in rw e

  module _ (stay : sources_stay 0 u.arcs ≡ true) where
    pub arc_steps_are : (i : ℕ) → i < 65535 → map coded (left_steps u x i (arc t i)) ≡ arc_steps t u x i
    arc_steps_are i small =
        by_test (eqb (arc t i).output 0)
        (λ e. let silent : (arc t i).output ≡ 0 = eqb-true (arc t i).output 0 e in
        by_test (eqb x.filter 0)
        (λ k. let free : x.filter ≡ 0 = eqb-true x.filter 0 k in
        left_steps_alone u x i (arc t i) silent free ∙ sym (arc_steps_alone i silent free))
        (λ k. let held : x.filter ≡ 0 → ⊥ = eqb-false x.filter 0 k in
        left_steps_none u x i (arc t i) silent held ∙ sym (arc_steps_none i silent held)))
        (λ e. let writes : (arc t i).output ≡ 0 → ⊥ = eqb-false (arc t i).output 0 e in
        left_steps_both u x i (arc t i) stay writes small ∙ sym (arc_steps_both i writes))

    -- The steps of a state are those of its runs.
    pub steps_runs : sources_stay 0 t.arcs ≡ true → length t.arcs ≤ 65535
        → map coded (steps t u x)
        ≡ runs_from t u x (arcs_below (suc x.left) t.arcs - arcs_below x.left t.arcs) (arcs_below x.left t.arcs)
    unfolding steps
    steps_runs left-stay few =
        let lo : ℕ = arcs_below x.left t.arcs in
        let hi : ℕ = arcs_below (suc x.left) t.arcs in
        let below : hi ≤ length t.arcs = arcs_below_length (suc x.left) t.arcs in
        let order : lo ≤ hi = arcs_below_mono x.left (suc x.left) t.arcs (omega arith) in
        let lefts : map coded (each_arc t x.left (left_steps u x)) ≡ from_to (hi - lo) lo (arc_steps t u x) =
        ap (map coded) (each_arc_range t x.left (left_steps u x) left-stay) ∙ map_from_to coded (hi - lo) lo (λ i. left_steps u x i (arc t i))
        ∙ from_to_same (hi - lo) lo (λ i. map coded (left_steps u x i (arc t i))) (arc_steps t u x) (λ i p q. arc_steps_are i (omega arith)) in
        rw (
          map-append coded (each_arc t x.left (left_steps u x)) (each_arc u x.right (right_steps x)),
          lefts,
          right_steps_alone u x stay,
          runs_range (hi - lo) lo,
        )

pub good_runs : (t u : Transducer) (x : State) → Good t → Good u
    → map coded (steps t u x)
    ≡ runs_from t u x (arcs_below (suc x.left) t.arcs - arcs_below x.left t.arcs) (arcs_below x.left t.arcs)
good_runs t u x tg ug =
    let few : length t.arcs ≤ max_arcs = (good_range t tg).arcs in
    steps_runs t u x (good_content u ug).stay (good_content t tg).stay (omega arith)
