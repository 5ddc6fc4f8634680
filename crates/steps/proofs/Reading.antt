-- Laws of `first_at`, `begin_from` and `run_at`: the right arcs passed over do not fit the label, the left arcs passed over have no step,
-- and the run that begins is the next one with steps. Assumes nothing.
use mathlib.Core.Path.{◌≡◌, refl, sym, ap, ◌∙◌}
use mathlib.Core.Bool.{Bool, true, false, cond}
use mathlib.Core.List.{List, [], ◌∷◌, ◌++◌}
use Prim.Native.Nat.{ℕ, zero, suc, ◌+◌, ◌-◌, ◌≤◌, ◌<◌}
use native.Mathlib.Omega.{arith}
use lib.Dec.{eqb, ltb}
use lib.ListN.{length}
use borrow.Author.Tests.{eqb-true, eqb-false, eq-eqb, ne_eqb, ltb-true, ltb-false}
use Rattle.transducer.specs.declared.Arc.{Arc}
use Rattle.transducer.specs.Format.{max_states, Transducer, Good}
use Rattle.transducer.specs.Path.{arc}
use Rattle.transducer.specs.Accepted.{arcs_below, Rest}
use Rattle.transducer.specs.Each.{fits}
use Rattle.wire.proofs.Bool.{by_test, never, clash}
use Rattle.steps.specs.declared.Begin.{Begin}
use Rattle.steps.specs.declared.Run.{Run}
use Rattle.steps.specs.declared.State.{State}
use Rattle.steps.specs.declared.Step.{Step}
use Rattle.steps.specs.Packing.{Bounded}
use Rattle.steps.specs.Runs.{run_step, run_steps, first_at, fitting_from, begin_from, run_at, Takeable, InBoth}
use Rattle.transducer.proofs.RoundTrip.{good_range, good_content}
use Rattle.transducer.proofs.Weights.{none_good}
use Rattle.transducer.proofs.Leaving.{rest_at, state_leaving}
use Rattle.steps.proofs.RunSteps.{run_skip, alone_run, both_run, right_run, arc_steps, arc_steps_alone, arc_steps_none, arc_steps_both}
use Rattle.steps.proofs.RunSteps.{arc_steps_unread, runs_from, runs_last, runs_next}

-- first_at

module _ (u : Transducer) (test : Arc → Bool) where
  at_least : (n j : ℕ) → j ≤ first_at u test n j
  unfolding first_at
  at_least zero j = omega arith
  at_least (suc n) j =
      let more : suc j ≤ first_at u test n (suc j) = at_least n (suc j) in
      by_test (test (arc u j)) (λ e. rw e (omega arith)) (λ e. rw e (omega arith))

  at_most : (n j : ℕ) → first_at u test n j ≤ j + n
  unfolding first_at
  at_most zero j = omega arith
  at_most (suc n) j =
      let more : first_at u test n (suc j) ≤ suc j + n = at_most n (suc j) in
      by_test (test (arc u j)) (λ e. rw e (omega arith)) (λ e. rw e (omega arith))

  at_passes : (n j : ℕ) → first_at u test n j < j + n → test (arc u (first_at u test n j)) ≡ true
  unfolding first_at
  at_passes zero j h = absurd (omega arith)
  at_passes (suc n) j h =
      by_test (test (arc u j)) (λ e. rw e e)
      (λ e. let less : first_at u test n (suc j) < j + suc n = rw e at h in rw e (at_passes n (suc j) (omega arith)))

  at_before : (n j m : ℕ) → j ≤ m → m < first_at u test n j → test (arc u m) ≡ true → ⊥
  unfolding first_at
  at_before zero j m l h is = omega arith
  at_before (suc n) j m l h is =
      by_test (test (arc u j))
      (λ e. let less : m < j = rw e at h in omega arith)
      (λ e. let less : m < first_at u test n (suc j) = rw e at h in
      by_test (eqb m j)
      (λ k. let same : m ≡ j = eqb-true m j k in clash (rw same at is) e)
      (λ k. let other : m ≡ j → ⊥ = eqb-false m j k in at_before n (suc j) m (omega arith) less is))

  -- Right arc k is the first from j on, below `to`, that passes the test, or k is `to`.
  pub record FirstPassing (j to k : ℕ) : Type 0 where
    pub least : j ≤ k
    pub most : k ≤ to
    pub passes : k < to → test (arc u k) ≡ true
    pub before : (m : ℕ) → j ≤ m → m < k → test (arc u m) ≡ true → ⊥

  pub first_is : (j to : ℕ) → j ≤ to → FirstPassing j to (first_at u test (to - j) j)
  first_is j to l =
      let k : ℕ = first_at u test (to - j) j in
      let most : k ≤ j + (to - j) = at_most (to - j) j in
      record {
        least = at_least (to - j) j;
        most = omega arith;
        passes = λ h. at_passes (to - j) j (omega arith);
        before = at_before (to - j) j;
      }

  pub first_unique : (j to k : ℕ) → j ≤ to → FirstPassing j to k → k ≡ first_at u test (to - j) j
  first_unique j to k l f =
      let r : ℕ = first_at u test (to - j) j in
      let g : FirstPassing j to r = first_is j to l in
      by_test (ltb k r)
      (λ e. let h : k < r = ltb-true k r e in absurd (g.before k f.least h (f.passes (omega (arith, g.most)))))
      (λ e. by_test (ltb r k)
      (λ d. let h : r < k = ltb-true r k d in absurd (f.before r g.least h (g.passes (omega (arith, f.most)))))
      (λ d. omega (arith, ltb-false k r e, ltb-false r k d)))

-- Two tests with the same answers on some arcs have the same first of them.
pub first_at_within : (u : Transducer) (test test' : Arc → Bool) (n j : ℕ) → ((i : ℕ) → j ≤ i → i < j + n → test (arc u i) ≡ test' (arc u i))
    → first_at u test n j ≡ first_at u test' n j
unfolding first_at
first_at_within u test test' zero j same = refl
first_at_within u test test' (suc n) j same =
    rw (same j (omega arith) (omega arith), first_at_within u test test' n (suc j) (λ i p h. same i (omega arith) (omega arith)))

-- One step of a run

module _ (u : Transducer) (r : Run) where
  -- A run that is ready has a step.
  pub first_step : (j to : ℕ) → Takeable u r j to → j < to → run_steps u r (to - j) j ≡ run_step u r j ∷ run_steps u r (to - suc j) (suc j)
  unfolding run_steps
  first_step j to ready l = let e : to - j ≡ suc (to - suc j) = omega arith in rw (e, ready.fits_here l)

  -- The next step is with right arc k, and the run can be taken from there.
  pub record NextStep (j to k : ℕ) : Type 0 where
    pub past : j < k
    pub ready : Takeable u r k to
    pub are : run_steps u r (to - j) j ≡ run_step u r j ∷ run_steps u r (to - k) k

  -- A run alone is at its end after one step.
  pub next_alone : (j to : ℕ) → Takeable u r j to → j < to → r.alone ≡ true → NextStep j to to
  next_alone j to ready l e =
      let short : to ≤ j + 1 = ready.single e in
      let same : to ≡ suc j = omega arith in
      record {
        past = l;
        ready =
            record {
              target_fits = ready.target_fits;
              weight_fits = ready.weight_fits;
              inside = ready.inside;
              single = λ h. omega arith;
              rest = λ h k. absurd (omega arith);
              fits_here = λ h. absurd (omega arith);
            };
        are = rw same (first_step j (suc j) (rw same at ready) (omega arith));
      }

  -- Any other goes on with the next right arc that fits its label.
  pub next_together : (j to k : ℕ) → Takeable u r j to → j < to → r.alone ≡ false → k ≡ fitting_from u r.label (to - suc j) (suc j)
      → NextStep j to k
  next_together j to k ready l e is =
      let first : FirstPassing u (fits u r.label) (suc j) to k = rw is (first_is u (fits u r.label) (suc j) to l) in
      let skip : run_steps u r (to - suc j) (suc j) ≡ run_steps u r (to - k) k =
      run_skip u r e (suc j) k to first.least first.most first.before in
      record {
        past = first.least;
        ready =
            record {
              target_fits = ready.target_fits;
              weight_fits = ready.weight_fits;
              inside = ready.inside;
              single = λ h. never (rw e at h);
              rest = λ h m. rest_at k (ready.rest e l) (omega (arith, first.least)) m;
              fits_here = λ h. rw e (first.passes h);
            };
        are = first_step j to ready l ∙ ap (λ (ss : List Step). run_step u r j ∷ ss) skip;
      }

-- The next run

-- Where the arcs of the right state begin and end.
abbrev pub right_from : Transducer → State → ℕ
right_from u x = arcs_below x.right u.arcs

abbrev pub right_to : Transducer → State → ℕ
right_to u x = arcs_below (suc x.right) u.arcs

-- The run r that begins at b is the next one from left arc i on: what is left are its steps, and then those behind left arc b .i.
pub record RunHere (t u : Transducer) (x : State) (i last to : ℕ) (b : Begin) (r : Run) : Type 0 where
  pub at_least : i ≤ b.i
  pub at_most : b.i ≤ last
  pub alone_before : b.alone ≡ true → b.i < last
  pub ready : Takeable u r b.j (cond b.alone 1 to)
  pub are_more : b.i < last
      → runs_from t u x (last - i) i
      ≡ run_steps u r (cond b.alone 1 to - b.j) b.j ++ runs_from t u x (last - suc b.i) (suc b.i)
  pub are_last : b.i ≡ last → runs_from t u x (last - i) i ≡ run_steps u r (cond b.alone 1 to - b.j) b.j

-- A left arc with no step is passed over.
here_skip : (t u : Transducer) (x : State) (i last to : ℕ) (b : Begin) (r : Run) → i < last → arc_steps t u x i ≡ []
    → RunHere t u x (suc i) last to b r → RunHere t u x i last to b r
here_skip t u x i last to b r l none h =
    let e : runs_from t u x (last - i) i ≡ runs_from t u x (last - suc i) (suc i) =
    runs_next t u x i last l ∙ ap (λ (ss : List Step). ss ++ runs_from t u x (last - suc i) (suc i)) none in
    record {
      at_least = omega (arith, h.at_least);
      at_most = h.at_most;
      alone_before = h.alone_before;
      ready = h.ready;
      are_more = λ p. e ∙ h.are_more p;
      are_last = λ p. e ∙ h.are_last p;
    }

module _ (t u : Transducer) (tg : Good t) (ug : Good u) (x : State) (inside : InBoth t u x) where
  right_rest : Rest u x.right (right_from u x) (right_to u x)
  right_rest = (state_leaving u x.right ug).rest

  right_inside : right_to u x ≤ length u.arcs
  right_inside = right_rest.within

  right_order : right_from u x ≤ right_to u x
  right_order = right_rest.order

  -- A left state and either filter state, with the right state at hand, can be packed.
  packs : (p filter : ℕ) → p < t.states → filter < 2 → Bounded (record { left = p; right = x.right; filter = filter })
  packs p filter l f =
      let few : t.states ≤ max_states = (good_range t tg).states in
      let many : u.states ≤ max_states = (good_range u ug).states in
      record { left = omega arith; right = omega (arith, inside.right_in); filter = f }

  -- Behind the last left arc: the right arcs alone.
  here_right : (last : ℕ)
      → RunHere t u x last last (right_to u x) (record { alone = false; i = last; j = fitting_from u 0 (right_to u x - right_from u x) (right_from u x) })
      (right_run x)
  here_right last =
      let j : ℕ = fitting_from u 0 (right_to u x - right_from u x) (right_from u x) in
      let first : FirstPassing u (fits u 0) (right_from u x) (right_to u x) j = first_is u (fits u 0) (right_from u x) (right_to u x) right_order in
      record {
        at_least = omega arith;
        at_most = omega arith;
        alone_before = λ h. never h;
        ready =
            record {
              target_fits = packs x.left 1 inside.left_in (omega arith);
              weight_fits = none_good;
              inside = λ h. right_inside;
              single = λ h. never h;
              rest = λ h m. rest_at j right_rest first.least m;
              fits_here = first.passes;
            };
        are_more = λ h. absurd (omega arith);
        are_last = λ h.
            runs_last t u x last ∙ run_skip u (right_run x) refl (right_from u x) j (right_to u x) first.least first.most first.before;
      }

  -- A left arc that writes nothing, where the filter state allows it.
  here_alone : (i last : ℕ) → i < last → last ≤ length t.arcs → (arc t i).output ≡ 0 → x.filter ≡ 0
      → RunHere t u x i last (right_to u x) (record { alone = true; i = i; j = 0 }) (alone_run x i (arc t i))
  here_alone i last l within silent free =
      record {
        at_least = omega arith;
        at_most = omega arith;
        alone_before = λ h. l;
        ready =
            record {
              target_fits = packs (arc t i).target 0 ((good_content t tg).target i (omega arith)) (omega arith);
              weight_fits = (good_content t tg).weight i (omega arith);
              inside = λ h. never (sym h);
              single = λ h. omega arith;
              rest = λ h. never (sym h);
              fits_here = λ h. refl;
            };
        are_more = λ h.
            runs_next t u x i last l
            ∙ ap (λ (ss : List Step). ss ++ runs_from t u x (last - suc i) (suc i)) (arc_steps_alone t u x i silent free);
        are_last = λ h. absurd (omega arith);
      }

  -- A left arc whose output some right arc fits.
  here_both : (i last : ℕ) → i < last → last ≤ length t.arcs → ((arc t i).output ≡ 0 → ⊥)
      → RunHere t u x i last (right_to u x)
      (record { alone = false; i = i; j = fitting_from u (arc t i).output (right_to u x - right_from u x) (right_from u x) })
      (both_run x i (arc t i))
  here_both i last l within writes =
      let label : ℕ = (arc t i).output in
      let j : ℕ = fitting_from u label (right_to u x - right_from u x) (right_from u x) in
      let first : FirstPassing u (fits u label) (right_from u x) (right_to u x) j = first_is u (fits u label) (right_from u x) (right_to u x) right_order in
      record {
        at_least = omega arith;
        at_most = omega arith;
        alone_before = λ h. never h;
        ready =
            record {
              target_fits = packs (arc t i).target 0 ((good_content t tg).target i (omega arith)) (omega arith);
              weight_fits = (good_content t tg).weight i (omega arith);
              inside = λ h. right_inside;
              single = λ h. never h;
              rest = λ h m. rest_at j right_rest first.least m;
              fits_here = first.passes;
            };
        are_more = λ h.
            runs_next t u x i last l
            ∙ ap (λ (ss : List Step). ss ++ runs_from t u x (last - suc i) (suc i))
            (arc_steps_both t u x i writes
            ∙ run_skip u (both_run x i (arc t i)) refl (right_from u x) j (right_to u x) first.least first.most first.before);
        are_last = λ h. absurd (omega arith);
      }

  -- The runs at each kind of begin.
  run_at_right : (last j : ℕ) → run_at t last x (record { alone = false; i = last; j = j }) ≡ right_run x
  unfolding run_at
  run_at_right last j = rw (eq-eqb last last refl)

  run_at_alone : (i last j : ℕ) → run_at t last x (record { alone = true; i = i; j = j }) ≡ alone_run x i (arc t i)
  unfolding run_at
  run_at_alone i last j = refl

  run_at_both : (i last j : ℕ) → i < last → run_at t last x (record { alone = false; i = i; j = j }) ≡ both_run x i (arc t i)
  unfolding run_at
  run_at_both i last j l = rw (ne_eqb i last (λ e. omega arith))

  begin_here : (n i last : ℕ) → i + n ≡ last → last ≤ length t.arcs
      → RunHere t u x i last (right_to u x) (begin_from t u x.filter (right_from u x) (right_to u x - right_from u x) n i)
      (run_at t last x (begin_from t u x.filter (right_from u x) (right_to u x - right_from u x) n i))
  unfolding begin_from
  begin_here zero i last e within =
      let same : i ≡ last = omega arith in
      rw (same, run_at_right last (fitting_from u 0 (right_to u x - right_from u x) (right_from u x))) (here_right last)
  begin_here (suc n) i last e within =
      let l : i < last = omega arith in
      let label : ℕ = (arc t i).output in
      let width : ℕ = right_to u x - right_from u x in
      let j : ℕ = fitting_from u label width (right_from u x) in
      let more = begin_here n (suc i) last (omega arith) within in
      let b : Begin = begin_from t u x.filter (right_from u x) width n (suc i) in
      by_test (eqb label 0)
      (λ z. by_test (eqb x.filter 0)
      (λ f. rw (z, f, run_at_alone i last 0) (here_alone i last l within (eqb-true label 0 z) (eqb-true x.filter 0 f)))
      (λ f. rw (z, f)
      (here_skip t u x i last (right_to u x) b (run_at t last x b) l
      (arc_steps_none t u x i (eqb-true label 0 z) (eqb-false x.filter 0 f)) more)))
      (λ z. let writes : label ≡ 0 → ⊥ = eqb-false label 0 z in
      by_test (ltb j (right_from u x + width))
      (λ h. rw (z, h, run_at_both i last j l) (here_both i last l within writes))
      (λ h. let none : right_from u x + width ≤ j = ltb-false j (right_from u x + width) h in
      let first : FirstPassing u (fits u label) (right_from u x) (right_to u x) j = first_is u (fits u label) (right_from u x) (right_to u x) right_order in
      rw (z, h)
      (here_skip t u x i last (right_to u x) b (run_at t last x b) l
      (arc_steps_unread t u x i writes (λ m p q. first.before m p (omega arith))) more)))

-- The same in the words of the code.
pub next_run_here : (t u : Transducer) (x : State) (i last to : ℕ) (b : Begin) (r : Run) → Good t → Good u → InBoth t u x → to ≡ right_to u x
    → i ≤ last → last ≤ length t.arcs
    → b ≡ begin_from t u x.filter (right_from u x) (to - right_from u x) (last - i) i → r ≡ run_at t last x b → RunHere t u x i last to b r
next_run_here t u x i last to b r tg ug inside to_is l within b-is r_is =
    rw (r_is, b-is, to_is) (begin_here t u tg ug x inside (last - i) i last (omega arith) within)
