-- The steps of a composed state as runs: where the next one begins, and its steps with keys for targets. Assumes nothing: these are definitions.
use Rattle.std.specs.Prelude.{◌≡◌, Bool, true, false, ◌||◌, cond, List, [], ◌∷◌, ℕ, zero, suc, ◌+◌, ◌-◌, ◌≤◌, ◌<◌, ltb, eqb, length}
use Rattle.transducer.specs.declared.Arc.{Arc}
use Rattle.transducer.specs.Format.{weight_good, barred, any, Transducer}
use Rattle.transducer.specs.Path.{arc}
use Rattle.transducer.specs.Each.{fits, passed}
use Rattle.transducer.specs.Accepted.{Rest}
use Rattle.transducer.specs.Weight.{no_weight, plus}
use Rattle.explore.specs.Explore as explore
use Rattle.steps.specs.declared.State.{State}
use Rattle.steps.specs.declared.Origin.{Origin}
use Rattle.steps.specs.declared.Origin.TheVariants.{Left, Right, Both}
use Rattle.steps.specs.declared.Step.{Step}
use Rattle.steps.specs.declared.Run.{Run}
use Rattle.steps.specs.declared.Begin.{Begin}
use Rattle.steps.specs.Packing.{pack, Bounded}

-- A step as the code has it: its target is a key.
unfoldable pub coded : explore.Step State Origin → Step
coded s =
    record { origin = s.origin; input = s.input; output = s.output; target = pack s.target; weight = s.weight }

-- The steps of a run: of a left arc alone, or with each of `count` right arcs from j on that fits the run's label.
unfoldable pub run_step : (right : Transducer) → Run → (j : ℕ) → Step
run_step u r j =
    cond r.alone
    (record { origin = Left r.left; input = r.input; output = 0; target = pack r.target; weight = r.weight })
    (record {
      origin = cond (eqb r.left barred) (Right j) (Both r.left j);
      input = r.input;
      output = passed r.label (arc u j);
      target = pack (record { left = r.target.left; right = (arc u j).target; filter = r.target.filter });
      weight = plus r.weight (arc u j).weight;
    })

unfoldable pub run_steps : (right : Transducer) → Run → (count j : ℕ) → List Step
run_steps u r zero j = []
run_steps u r (suc count) j =
    cond (r.alone || fits u r.label (arc u j)) (run_step u r j ∷ run_steps u r count (suc j)) (run_steps u r count (suc j))

-- The first arc from j on, among `count`, that passes a test; the arc behind them where none does.
unfoldable pub first_at : Transducer → (test : Arc → Bool) → (count j : ℕ) → ℕ
first_at u test zero j = j
first_at u test (suc count) j = cond (test (arc u j)) j (first_at u test count (suc j))

-- The first that fits a label, and the first that reads it by name.
abbrev pub fitting_from : Transducer → (label count j : ℕ) → ℕ
fitting_from u label count j = first_at u (fits u label) count j

abbrev pub reading_from : Transducer → (label count j : ℕ) → ℕ
reading_from u label count j = first_at u (λ a. eqb a.input label) count j

-- What is told in the place of one label where several may fit: one more than the greatest label.
abbrev pub several : ℕ
several = any + 1

-- Of the right arcs from `from` to below `to` none fits a label other than this one, 0 aside; from `several` on nothing is promised.
pub record FitsOnly (u : Transducer) (from to only : ℕ) : Type 0 where
  pub no_other : only < several → (label : ℕ) → (label ≡ 0 → ⊥) → (label ≡ only → ⊥) → to ≤ fitting_from u label (to - from) from

-- Where the next run with a step begins, from left arc i on, among `count` of them; the right state's arcs are `width` from `from` on.
unfoldable pub begin_from : (t u : Transducer) → (filter from width count i : ℕ) → Begin
begin_from t u filter from width zero i = record { alone = false; i = i; j = fitting_from u 0 width from }
begin_from t u filter from width (suc count) i =
    let more = begin_from t u filter from width count (suc i) in
    let label = (arc t i).output in
    let j = fitting_from u label width from in
    cond (eqb label 0) (cond (eqb filter 0) (record { alone = true; i = i; j = 0 }) more)
    (cond (ltb j (from + width)) (record { alone = false; i = i; j = j }) more)

-- The run that begins there; behind the last left arc it is that of the right arcs alone. The right part of its target is that of a left arc
-- alone, since each right arc leads to its own.
unfoldable pub run_at : (t : Transducer) → (last : ℕ) → State → Begin → Run
run_at t last x b =
    let a = arc t b.i in
    cond b.alone
    (record {
      alone = true;
      left = b.i;
      label = 0;
      input = a.input;
      target = record { left = a.target; right = x.right; filter = 0 };
      weight = a.weight;
    })
    (cond (eqb b.i last)
    (record { alone = false; left = barred; label = 0; input = 0; target = record { left = x.left; right = x.right; filter = 1 }; weight = no_weight })
    (record {
      alone = false;
      left = b.i;
      label = a.output;
      input = a.input;
      target = record { left = a.target; right = x.right; filter = 0 };
      weight = a.weight;
    }))

-- A run can be taken from right arc j to below `to`: its numbers are in range, and unless j is at the end, arc j fits and the arcs of its state
-- end at `to`.
pub record Takeable (u : Transducer) (r : Run) (j to : ℕ) : Type 0 where
  pub target_fits : Bounded r.target
  pub weight_fits : weight_good r.weight ≡ true
  pub inside : r.alone ≡ false → to ≤ length u.arcs
  pub single : r.alone ≡ true → to ≤ j + 1
  pub rest : r.alone ≡ false → j < to → Rest u (arc u j).source j to
  pub fits_here : j < to → r.alone || fits u r.label (arc u j) ≡ true

-- The parts of a composed state are states of the two transducers.
pub record InBoth (t u : Transducer) (x : State) : Type 0 where
  pub left_in : x.left < t.states
  pub right_in : x.right < u.states
