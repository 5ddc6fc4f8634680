-- Where a cycle below zero lies on an accepting path there is no least cost: gone round often enough it takes a path below any given cost. Assumes nothing.
use mathlib.Core.Path.{◌≡◌}
use mathlib.Core.Bool.{true}
use mathlib.Core.List.{List, ◌++◌}
use Prim.Native.Nat.{ℕ, zero, suc, ◌+◌}
use native.Mathlib.Omega.{arith}
use Rattle.transducer.specs.Format.{Transducer}
use Rattle.transducer.specs.Path.{ends, arcs_cost, accepts, path_cost}
use Rattle.transducer.specs.Weight.{Weight, amount, plus, AtMost, Below, magnitude}
use Rattle.transducer.proofs.Weights.{sums, sum, magnitude_is}
use Rattle.transducer.proofs.Runs.{Accepting, append_accepting, accepting_accepts}
use Rattle.cycles.specs.Costs.{cost_from}
use Rattle.cycles.proofs.Costs.{cost_start, cost_append, cost_round}
use Rattle.cycles.specs.Cycles.{NegativeCycleFrom, negative_cycle}
use Rattle.cycles.proofs.Cycles.{negative_cycle_rest}
use Rattle.cycles.proofs.NegativeCycles.{true_falling}

-- k rounds cost at least k less.
record Rounds (t : Transducer) (u : ℕ) (first : Weight) (k : ℕ) : Type 0 where
  path : List ℕ
  accepting : Accepting t u path
  low : AtMost (plus (cost_from t u path) (amount k)) first

rounds : (t : Transducer) (s : ℕ) (f : NegativeCycleFrom t s) (k : ℕ) → Rounds t (ends t s f.lead) (cost_from t (ends t s f.lead) f.rest) k
rounds t s f zero = record { path = f.rest; accepting = negative_cycle_rest t s f; low = omega (arith, sums) }
rounds t s f (suc k) =
    let u : ℕ = ends t s f.lead in
    let r = rounds t s f k in
    let low : AtMost (plus (cost_from t u r.path) (amount k)) (cost_from t u f.rest) = r.low in
    record {
      path = f.cycle ++ r.path;
      accepting = append_accepting t u f.cycle r.path f.around (rw f.back r.accepting);
      low =
          rw (cost_round t u f.cycle r.path f.back)
          (omega (arith, sums, sum (arcs_cost t f.cycle) (cost_from t u r.path), low, f.sum));
    }

pub no_least : (t : Transducer) (s : ℕ) → NegativeCycleFrom t s → (x : Weight) → (p : List ℕ) × Accepting t s p × Below (cost_from t s p) x
no_least t s f x =
    let u : ℕ = ends t s f.lead in
    let a : Weight = arcs_cost t f.lead in
    let first : Weight = cost_from t u f.rest in
    let k : ℕ = magnitude a + magnitude first + magnitude x + 1 in
    let r : Rounds t u first k = rounds t s f k in
    let p : List ℕ = f.lead ++ r.path in (
      p,
      append_accepting t s f.lead r.path f.there r.accepting,
      rw (cost_append t s f.lead r.path)
          (omega (arith, sums, r.low, sum a (cost_from t u r.path), magnitude_is a, magnitude_is first, magnitude_is x)),
    )

-- So where 19 is given no accepting path has the least cost.
pub negative_cycle_no_least : (t : Transducer) → negative_cycle t ≡ true → (x : Weight) → (p : List ℕ) × (accepts t p ≡ true) × Below (path_cost t p) x
negative_cycle_no_least t h x =
    let r = no_least t t.start (true_falling t h) x in
    (r.0, accepting_accepts t r.0 r.1, rw (cost_start t r.0) at r.2)
