-- The shortest path and the costs to come agree, from the contracts of both calls (paper 02, Point 2). Assumes nothing.
use mathlib.Core.Path.{◌≡◌, refl, sym, ◌∙◌}
use mathlib.Core.Bool.{Bool, true, false, ◌||◌, not, cond}
use mathlib.Core.List.{List}
use Prim.Native.Nat.{ℕ}
use native.Mathlib.Omega.{arith}
use lib.Dec.{ltb}
use lib.ListN.{length}
use Rattle.wire.specs.Bytes.{Bytes}
use Rattle.wire.proofs.Bool.{clash, not_raised, passed}
use Rattle.transducer.proofs.Weights.{sums}
use Rattle.transducer.specs.Format.{Transducer, max_path, max_states, refusal, decode}
use Rattle.transducer.specs.Path.{path_cost}
use Rattle.transducer.specs.Weight.{Weight, AtMost}
use Rattle.transducer.proofs.Answers.{or_else_none, none_or_else, cost_unless_none}
use Rattle.transducer.proofs.Runs.{Accepting, accepts_accepting, accepting_accepts}
use Rattle.reach.specs.Reach.{coaccessible}
use Rattle.reach.proofs.Reach.{coaccessible_path, path_coaccessible}
use Rattle.report.specs.Answer.{Told}
use Rattle.reach.proofs.Sized.{Sized, sized}
use Rattle.cycles.specs.Cycles.{negative_cycle, negative_cycle_anywhere}
use Rattle.cycles.proofs.Costs.{cost_start}
use Rattle.cycles.proofs.NegativeCycles.{negative_cycle_some}
use Rattle.distance.specs.Distance.{no_path, least_to_come}
use Rattle.relax.specs.Tentative.{cost_at}
use Rattle.distance.specs.Entry.{costs_refusal, CostsSay}
use Rattle.distance.specs.Claim.{LeastFrom, CellClaim}
use Rattle.distance.proofs.ToCome.{cell_claimed}
use Rattle.distance.proofs.Claimed.{cell_is}
use Rattle.shortest.specs.Shortest.{shortest}
use Rattle.shortest.specs.Entry.{shortest_refusal, ShortestSays}
use Rattle.shortest.specs.Agree.{BothAnswered, Agrees, BothAgree}
use Rattle.shortest.proofs.Cheapest.{shortest_accepts, shortest_least}

-- The start's cell is the cost of the shortest path where there is one.
module _ (t : Transducer) (z : Sized t) (rises : negative_cycle_anywhere t ≡ false) where
  abbrev s : ℕ
  s = t.start

  cell : CellClaim t s (least_to_come t s)
  cell = cell_claimed t z rises s

  start_none : coaccessible t.states t s ≡ false → least_to_come t s ≡ no_path
  start_none h = cell.none.1 (λ p a. clash (path_coaccessible t z.within s p (record { goes = a.goes; final = a.final })) h)

  start_least : coaccessible t.states t s ≡ true → negative_cycle t ≡ false → least_to_come t s ≡ path_cost t (shortest t)
  start_least h f =
      let found = coaccessible_path t.states t s h in
      let a = shortest_accepts t z.within f found.0 (accepting_accepts t found.0 found.1) in
      let b : Accepting t s (shortest t) = accepts_accepting t (shortest t) a in
      let some : (least_to_come t s ≡ no_path → ⊥) = λ e. cell.none.0 e (shortest t) (record { goes = b.goes; final = b.final }) in
      let l : LeastFrom t s (least_to_come t s) = cell.some some in
      let c : Accepting t s l.path = record { goes = l.leads.goes; final = l.leads.final } in
      let low : AtMost (least_to_come t s) (path_cost t (shortest t)) =
      rw (cost_start t (shortest t)) at (l.least (shortest t) (record { goes = b.goes; final = b.final })) in
      let cost : path_cost t l.path ≡ least_to_come t s = sym (cost_start t l.path) ∙ l.costs in
      let high : AtMost (path_cost t (shortest t)) (path_cost t l.path) =
      shortest_least t z.within f l.path (accepting_accepts t l.path c) in
      omega (arith, sums, low, high, cost)

-- The last three tests of the shortest path's refusals, by the number.
abbrev last_three : (short some falls : Bool) → ℕ
last_three short some falls = cond short 10 (cond (not some) 16 (cond falls 19 0))

is_16 : (short some falls : Bool) → last_three short some falls ≡ 16 → some ≡ false
is_16 false false falls h = refl
is_16 false true true h = absurd (omega arith)
is_16 false true false h = absurd (omega arith)
is_16 true some falls h = absurd (omega arith)

is_19 : (short some falls : Bool) → last_three short some falls ≡ 19 → falls ≡ true
is_19 false some true h = refl
is_19 false false false h = absurd (omega arith)
is_19 false true false h = absurd (omega arith)
is_19 true some falls h = absurd (omega arith)

is_0 : (short some falls : Bool) → last_three short some falls ≡ 0 → (some ≡ true) × (falls ≡ false)
is_0 short some falls h =
    let one = not_raised short 9 (cond (not some) 16 (cond falls 19 0)) h in
    let two = passed some 15 (cond falls 19 0) one.1 in
    (two.0, (not_raised falls 18 0 two.1).0)

module _ (bs : List ℕ) (bytes : Bytes bs) (r : Told) (a a' b b' : List ℕ) (number : ℕ) (c c' : List Weight)
    (path : ShortestSays bs (shortest_refusal bs (length a) (length b)) r a a' b b') (costs : CostsSay bs (costs_refusal bs (length c)) number c c') where
  abbrev t : Transducer
  t = decode bs

  abbrev accepting : Bool
  accepting = coaccessible t.states t t.start

  abbrev short : Bool
  short = ltb (length a) max_path || ltb (length b) max_path

  module _ (none : number ≡ 0) where
    both : (refusal bs ≡ 0) × (negative_cycle_anywhere t ≡ false)
    unfolding costs_refusal
    both =
        let rest : ℕ = cond (ltb (length c) max_states) 10 (cond (negative_cycle_anywhere t) 19 0) in
        let e = or_else_none (refusal bs) rest (sym costs.refusal_is ∙ none) in
        let f = not_raised (ltb (length c) max_states) 9 (cond (negative_cycle_anywhere t) 19 0) e.1 in
        (e.0, (not_raised (negative_cycle_anywhere t) 18 0 f.1).0)

    size : Sized t
    size = sized bs bytes both.0

    refused_is : r.refusal ≡ last_three short accepting (negative_cycle t)
    unfolding shortest_refusal
    refused_is = path.refusal_is ∙ none_or_else (refusal bs) (last_three short accepting (negative_cycle t)) both.0

    is_least : cost_at c' t.start ≡ least_to_come t t.start
    is_least = cell_is bs (costs_refusal bs (length c)) number c c' costs none t.start (omega (arith, size.within.starts, size.states))

    same_cost : r.refusal ≡ 0 → cost_at c' t.start ≡ r.cost
    same_cost h =
        let known = is_0 short accepting (negative_cycle t) (sym refused_is ∙ h) in
        let told : r.cost ≡ path_cost t (shortest t) =
        path.cost_is ∙ cost_unless_none (shortest_refusal bs (length a) (length b)) (path_cost t (shortest t)) (sym path.refusal_is ∙ h) in
        is_least ∙ (start_least t size both.1 known.0 known.1 ∙ sym told)

    same_none : r.refusal ≡ 16 → cost_at c' t.start ≡ no_path
    same_none h = is_least ∙ start_none t size both.1 (is_16 short accepting (negative_cycle t) (sym refused_is ∙ h))

    same_rises : r.refusal ≡ 19 → ⊥
    same_rises h = clash (negative_cycle_some t size.within (is_19 short accepting (negative_cycle t) (sym refused_is ∙ h))) both.1

  agrees : Agrees t r number c'
  agrees = record { cost = same_cost; none = same_none; rises = same_rises }

pub both_agree : {table : List ℕ} (x : BothAnswered table) → BothAgree x
both_agree {table} x =
    agrees table x.bytes x.path x.arcs x.arcs_left x.labels x.labels_left x.costs x.cells x.cells_left x.path_says
    x.costs_say
