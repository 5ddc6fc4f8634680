-- Where the paths in two runs of bytes are of one kind, they stand one to one, the counts are the same and so are the least costs. Assumes nothing.
use mathlib.Core.Path.{◌≡◌, sym, ◌∙◌}
use mathlib.Core.Bool.{true}
use mathlib.Core.List.{List}
use Prim.Native.Nat.{ℕ}
use native.Mathlib.Omega.{arith}
use lib.Dec.{eqb}
use lib.ListN.{length}
use borrow.Author.Tests.{eqb-true, eqb-false}
use Rattle.wire.proofs.Bool.{by_test}
use Rattle.transducer.specs.Format.{Transducer, Good, refusal, decode}
use Rattle.transducer.specs.Path.{accepts, path_cost}
use Rattle.transducer.specs.Weight.{Weight, no_weight}
use Rattle.transducer.proofs.Weights.{most_both}
use Rattle.transducer.proofs.Answers.{unless_some, cost_unless_some}
use Rattle.transducer.proofs.Runs.{good_within}
use Rattle.compose.specs.Claim.{Least}
use Rattle.paths.specs.Answer.{Counted}
use Rattle.paths.specs.Count.{path_count}
use Rattle.paths.specs.Entry.{count_refusal}
use Rattle.paths.specs.Calls.{Counting}
use Rattle.shortest.specs.Shortest.{shortest}
use Rattle.shortest.specs.Entry.{shortest_refusal}
use Rattle.shortest.specs.Claim.{ShortestPath}
use Rattle.claim.specs.Kind.{Kind, StandsFor, PathsAre, Counts}
use Rattle.claim.specs.Agree.{Nothing, NoLeast, TellsLeast, Holds, Alike, ExactlyOne, Agree}
use Rattle.claim.proofs.Counting.{counts}
use Rattle.claim.proofs.Least.{tells_least}

-- Paths, one to one.
over : (K : Kind) (z z' : Transducer) (to to' : List ℕ → K.Thing) → PathsAre K z to → PathsAre K z' to' → (p : List ℕ) → accepts z p ≡ true
    → ExactlyOne (Alike K z z' to to' p)
over K z z' to to' here there p h =
    let s : StandsFor K z p (to p) = here.leads p h in
    let r = there.every (to p) s.is in
    let s' : StandsFor K z' r.0 (to p) = rw r.2 at (there.leads r.0 r.1) in
    record {
      one = r.0;
      holds =
          record {
            accepting = r.1;
            same_thing = r.2;
            same_input = s'.reads ∙ sym s.reads;
            same_output = s'.writes ∙ sym s.writes;
            same_cost = s'.costs ∙ sym s.costs;
          };
      only = λ q l. there.never_two q r.0 l.accepting r.1 (l.same_thing ∙ sym r.2);
    }

-- The count

-- A refusal leaves 0 for the other numbers of an answer.
refused_count : {bs : List ℕ} (m : Counting bs) → (m.answer.refusal ≡ 0 → ⊥) → m.answer.count ≡ 0
refused_count {bs} m bad = m.says.count_is ∙ unless_some (count_refusal bs) (path_count (decode bs)) (λ e. bad (m.says.refusal_is ∙ e))

same_answer : (m n : Counted) → m.refusal ≡ n.refusal → m.count ≡ n.count → m ≡ n
same_answer m n r c = λ i. record { refusal = r i; count = c i }

same_counts : (K : Kind) {bs bs' : List ℕ} (m : Counting bs) (n : Counting bs') → Counts K m.answer → Counts K n.answer → m.answer ≡ n.answer
same_counts K m n here there =
    by_test (eqb m.answer.refusal 14) (λ e. endless (eqb-true m.answer.refusal 14 e)) (λ e. finite (eqb-false m.answer.refusal 14 e))
  where
    endless : m.answer.refusal ≡ 14 → m.answer ≡ n.answer
    endless e =
        let f : n.answer.refusal ≡ 14 = there.endless.1 (here.endless.0 e) in
        same_answer m.answer n.answer (e ∙ sym f) (refused_count m (λ z. omega arith) ∙ sym (refused_count n (λ z. omega arith)))

    finite : (m.answer.refusal ≡ 14 → ⊥) → m.answer ≡ n.answer
    finite bad =
        let l = here.finite (λ many. bad (here.endless.1 many)) in
        let x = here.number l.0 l.1 in
        let y = there.number l.0 l.1 in
        same_answer m.answer n.answer (x.0 ∙ sym y.0) (x.1 ∙ sym y.1)

-- The least cost

refused_cost : {bs : List ℕ} (m : ShortestPath bs) → (m.answer.refusal ≡ 0 → ⊥) → m.answer.cost ≡ no_weight
refused_cost {bs} m bad =
    m.says.cost_is
    ∙ cost_unless_some (shortest_refusal bs (length m.arcs) (length m.labels)) (path_cost (decode bs) (shortest (decode bs)))
    (λ e. bad (m.says.refusal_is ∙ e))

one_least : {X : Type 0} (P : X → Type 0) (cost : X → Weight) (c d : Weight) → Least X P cost c → Least X P cost d → c ≡ d
one_least P cost c d x y =
    most_both c d (rw y.costs at (x.least y.best y.holds)) (rw x.costs at (y.least x.best x.holds))

same_costs : (K : Kind) {bs bs' : List ℕ} (m : ShortestPath bs) (n : ShortestPath bs') → TellsLeast K m.answer → TellsLeast K n.answer
    → (m.answer.refusal ≡ n.answer.refusal) × (m.answer.cost ≡ n.answer.cost)
same_costs K m n here there =
    by_test (eqb m.answer.refusal 16) (λ e. none (eqb-true m.answer.refusal 16 e))
    (λ e.
    by_test (eqb m.answer.refusal 19) (λ f. endless (eqb-true m.answer.refusal 19 f))
    (λ f. some (eqb-false m.answer.refusal 16 e) (eqb-false m.answer.refusal 19 f)))
  where
    -- Refused by the same number on both sides.
    refused : (k : ℕ) → (k ≡ 0 → ⊥) → m.answer.refusal ≡ k → n.answer.refusal ≡ k
        → (m.answer.refusal ≡ n.answer.refusal) × (m.answer.cost ≡ n.answer.cost)
    refused k bad e f = (e ∙ sym f, refused_cost m (λ z. bad (sym e ∙ z)) ∙ sym (refused_cost n (λ z. bad (sym f ∙ z))))

    none : m.answer.refusal ≡ 16 → (m.answer.refusal ≡ n.answer.refusal) × (m.answer.cost ≡ n.answer.cost)
    none e = refused 16 (λ z. omega arith) e (there.none.1 (here.none.0 e))

    endless : m.answer.refusal ≡ 19 → (m.answer.refusal ≡ n.answer.refusal) × (m.answer.cost ≡ n.answer.cost)
    endless e = refused 19 (λ z. omega arith) e (there.endless.1 (here.endless.0 e))

    some : (m.answer.refusal ≡ 16 → ⊥) → (m.answer.refusal ≡ 19 → ⊥)
        → (m.answer.refusal ≡ n.answer.refusal) × (m.answer.cost ≡ n.answer.cost)
    some bad worse =
        let thing : Nothing K → ⊥ = λ h. bad (here.none.1 h) in
        let bound : NoLeast K → ⊥ = λ h. worse (here.endless.1 h) in
        let x = here.some thing bound in
        let y = there.some thing bound in
        (x.0 ∙ sym y.0, one_least K.Is K.cost m.answer.cost n.answer.cost x.1 y.1)

-- Together

pub holds : (K : Kind) (bs : List ℕ) (to : List ℕ → K.Thing) → refusal bs ≡ 0 → Good (decode bs) → PathsAre K (decode bs) to → Holds K bs to
holds K bs to ok good are =
    record {
      paths = are;
      counts = λ n. counts K bs to ok (good_within (decode bs) good) are n.answer n.says;
      least = λ n. tells_least K bs to ok (good_within (decode bs) good) are n;
    }

pub agree : (K : Kind) (bs bs' : List ℕ) (to to' : List ℕ → K.Thing) → Holds K bs to → Holds K bs' to' → Agree K bs bs' to to'
agree K bs bs' to to' here there =
    record {
      left_holds = here;
      right_holds = there;
      one_to_one =
          record {
            over = over K (decode bs) (decode bs') to to' here.paths there.paths;
            back = over K (decode bs') (decode bs) to' to there.paths here.paths;
          };
      same_count = λ m n. same_counts K m n (here.counts m) (there.counts n);
      same_least = λ m n. same_costs K m n (here.least m) (there.least n);
    }
