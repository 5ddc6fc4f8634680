-- What is claimed of the shortest path (specs/Claim.antt) holds of every answer that its contract allows. Assumes nothing.
use mathlib.Core.Path.{◌≡◌, refl, sym, ap, ◌∙◌}
use mathlib.Core.Bool.{Bool, true, false, ◌||◌, not, cond}
use mathlib.Core.Logic.{◌↔◌}
use mathlib.Core.List.{List}
use Prim.Native.Nat.{ℕ, ◌≤◌}
use native.Mathlib.Omega.{arith}
use lib.Dec.{ltb}
use lib.ListN.{length}
use borrow.Author.Tests.{le-ltb}
use Rattle.wire.proofs.Bool.{by_test, clash}
use Rattle.transducer.proofs.Weights.{sums}
use Rattle.wire.proofs.Places.{take_told}
use Rattle.transducer.specs.Format.{max_path, Transducer, refusal, decode}
use Rattle.transducer.specs.Path.{accepts, written_by, path_cost}
use Rattle.transducer.specs.Entry.{unless, cost_unless, left_in}
use Rattle.transducer.specs.Weight.{no_weight}
use Rattle.transducer.proofs.Answers.{none_or_else, unless_none, cost_unless_none, left_in_none}
use Rattle.transducer.proofs.RoundTrip.{accepted_good}
use Rattle.transducer.proofs.Runs.{Within, good_within, accepting_accepts}
use Rattle.reach.specs.Reach.{coaccessible}
use Rattle.reach.proofs.Reach.{coaccessible_path}
use Rattle.report.specs.Answer.{Told}
use Rattle.cycles.specs.Cycles.{NegativeCycleFrom, negative_cycle}
use Rattle.cycles.proofs.Cycles.{negative_cycle_accepting}
use Rattle.cycles.proofs.NegativeCycles.{negative_cycle_true, true_falling}
use Rattle.cycles.proofs.NoLeast.{negative_cycle_no_least}
use Rattle.shortest.specs.Shortest.{shortest}
use Rattle.shortest.specs.Entry.{shortest_refusal, ShortestSays}
use Rattle.shortest.specs.Claim.{ShortestPath, Answered, NoLeastCost, BestOfAll, TellsPath, ShortestClaim}
use Rattle.shortest.proofs.Cheapest.{shortest_accepts, shortest_least, nothing_better, shortest_short, nothing_accepts}

-- The last two tests of the refusals.
abbrev last_two : (some falls : Bool) → ℕ
last_two some falls = cond (not some) 16 (cond falls 19 0)

is_16 : (some falls : Bool) → last_two some falls ≡ 16 → some ≡ false
is_16 false falls h = refl
is_16 true false h = absurd (omega arith)
is_16 true true h = absurd (omega arith)

is_19 : (some falls : Bool) → last_two some falls ≡ 19 → falls ≡ true
is_19 some true h = refl
is_19 false false h = absurd (omega arith)
is_19 true false h = absurd (omega arith)

module _ (bs : List ℕ) (r : Told) (a a' b b' : List ℕ) (ok : refusal bs ≡ 0) (within : Within (decode bs)) (room_a : max_path ≤ length a)
    (room_b : max_path ≤ length b) (says : ShortestSays bs (shortest_refusal bs (length a) (length b)) r a a' b b') where
  abbrev t : Transducer
  t = decode bs

  -- Whether anything accepts; `negative_cycle t` is whether a cycle below zero lies on an accepting path.
  abbrev accepting : Bool
  accepting = coaccessible t.states t t.start

  abbrev number : ℕ
  number = shortest_refusal bs (length a) (length b)

  number_is : number ≡ last_two accepting (negative_cycle t)
  unfolding shortest_refusal
  number_is =
      none_or_else (refusal bs) (cond (ltb (length a) 1023 || ltb (length b) 1023) 10 (last_two accepting (negative_cycle t))) ok
      ∙ (rw (le-ltb (length a) 1023 room_a, le-ltb (length b) 1023 room_b))

  refused_is : r.refusal ≡ last_two accepting (negative_cycle t)
  refused_is = says.refusal_is ∙ number_is

  -- 16

  none : (r.refusal ≡ 16) ↔ ((p : List ℕ) → accepts t p ≡ false)
  none = (
    λ h. (nothing_accepts t within).0 (is_16 accepting (negative_cycle t) (sym refused_is ∙ h)),
    λ h. refused_is ∙ ap (λ (b : Bool). last_two b (negative_cycle t)) ((nothing_accepts t within).1 h),
  )

  -- The best of all

  module _ (h : accepting ≡ true) (f : negative_cycle t ≡ false) where
    accepted : accepts t (shortest t) ≡ true
    accepted =
        let p = coaccessible_path t.states t t.start h in
        shortest_accepts t within f p.0 (accepting_accepts t p.0 p.1)

    best_of_all : BestOfAll t (shortest t)
    best_of_all =
        record {
          accepting = accepted;
          least = shortest_least t within f;
          best = nothing_better t within f;
          few = shortest_short t within f (shortest t) accepted;
        }

    none_refused : number ≡ 0
    none_refused = number_is ∙ (rw (h, f))

    tells_path : TellsPath t (shortest t) r a' b'
    tells_path =
        let p : List ℕ = shortest t in
        record {
          arcs =
              take_told r.arcs (length a) p a' (says.arcs_is ∙ unless_none number (length p) none_refused)
              (says.arcs ∙ left_in_none number a p none_refused);
          labels =
              take_told r.labels (length b) (written_by t p) b' (says.labels_is ∙ unless_none number (length (written_by t p)) none_refused)
              (says.labels ∙ left_in_none number b (written_by t p) none_refused);
          cost = says.cost_is ∙ cost_unless_none number (path_cost t p) none_refused;
        }

  -- 19

  -- Where a cycle below zero lies on a path, that path accepts.
  some_accepts : NegativeCycleFrom t t.start → accepting ≡ true
  some_accepts f =
      by_test accepting (λ e. e)
      (λ e. clash (accepting_accepts t _ (negative_cycle_accepting t t.start f)) ((nothing_accepts t within).0 e _))

  refused_19 : NegativeCycleFrom t t.start → r.refusal ≡ 19
  refused_19 f = refused_is ∙ (rw (some_accepts f, negative_cycle_true t within f))

  falls : (r.refusal ≡ 19) ↔ NegativeCycleFrom t t.start
  falls = (λ h. true_falling t (is_19 accepting (negative_cycle t) (sym refused_is ∙ h)), refused_19)

  -- Where there is no least cost, a cycle below zero lies on an accepting path: otherwise the shortest one has the least.
  no_least_falls : NoLeastCost t → negative_cycle t ≡ true
  no_least_falls h =
      by_test (negative_cycle t) (λ f. f)
      (λ f.
      let first = h no_weight in
      let s : accepts t (shortest t) ≡ true = shortest_accepts t within f first.0 first.1 in
      let x = h (path_cost t (shortest t)) in
      absurd (omega (arith, sums, shortest_least t within f x.0 x.1, x.2)))

  bottomless : (r.refusal ≡ 19) ↔ NoLeastCost t
  bottomless = (
    λ h. negative_cycle_no_least t (is_19 accepting (negative_cycle t) (sym refused_is ∙ h)),
    λ h. refused_19 (true_falling t (no_least_falls h)),
  )

  told : (r.refusal ≡ 16 → ⊥) → (r.refusal ≡ 19 → ⊥) → (r.refusal ≡ 0) × (p : List ℕ) × BestOfAll t p × TellsPath t p r a' b'
  told bad worse =
      by_test accepting
      (λ e.
      by_test (negative_cycle t) (λ f. absurd (worse (refused_19 (true_falling t f))))
      (λ f. (refused_is ∙ (rw (e, f)), shortest t, best_of_all e f, tells_path e f)))
      (λ e. absurd (bad (none.1 ((nothing_accepts t within).0 e))))

  pub shortest_claimed : ShortestClaim t r a' b'
  shortest_claimed = record { none = none; falls = falls; bottomless = bottomless; told = told }

pub answered_claimed : (table : List ℕ) (r : Told) (a a' b b' : List ℕ) → Answered table r a a' b b' → ShortestClaim (decode table) r a' b'
answered_claimed table r a a' b b' c =
    shortest_claimed table r a a' b b' c.accepted (good_within (decode table) (accepted_good table c.bytes c.accepted)) c.arcs_room
    c.labels_room c.says

-- There are such calls: on any bytes, with whatever is lent, if it is long enough.
pub some_shortest : (bs a l : List ℕ) → max_path ≤ length a → max_path ≤ length l → ShortestPath bs
some_shortest bs a l long-a long_l =
    let number : ℕ = shortest_refusal bs (length a) (length l) in
    let p : List ℕ = shortest (decode bs) in
    record {
      answer =
          record {
            refusal = number;
            cost = cost_unless number (path_cost (decode bs) p);
            arcs = unless number (length p);
            labels = unless number (length (written_by (decode bs) p));
          };
      arcs = a;
      arcs_left = left_in number a p;
      labels = l;
      labels_left = left_in number l (written_by (decode bs) p);
      says = record { refusal_is = refl; cost_is = refl; arcs_is = refl; labels_is = refl; arcs = refl; labels = refl };
      arcs_room = long-a;
      labels_room = long_l;
    }
