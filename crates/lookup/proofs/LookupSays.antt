-- What the lookup answers once the string is applied and counted: one law for each answer. Assumes nothing.
use mathlib.Core.Path.{◌≡◌, refl, sym, ap, ◌∙◌}
use mathlib.Core.Bool.{true, cond}
use mathlib.Core.List.{List}
use Prim.Native.Nat.{ℕ, ◌≤◌}
use native.Mathlib.Omega.{arith}
use lib.Dec.{eqb}
use lib.ListN.{take}
use borrow.Author.Tests.{eq-eqb, ne_eqb}
use Rattle.wire.specs.Bytes.{Bytes}
use Rattle.wire.proofs.Bool.{is_true, clash}
use Rattle.transducer.specs.Format.{Transducer, Good, refusal, decode}
use Rattle.transducer.specs.Accepted.{ValidationSays}
use Rattle.transducer.specs.Path.{accepts, path_cost}
use Rattle.transducer.specs.Weight.{no_weight, magnitude}
use Rattle.transducer.proofs.Answers.{some_or_else, none_or_else, unless_some, unless_none, cost_unless_none, cost_unless_some}
use Rattle.transducer.proofs.Runs.{good_within}
use Rattle.transducer.proofs.RoundTrip.{accepted_good}
use Rattle.lattice.specs.Lattice.{lattice}
use Rattle.lattice.proofs.LatticeGood.{lattice_good, refusal_lattice, decode_lattice}
use Rattle.reach.specs.Reach.{coaccessible}
use Rattle.reach.proofs.Sized.{good_sized}
use Rattle.paths.specs.Count.{path_count}
use Rattle.paths.proofs.Endless.{count_some}
use Rattle.transducer.specs.Answer.{validated}
use Rattle.distance.specs.Ended.{unvalidated}
use Rattle.distance.proofs.LeastKnown.{unvalidated_says}
use Rattle.report.specs.Answer.{Told}
use Rattle.shortest.specs.Shortest.{shortest}
use Rattle.shortest.specs.Entry.{accepted_shortest_refusal, ShortestSays}
use Rattle.shortest.proofs.Cheapest.{nothing_accepts, shortest_accepts}
use Rattle.shortest.proofs.FewPaths.{most_cost, few_bounded, few_rises, bounded_small}
use Rattle.lookup.specs.Answer.{LookedUp, StringCount}
use Rattle.lookup.specs.Lookup.{count_string_refusal, lookup_refusal, looked_up, CountStringSays}
use Rattle.lookup.proofs.CountString.{CountedWell, counted_well}

refused_is : (cs : List ℕ) (t : Transducer) (n : ℕ) → n ≡ lookup_refusal cs t → (n ≡ 0 → ⊥) → (r : LookedUp)
    → r ≡ record { refusal = n; count = 0; cost = no_weight } → r ≡ looked_up cs t
unfolding looked_up
refused_is cs t n is bad r e =
    let z : Transducer = lattice cs t in
    e ∙ (rw (sym is, unless_some n (path_count z) bad, cost_unless_some n (path_cost z (shortest z)) bad))

module _ (cs bs : List ℕ) (bytes : Bytes bs) (ok : refusal bs ≡ 0) (r : StringCount) (a' : List ℕ) (says : CountStringSays cs (decode bs) r a') where
  abbrev t : Transducer
  t = decode bs

  abbrev w : Transducer
  w = lattice cs t

  abbrev last : ℕ
  last = cond (eqb (path_count w) 0) 16 0

  -- 9, 11, 12, 14
  pub looked_refused : (r.refusal ≡ 0 → ⊥) → (x : LookedUp) → x ≡ record { refusal = r.refusal; count = 0; cost = no_weight } → x ≡ looked_up cs t
  unfolding lookup_refusal
  looked_refused bad x e =
      refused_is cs t r.refusal (says.refusal_is ∙ sym (some_or_else (count_string_refusal cs t) last (λ q. bad (says.refusal_is ∙ q)))) bad x e

  module _ (well : r.refusal ≡ 0) where
    none : count_string_refusal cs t ≡ 0
    none = sym says.refusal_is ∙ well

    known : CountedWell cs t
    known = counted_well cs t none

    count_is : r.count ≡ path_count w
    count_is = says.count_is ∙ unless_none (count_string_refusal cs t) (path_count w) none

    number_last : lookup_refusal cs t ≡ last
    unfolding lookup_refusal
    number_last = none_or_else (count_string_refusal cs t) last none

    -- 16
    pub looked_none : r.count ≡ 0 → (x : LookedUp) → x ≡ record { refusal = 16; count = 0; cost = no_weight } → x ≡ looked_up cs t
    looked_none zero x e =
        refused_is cs t 16 (sym (number_last ∙ (rw (eq-eqb (path_count w) 0 (sym count_is ∙ zero))))) (λ q. omega arith) x e

    good : Good t
    good = accepted_good bs bytes ok

    w_good : Good w
    w_good = lattice_good cs t good known.string known.fine

    w_accepted : refusal (take r.len a') ≡ 0
    w_accepted = ap refusal (says.bytes well) ∙ refusal_lattice cs t good known.string known.fine

    w_decoded : decode (take r.len a') ≡ w
    w_decoded = ap decode (says.bytes well) ∙ decode_lattice cs t good known.string known.fine

    pub lattice_facts : ValidationSays (take r.len a') (validated unvalidated)
    lattice_facts = unvalidated_says (take r.len a') (rw w_decoded (good_sized w w_good)) w_accepted

    module _ (some : r.count ≡ 0 → ⊥) (k : Told) (d d' e e' : List ℕ)
        (telling : ShortestSays (take r.len a') (accepted_shortest_refusal (decode (take r.len a'))) k d d' e e') where
      accepted : accepts w (shortest w) ≡ true
      accepted =
          let p = count_some w (λ q. some (count_is ∙ q)) in
          shortest_accepts w (good_within w w_good) (few_rises w w_good known.finite) p.0 p.1

      reaches : coaccessible w.states w w.start ≡ true
      reaches =
          is_true (coaccessible w.states w w.start)
          (λ q. clash accepted ((nothing_accepts w (good_within w w_good)).0 q (shortest w)))

      path_number : accepted_shortest_refusal (decode (take r.len a')) ≡ 0
      path_number = rw (w_decoded, reaches, few_rises w w_good known.finite)

      -- A path is told.
      pub told_well : k.refusal ≡ 0
      told_well = telling.refusal_is ∙ path_number

      told_cost : k.cost ≡ path_cost w (shortest w)
      told_cost =
          let x : Transducer = decode (take r.len a') in
          telling.cost_is
          ∙ (cost_unless_none (accepted_shortest_refusal x) (path_cost x (shortest x)) path_number
          ∙ ap (λ (x : Transducer). path_cost x (shortest x)) w_decoded)

      pub told_small : magnitude k.cost ≤ most_cost
      told_small = rw told_cost (bounded_small (path_cost w (shortest w)) (few_bounded w w_good known.finite (shortest w) accepted))

      pub looked_told : record { refusal = 0; count = r.count; cost = k.cost } ≡ looked_up cs t
      unfolding looked_up
      looked_told =
          let p : List ℕ = shortest w in
          let number : lookup_refusal cs t ≡ 0 = number_last ∙ (rw (ne_eqb (path_count w) 0 (λ q. some (count_is ∙ q)))) in
          rw (number, unless_none 0 (path_count w) refl, cost_unless_none 0 (path_cost w p) refl, count_is, told_cost)
