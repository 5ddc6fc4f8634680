-- What a lookup says of the paths that fit the string. Assumes nothing.
use mathlib.Core.Path.{◌≡◌, refl, sym, ap, ◌∙◌}
use mathlib.Core.Bool.{Bool, true, false, cond}
use mathlib.Core.List.{List}
use Prim.Native.Nat.{ℕ, ◌≤◌, ◌<◌}
use native.Mathlib.Omega.{arith}
use lib.Dec.{eqb, ltb}
use lib.ListN.{length}
use borrow.Author.Tests.{eqb-true, eqb-false}
use Rattle.wire.proofs.Bool.{by_test}
use Rattle.transducer.specs.Format.{max_states, max_arcs, Transducer, Good, weights_good}
use Rattle.transducer.specs.Entry.{or_else, cost_unless}
use Rattle.transducer.specs.Path.{accepts, path_cost}
use Rattle.transducer.specs.Weight.{no_weight, AtMost, magnitude}
use Rattle.transducer.proofs.Answers.{or_else_none, some_or_else, none_or_else, cost_unless_none, cost_unless_some}
use Rattle.transducer.proofs.Runs.{good_within}
use Rattle.transducer.proofs.Weights.{magnitude_is}
use Rattle.explore.specs.Explore.{built_refusal}
use Rattle.trim.specs.Trim.{through}
use Rattle.lattice.specs.Apply.{string_good, applied}
use Rattle.lattice.specs.Lattice.{lattice, lattice_origins, ReadsOneToOne}
use Rattle.lattice.proofs.LatticeGood.{lattice_good}
use Rattle.lattice.proofs.LatticeLaw.{lattice_one_to_one}
use Rattle.cycles.specs.Cycles.{negative_cycle}
use Rattle.paths.specs.Count.{endless, path_count}
use Rattle.paths.specs.Entry.{accepted_count_refusal}
use Rattle.paths.proofs.Endless.{count_some, count_none}
use Rattle.shortest.specs.Shortest.{shortest}
use Rattle.shortest.proofs.Cheapest.{shortest_accepts, shortest_least}
use Rattle.shortest.proofs.FewPaths.{most_cost, few_bounded, few_rises, bounded_small}
use Rattle.lookup.specs.Lookup.{count_string_refusal, lookup_refusal, looked_up}
use Rattle.lookup.specs.Meaning.{Reads, Means}
use Rattle.lookup.proofs.CountString.{CountedWell, counted_well}

-- No refusal before the last is 16.
not_16 : (n : ℕ) (a b c : Bool) → n ≡ cond a 11 (cond b 12 (cond c 0 13)) → n ≡ 16 → ⊥
not_16 n true b c e h = omega arith
not_16 n false true c e h = omega arith
not_16 n false false true e h = omega arith
not_16 n false false false e h = omega arith

not_last : (a : Bool) (k : ℕ) → k < 16 → cond a k 0 ≡ 16 → ⊥
not_last true k l h = omega arith
not_last false k l h = omega arith

is_last : (a b : ℕ) → or_else a b ≡ 16 → (a ≡ 16 → ⊥) → (a ≡ 0) × (b ≡ 16)
is_last a b h n = by_test (eqb a 0)
    (λ e. (eqb-true a 0 e, sym (none_or_else a b (eqb-true a 0 e)) ∙ h))
    (λ e. absurd (n (sym (some_or_else a b (eqb-false a 0 e)) ∙ h)))

module _ (cs : List ℕ) (t : Transducer) (good : Good t) where
  abbrev z : Transducer
  z = lattice cs t

  built_not_16 : built_refusal (applied cs t).result ≡ 16 → ⊥
  unfolding built_refusal
  built_not_16 h =
      let x : Transducer = (applied cs t).result in
      not_16 16 (ltb max_states x.states) (ltb max_arcs (length x.arcs)) (weights_good x) (sym h) refl

  count_not_16 : count_string_refusal cs t ≡ 16 → ⊥
  unfolding count_string_refusal
  count_not_16 h =
      let built : ℕ = built_refusal (applied cs t).result in
      let applying : ℕ = or_else (cond (string_good cs) 0 9) built in
      let n : applying ≡ 16 → ⊥ = λ e. built_not_16 (is_last (cond (string_good cs) 0 9) built e nine).1 in
      not_last (endless z) 14 (omega arith) (is_last applying (accepted_count_refusal z) h n).1
    where
      on : (b : Bool) → ◌≡◌ {A = ℕ} (cond b 0 9) 16 → ⊥
      on true e = omega arith
      on false e = omega arith

      nine : ◌≡◌ {A = ℕ} (cond (string_good cs) 0 9) 16 → ⊥
      nine = on (string_good cs)

  count_16 : (n : ℕ) → ◌≡◌ {A = ℕ} (cond (eqb n 0) 16 0) 16 → n ≡ 0
  count_16 n h = by_test (eqb n 0) (λ e. eqb-true n 0 e) (λ e. absurd (let q : ◌≡◌ {A = ℕ} 0 16 = rw e at h in omega arith))

  count_not : (n : ℕ) → ◌≡◌ {A = ℕ} (cond (eqb n 0) 16 0) 0 → n ≡ 0 → ⊥
  count_not n h e = let q : ◌≡◌ {A = ℕ} 16 0 = rw e at h in omega arith

  module _ (known : CountedWell cs t) where
    z_good : Good z
    z_good = lattice_good cs t good known.string known.fine

    one : ReadsOneToOne cs t z (lattice_origins cs t)
    one = lattice_one_to_one cs t good known.string known.fine

    rises : negative_cycle z ≡ false
    rises = few_rises z z_good known.finite

    none_reads : path_count z ≡ 0 → (y : List ℕ) → Reads cs t y → ⊥
    none_reads e y r =
        let p = one.every y r.accepting r.fitting in
        count_none z (good_within z z_good) known.finite e p.0 p.1

    module _ (some : path_count z ≡ 0 → ⊥) where
      accepted : accepts z (shortest z) ≡ true
      accepted = let p = count_some z some in shortest_accepts z (good_within z z_good) rises p.0 p.1

      reading : (x : List ℕ) × Reads cs t x × (path_cost t x ≡ path_cost z (shortest z))
      reading =
          let r = one.leads (shortest z) accepted in
          (through (lattice_origins cs t) (shortest z), record { accepting = r.accepting; fitting = r.fitting }, sym r.same_cost)

      none_less : (y : List ℕ) → Reads cs t y → AtMost (path_cost z (shortest z)) (path_cost t y)
      none_less y r =
          let p = one.every y r.accepting r.fitting in
          let is = one.leads p.0 p.1 in
          let same : path_cost z p.0 ≡ path_cost t y = is.same_cost ∙ ap (path_cost t) p.2 in
          rw (sym same) (shortest_least z (good_within z z_good) rises p.0 p.1)

  pub means : Means cs t (looked_up cs t)
  unfolding looked_up lookup_refusal
  means = record { some = some; least = least; none = none; never_19 = never_19; small = small }
    where
      last : ℕ
      last = cond (eqb (path_count z) 0) 16 0

      p : List ℕ
      p = shortest z

      peeled : lookup_refusal cs t ≡ 0 → CountedWell cs t × (path_count z ≡ 0 → ⊥)
      peeled h =
          let both = or_else_none (count_string_refusal cs t) last h in
          (counted_well cs t both.0, count_not (path_count z) both.1)

      cost_told : lookup_refusal cs t ≡ 0 → cost_unless (lookup_refusal cs t) (path_cost z p) ≡ path_cost z p
      cost_told h = cost_unless_none (lookup_refusal cs t) (path_cost z p) h

      some : lookup_refusal cs t ≡ 0 → (x : List ℕ) × Reads cs t x × (path_cost t x ≡ cost_unless (lookup_refusal cs t) (path_cost z p))
      some h = let k = peeled h in let r = reading k.0 k.1 in (r.0, r.1, r.2 ∙ sym (cost_told h))

      least : lookup_refusal cs t ≡ 0 → (y : List ℕ) → Reads cs t y → AtMost (cost_unless (lookup_refusal cs t) (path_cost z p)) (path_cost t y)
      least h y r = let k = peeled h in rw (cost_told h) (none_less k.0 k.1 y r)

      none : lookup_refusal cs t ≡ 16 → (y : List ℕ) → Reads cs t y → ⊥
      none h =
          let both = is_last (count_string_refusal cs t) last h (λ q. count_not_16 q) in
          none_reads (counted_well cs t both.0) (count_16 (path_count z) both.1)

      never_19 : lookup_refusal cs t ≡ 0 → negative_cycle z ≡ false
      never_19 h = rises (peeled h).0

      small : magnitude (cost_unless (lookup_refusal cs t) (path_cost z p)) ≤ most_cost
      small = by_test (eqb (lookup_refusal cs t) 0)
          (λ e.
          let h : lookup_refusal cs t ≡ 0 = eqb-true (lookup_refusal cs t) 0 e in
          let k = peeled h in
          rw (cost_told h) (bounded_small (path_cost z p) (few_bounded z (z_good k.0) k.0.finite p (accepted k.0 k.1))))
          (λ e.
          let n : cost_unless (lookup_refusal cs t) (path_cost z p) ≡ no_weight =
          cost_unless_some (lookup_refusal cs t) (path_cost z p) (eqb-false (lookup_refusal cs t) 0 e) in
          rw n (omega (arith, magnitude_is no_weight)))
