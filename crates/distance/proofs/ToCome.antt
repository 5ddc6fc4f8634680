-- The least cost to come: some path from the state has it and none has less, however long, as long as no cycle below zero lies before a final state; and
-- none past the last state. Assumes nothing.
use mathlib.Core.Path.{◌≡◌, refl}
use mathlib.Core.Bool.{Bool, true, false, ◌&&◌, cond}
use mathlib.Core.Logic.{◌⊎◌, inl, inr}
use mathlib.Core.List.{List, [], ◌∷◌}
use mathlib.Core.List.Memᴰ.{head as first}
use mathlib.Core.List.Memᴰ.{not-nil as none_in}
use mathlib.Core.List.Memᴰ.{tail as later}
use mathlib.Core.List.{Memᴰ as Mem}
use mathlib.Core.List.Memᴰ.{cases_cons as first-or-later}
use Prim.Native.Nat.{ℕ, ◌+◌, ◌*◌, ◌≤◌, ◌<◌}
use native.Mathlib.Omega.{arith}
use lib.Dec.{ltb, eqb}
use lib.ListN.{length}
use borrow.Author.Tests.{eqb-true, ltb-true}
use Rattle.wire.specs.Bytes.{every}
use Rattle.wire.proofs.Bool.{clash, never, and-true, or-true}
use Rattle.transducer.proofs.Weights.{sums}
use Rattle.transducer.specs.declared.Final.{Final}
use Rattle.transducer.specs.declared.Arc.{Arc}
use Rattle.transducer.specs.Format.{Transducer, states_good}
use Rattle.transducer.specs.Path.{is_final}
use Rattle.transducer.specs.Weight.{Weight, AtMost, Below, at_most}
use Rattle.transducer.proofs.Runs.{Accepting, AcceptingBy, accepting_nil, accepting_cons}
use Rattle.paths.specs.Count.{paths_from}
use Rattle.paths.proofs.Listed.{in_paths_from, paths_from_has}
use Rattle.reach.proofs.Sized.{Sized}
use Rattle.cycles.specs.Costs.{cost_from}
use Rattle.cycles.specs.Cycles.{NegativeCycleFrom, negative_cycle_anywhere}
use Rattle.cycles.proofs.Cycles.{Shorter, shorter}
use Rattle.cycles.proofs.NegativeCycles.{anywhere_true}
use Rattle.distance.specs.Distance.{no_path, lesser, least_of, least_to_come}
use Rattle.distance.specs.Claim.{ToFinal, CellClaim}
use Rattle.relax.proofs.Bounds.{Bounded, cost_bounded}

-- The least cost of a list of paths.

lesser_most : (x y z : Weight) → AtMost x z ⊎ AtMost y z → AtMost (lesser x y) z
unfolding lesser
lesser_most x y z h = on (at_most x y) refl h
  where
    on : (b : Bool) → at_most x y ≡ b → AtMost x z ⊎ AtMost y z → AtMost (cond b x y) z
    on true e (inl l) = l
    on true e (inr l) = omega (arith, sums)
    on false e (inl l) = omega (arith, sums)
    on false e (inr l) = l

most_lesser : (x y z : Weight) → AtMost z x → AtMost z y → AtMost z (lesser x y)
unfolding lesser
most_lesser x y z h k = on (at_most x y)
  where
    on : (b : Bool) → AtMost z (cond b x y)
    on true = h
    on false = k

pub least_of_most : (t : Transducer) (s : ℕ) (l : List (List ℕ)) → AtMost (least_of t s l) no_path
unfolding least_of
least_of_most t s [] = omega (arith, sums)
least_of_most t s (p ∷ l) = lesser_most (cost_from t s p) (least_of t s l) no_path (inr (least_of_most t s l))

pub least_of_in : (t : Transducer) (s : ℕ) (l : List (List ℕ)) (p : List ℕ) → Mem p l → AtMost (least_of t s l) (cost_from t s p)
unfolding least_of
least_of_in t s [] p m = absurd (none_in m)
least_of_in t s (q ∷ l) p m = on (λ m'. least_of_in t s l p m') (first-or-later m)
  where
    on : (Mem p l → AtMost (least_of t s l) (cost_from t s p)) → (p ≡ q) ⊎ Mem p l → AtMost (lesser (cost_from t s q) (least_of t s l)) (cost_from t s p)
    on more (inl e) = rw e (lesser_most (cost_from t s q) (least_of t s l) (cost_from t s q) (inl (omega (arith, sums))))
    on more (inr m') = lesser_most (cost_from t s q) (least_of t s l) (cost_from t s p) (inr (more m'))

pub least_of_above : (t : Transducer) (s : ℕ) (x : Weight) (l : List (List ℕ)) → AtMost x no_path → ((p : List ℕ) → Mem p l → AtMost x (cost_from t s p))
    → AtMost x (least_of t s l)
unfolding least_of
least_of_above t s x [] h k = h
least_of_above t s x (p ∷ l) h k =
    most_lesser (cost_from t s p) (least_of t s l) x (k p (first refl)) (least_of_above t s x l h (λ q m. k q (later m)))

-- It is the cost of one of them, or none.
record Of (t : Transducer) (s : ℕ) (l : List (List ℕ)) : Type 0 where
  path : List ℕ
  listed : Mem path l
  costs : cost_from t s path ≡ least_of t s l

least_of_one : (t : Transducer) (s : ℕ) (l : List (List ℕ)) → (least_of t s l ≡ no_path) ⊎ Of t s l
unfolding least_of lesser
least_of_one t s [] = inl refl
least_of_one t s (p ∷ l) = on (at_most (cost_from t s p) (least_of t s l)) refl (least_of_one t s l)
  where
    on : (b : Bool) → at_most (cost_from t s p) (least_of t s l) ≡ b → (least_of t s l ≡ no_path) ⊎ Of t s l
        → (lesser (cost_from t s p) (least_of t s l) ≡ no_path) ⊎ Of t s (p ∷ l)
    on true e m = inr (record { path = p; listed = first refl; costs = rw e refl })
    on false e (inl n) = inl (rw e n)
    on false e (inr o) = inr (record { path = o.path; listed = later o.listed; costs = rw e o.costs })

-- Only a state of the transducer leads to a final one.
final_below : (fs : List Final) (n s : ℕ) → every (λ f. ltb f.state n) fs ≡ true → is_final fs s ≡ true → s < n
unfolding is_final every
final_below [] n s g h = never h
final_below (f ∷ fs) n s g h = on (or-true (eqb f.state s) (is_final fs s) h) (λ h'. final_below fs n s both.1 h')
  where
    both : (ltb f.state n ≡ true) × (every (λ f. ltb f.state n) fs ≡ true)
    both = and-true (ltb f.state n) (every (λ f. ltb f.state n) fs) g

    on : (eqb f.state s ≡ true) ⊎ (is_final fs s ≡ true) → (is_final fs s ≡ true → s < n) → s < n
    on (inl e) more = rw (eqb-true f.state s e) at (ltb-true f.state n both.0)
    on (inr e) more = more e

pub accepting_below : (t : Transducer) → Sized t → (s : ℕ) (p : List ℕ) → Accepting t s p → s < t.states
unfolding states_good
accepting_below t z s [] a =
    final_below t.finals t.states s
    (and-true (every (λ f. ltb f.state t.states) t.finals) (every (λ (a : Arc). ltb a.source t.states && ltb a.target t.states) t.arcs)
    z.content.states).0
    (accepting_nil t s a)
accepting_below t z s (i ∷ p) a =
    let r : AcceptingBy t s i p = accepting_cons t s i p a in
    rw r.leaves at (z.within.leaves i r.below)

pub past_none : (t : Transducer) → Sized t → (s : ℕ) → t.states ≤ s → least_to_come t s ≡ no_path
unfolding least_to_come
past_none t z s h = on (least_of_one t s (paths_from t.states t s))
  where
    on : (least_of t s (paths_from t.states t s) ≡ no_path) ⊎ Of t s (paths_from t.states t s) → least_of t s (paths_from t.states t s) ≡ no_path
    on (inl e) = e
    on (inr o) =
        let b : s < t.states = accepting_below t z s o.path (in_paths_from t.states t s o.path o.listed).0 in
        absurd (omega (arith, b))

module _ (t : Transducer) (z : Sized t) (rises : negative_cycle_anywhere t ≡ false) (s : ℕ) where
  all : List (List ℕ)
  all = paths_from t.states t s

  -- None has less, and where there is a path there is a cost.
  record Low (p : List ℕ) : Type 0 where
    least : AtMost (least_to_come t s) (cost_from t s p)
    some : Below (least_to_come t s) no_path

  low : (p : List ℕ) → Accepting t s p → Low p
  unfolding least_to_come all
  low p a =
      let f : NegativeCycleFrom t s → ⊥ = λ g. clash (anywhere_true t z.within (record { state = s; marked = refl; negative_cycle = g })) rises in
      let q : Shorter t s p = shorter t z.within s p (accepting_below t z s p a) f a in
      let m : Mem q.path all = paths_from_has t.states t s q.path q.accepting (omega (arith, q.few)) in
      let l : AtMost (least_of t s all) (cost_from t s q.path) = least_of_in t s all q.path m in
      let b : Bounded (1000000 * length q.path + 1000000) (cost_from t s q.path) = cost_bounded t z s q.path q.accepting.goes in
      record { least = omega (arith, sums, l, q.costs); some = omega (arith, sums, l, b.up, q.few, z.states) }

  of_record : (p : List ℕ) → ToFinal t s p → Accepting t s p
  of_record p a = record { goes = a.goes; final = a.final }

  pub cell_claimed : CellClaim t s (least_to_come t s)
  unfolding least_to_come all
  cell_claimed = on (least_of_one t s all)
    where
      on : (least_of t s all ≡ no_path) ⊎ Of t s all → CellClaim t s (least_to_come t s)
      on (inl e) =
          record {
            none = (λ _ p a. let l : Low p = low p (of_record p a) in omega (arith, sums, l.some, e), λ _. e);
            some = λ n. absurd (n e);
          }
      on (inr o) =
          let a : Accepting t s o.path = (in_paths_from t.states t s o.path o.listed).0 in
          let h : Low o.path = low o.path a in
          record {
            none = (λ e. absurd (omega (arith, sums, h.some, e)), λ no. absurd (no o.path (record { goes = a.goes; final = a.final })));
            some = λ _.
                record {
                  path = o.path;
                  leads = record { goes = a.goes; final = a.final };
                  costs = o.costs;
                  least = λ p b. (low p (of_record p b)).least;
                };
          }
