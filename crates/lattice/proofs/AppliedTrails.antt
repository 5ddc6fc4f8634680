-- Trails of lattice steps stand one to one with the paths of the transducer that fit the string. Assumes nothing.
use mathlib.Core.Path.{◌≡◌, refl, sym, ap, ap₂, ◌∙◌}
use mathlib.Core.Bool.{true}
use mathlib.Core.List.{List, [], ◌∷◌, ◌++◌, map, append-nil}
use mathlib.Core.List.{Memᴰ as Mem}
use Prim.Native.Nat.{ℕ, suc, ◌≤◌, ◌<◌}
use native.Mathlib.Numerals.{add-one}
use native.Mathlib.Omega.{arith}
use lib.Dec.{eqb}
use lib.ListN.{length, get_or, drop, length-drop}
use lib.Seq.{drop-cons, drop-length}
use borrow.Author.Tests.{eqb-true, eq-eqb}
use Rattle.wire.proofs.Bool.{and-true, true_and}
use Rattle.transducer.specs.Format.{Transducer}
use Rattle.transducer.specs.Path.{arc, runs, ends, non_empty, arcs_cost, path_cost, accepts, is_final, final_weight}
use Rattle.transducer.specs.Each.{fits, passed, path_fits, path_passed}
use Rattle.transducer.specs.Weight.{plus}
use Rattle.transducer.proofs.Fits.{fits_symbol}
use Rattle.transducer.proofs.FitPaths.{path_fits_none, path_fits_some, path_passed_none, path_passed_some, Took, quiet, took, path_took, path_fits_end}
use Rattle.transducer.proofs.Paths.{Runs, runs_cons, cons_runs, empty_passed, symbol_kept}
use Rattle.explore.specs.Explore.{Step}
use Rattle.explore.proofs.Member.{mem_in, in_mem}
use Rattle.explore.proofs.Trails.{Trail, inputs, outputs, weights}
use Rattle.lattice.specs.declared.State.{State}
use Rattle.lattice.specs.Apply.{step, steps, final_state, first_state}
use Rattle.lattice.proofs.AppliedSteps.{empty_step, symbol_step, OfArc, of_empty, of_symbol, ArcStep, step_move, move_step, same_origin}

-- The arcs that the steps come from, in order.
unfoldable pub numbers : {A : Type 0} → List (Step A ℕ) → List ℕ
numbers ss = map (λ s. s.origin) ss

-- A trail leads to a path

pub record TrailPath (cs : List ℕ) (t : Transducer) (x : State) (ss : List (Step State ℕ)) (y : State) : Type 0 where
  pub path_runs : runs t x.state (numbers ss) ≡ true
  pub path_ends : ends t x.state (numbers ss) ≡ y.state
  pub fitting : y.position ≡ length cs → path_fits t (drop x.position cs) (numbers ss) ≡ true
  pub consumes : inputs ss ++ drop y.position cs ≡ drop x.position cs
  pub writes : outputs ss ≡ path_passed t (drop x.position cs) (numbers ss)
  pub costs : weights ss ≡ arcs_cost t (numbers ss)

leads_none : (cs : List ℕ) (t : Transducer) (x y : State) → x ≡ y → TrailPath cs t x [] y
unfolding runs ends path_fits path_passed arcs_cost inputs outputs weights numbers
leads_none cs t x y e =
    let same : x.position ≡ y.position = ap (λ (z : State). z.position) e in
    record {
      path_runs = refl;
      path_ends = ap (λ (z : State). z.state) e;
      fitting = λ h. rw (same, h, drop-length cs);
      consumes = rw same;
      writes = refl;
      costs = refl;
    }

leads_empty : (cs : List ℕ) (t : Transducer) (x : State) (i : ℕ) (ss : List (Step State ℕ)) (y : State) → i < length t.arcs
    → (arc t i).source ≡ x.state → (arc t i).input ≡ 0 → TrailPath cs t (empty_step x i (arc t i)).target ss y
    → TrailPath cs t x (empty_step x i (arc t i) ∷ ss) y
unfolding empty_step step ends arcs_cost inputs outputs weights numbers
leads_empty cs t x i ss y below leaves empty l =
    record {
      path_runs = cons_runs t x.state i (numbers ss) (record { below = below; leaves = leaves; rest = l.path_runs });
      path_ends = l.path_ends;
      fitting = λ h. path_fits_none t i (numbers ss) (drop x.position cs) empty ∙ l.fitting h;
      consumes = rw (empty_passed 0 (inputs ss) refl) l.consumes;
      writes = ap (non_empty (passed 0 (arc t i))) l.writes ∙ sym (path_passed_none t i (numbers ss) (drop x.position cs) empty);
      costs = ap (plus (arc t i).weight) l.costs;
    }

leads_symbol : (cs : List ℕ) (t : Transducer) (x : State) (i : ℕ) (ss : List (Step State ℕ)) (y : State) → i < length t.arcs
    → (arc t i).source ≡ x.state → ((arc t i).input ≡ 0 → ⊥) → x.position < length cs → fits t (get_or cs x.position 0) (arc t i) ≡ true
    → TrailPath cs t (symbol_step cs x i (arc t i)).target ss y → TrailPath cs t x (symbol_step cs x i (arc t i) ∷ ss) y
unfolding symbol_step step ends arcs_cost inputs outputs weights numbers
leads_symbol cs t x i ss y below leaves reads here fit l =
    let c : ℕ = get_or cs x.position 0 in
    let rest : List ℕ = drop (suc x.position) cs in
    let split : drop x.position cs ≡ c ∷ rest = drop-cons cs x.position 0 here in
    let some : c ≡ 0 → ⊥ = fits_symbol t c (arc t i) reads fit in
    record {
      path_runs = cons_runs t x.state i (numbers ss) (record { below = below; leaves = leaves; rest = l.path_runs });
      path_ends = l.path_ends;
      fitting = λ h.
          let more : path_fits t rest (numbers ss) ≡ true = rw (add-one x.position) at (l.fitting h) in
          rw split (path_fits_some t i (numbers ss) c rest reads ∙ true_and (fits t c (arc t i)) (path_fits t rest (numbers ss)) fit more);
      consumes =
          let more : inputs ss ++ drop y.position cs ≡ rest = rw (add-one x.position) at l.consumes in
          rw (symbol_kept c (inputs ss) some, split) (ap (◌∷◌ c) more);
      writes =
          let more : outputs ss ≡ path_passed t rest (numbers ss) = rw (add-one x.position) at l.writes in
          rw split (ap (non_empty (passed c (arc t i))) more ∙ sym (path_passed_some t i (numbers ss) c rest reads));
      costs = ap (plus (arc t i).weight) l.costs;
    }

leads_step : (cs : List ℕ) (t : Transducer) (x : State) (s : Step State ℕ) (ss : List (Step State ℕ)) (y : State) (i : ℕ) → i < length t.arcs
    → (arc t i).source ≡ x.state → OfArc cs t x i (arc t i) s → TrailPath cs t s.target ss y → TrailPath cs t x (s ∷ ss) y
leads_step cs t x s ss y i below leaves (of_empty e made) = rw made (leads_empty cs t x i ss y below leaves e)
leads_step cs t x s ss y i below leaves (of_symbol h here fit made) = rw made (leads_symbol cs t x i ss y below leaves h here fit)

pub trail_leads : (cs : List ℕ) (t : Transducer) (x : State) (ss : List (Step State ℕ)) (y : State) → Trail (steps cs t) x ss y → TrailPath cs t x ss y
trail_leads cs t x [] y h = leads_none cs t x y h
trail_leads cs t x (s ∷ ss) y h =
    let m : ArcStep cs t x s = step_move cs t x s (mem_in h.0) in
    leads_step cs t x s ss y m.number m.below m.leaves m.made (trail_leads cs t s.target ss y h.1)

-- Every path that fits what is left of the string has a trail

pub record PathTrail (cs : List ℕ) (t : Transducer) (x : State) (p : List ℕ) : Type 0 where
  pub taken : List (Step State ℕ)
  pub last : State
  pub trail : Trail (steps cs t) x taken last
  pub path : numbers taken ≡ p
  pub at_end : last.position ≡ length cs
  pub in_state : last.state ≡ ends t x.state p

followed_step : (cs : List ℕ) (t : Transducer) (x : State) (s : Step State ℕ) (i : ℕ) (p : List ℕ) → Mem s (steps cs t x) → s.origin ≡ i
    → s.target.state ≡ (arc t i).target → PathTrail cs t s.target p → PathTrail cs t x (i ∷ p)
unfolding numbers ends
followed_step cs t x s i p m o e r =
    record {
      taken = s ∷ r.taken;
      last = r.last;
      trail = (in_mem m, r.trail);
      path = ap₂ ◌∷◌ o r.path;
      at_end = r.at_end;
      in_state = r.in_state ∙ ap (λ (q : ℕ). ends t q p) e;
    }

followed_none : (cs : List ℕ) (t : Transducer) (x : State) → x.position ≤ length cs → drop x.position cs ≡ [] → PathTrail cs t x []
unfolding numbers ends
followed_none cs t x h e =
    let l : length (drop x.position cs) ≡ 0 = ap length e in
    let at_end : x.position ≡ length cs = omega (arith, length-drop x.position cs) in
    record { taken = []; last = x; trail = refl; path = refl; at_end = at_end; in_state = refl }

abbrev Follows : List ℕ → Transducer → List ℕ → Type 0
Follows cs t p =
    (x : State) → x.position ≤ length cs → runs t x.state p ≡ true → path_fits t (drop x.position cs) p ≡ true → PathTrail cs t x p

followed_empty : (cs : List ℕ) (t : Transducer) (x : State) (i : ℕ) (p : List ℕ) → x.position ≤ length cs → Runs t x.state i p
    → path_fits t (drop x.position cs) p ≡ true → (arc t i).input ≡ 0 → Follows cs t p → PathTrail cs t x (i ∷ p)
unfolding empty_step step
followed_empty cs t x i p h r e empty rest =
    let s : Step State ℕ = empty_step x i (arc t i) in
    let m : Mem s (steps cs t x) = move_step cs t x s (record { number = i; below = r.below; leaves = r.leaves; made = of_empty empty refl }) in
    followed_step cs t x s i p m refl refl (rest s.target h r.rest e)

followed_symbol : (cs : List ℕ) (t : Transducer) (x : State) (i c : ℕ) (left p : List ℕ) → x.position ≤ length cs → Runs t x.state i p
    → drop x.position cs ≡ c ∷ left → ((arc t i).input ≡ 0 → ⊥) → fits t c (arc t i) ≡ true → path_fits t left p ≡ true → Follows cs t p
    → PathTrail cs t x (i ∷ p)
unfolding symbol_step step
followed_symbol cs t x i c left p h r is reads fit more rest =
    let s : Step State ℕ = symbol_step cs x i (arc t i) in
    let l : length (drop x.position cs) ≡ suc (length left) = ap length is in
    let here : x.position < length cs = omega (arith, length-drop x.position cs) in
    let both : c ∷ left ≡ get_or cs x.position 0 ∷ drop (suc x.position) cs = sym is ∙ drop-cons cs x.position 0 here in
    let same : c ≡ get_or cs x.position 0 = cc in
    let behind : left ≡ drop (suc x.position) cs = cc in
    let m : Mem s (steps cs t x) =
    move_step cs t x s (record { number = i; below = r.below; leaves = r.leaves; made = of_symbol reads here (rw same at fit) refl }) in
    followed_step cs t x s i p m refl refl (rest s.target (omega arith) r.rest (rw (add-one x.position, ← behind) more))

pub path_followed : (cs : List ℕ) (t : Transducer) (p : List ℕ) (x : State) → x.position ≤ length cs → runs t x.state p ≡ true
    → path_fits t (drop x.position cs) p ≡ true → PathTrail cs t x p
path_followed cs t [] x h run e = followed_none cs t x h (path_fits_end t (drop x.position cs) e)
path_followed cs t (i ∷ p) x h run e = on (path_took t i p (drop x.position cs) e) (path_followed cs t p)
  where
    r : Runs t x.state i p
    r = runs_cons t x.state i p run

    on : Took t i p (drop x.position cs) → Follows cs t p → PathTrail cs t x (i ∷ p)
    on (quiet none f) rest = followed_empty cs t x i p h r f none rest
    on (took c left is reads f more) rest = followed_symbol cs t x i c left p h r is reads f more rest

-- Never two trails to one path

pub never_two : (cs : List ℕ) (t : Transducer) (x : State) (ss ss' : List (Step State ℕ)) (y y' : State) → Trail (steps cs t) x ss y
    → Trail (steps cs t) x ss' y' → numbers ss ≡ numbers ss' → ss ≡ ss'
unfolding numbers
never_two cs t x [] [] y y' h h' e = refl
never_two cs t x [] (s ∷ ss) y y' h h' e = let z : ◌≡◌ {A = ℕ} 0 1 = cc in absurd (omega arith)
never_two cs t x (s ∷ ss) [] y y' h h' e = let z : ◌≡◌ {A = ℕ} 0 1 = cc in absurd (omega arith)
never_two cs t x (s ∷ ss) (s' ∷ ss') y y' h h' e =
    let o : s.origin ≡ s'.origin = cc in
    let os : map (λ (s : Step State ℕ). s.origin) ss ≡ map (λ (s : Step State ℕ). s.origin) ss' = cc in
    let same : s ≡ s' = same_origin cs t x s s' (mem_in h.0) (mem_in h'.0) o in
    let rest : Trail (steps cs t) s.target ss' y' = rw same h'.1 in
    ap₂ ◌∷◌ same (never_two cs t s.target ss ss' y y' h.1 rest os)

-- Trails from the first state to a final one stand for the accepting paths that fit the whole string

pub record Accepted (cs : List ℕ) (t : Transducer) (ss : List (Step State ℕ)) (y : State) : Type 0 where
  pub accepting : accepts t (numbers ss) ≡ true
  pub whole : path_fits t cs (numbers ss) ≡ true
  pub reads : inputs ss ≡ cs
  pub writes : outputs ss ≡ path_passed t cs (numbers ss)
  pub cost : plus (weights ss) (final_weight t.finals y.state) ≡ path_cost t (numbers ss)

pub trail_accepted : (cs : List ℕ) (t : Transducer) (ss : List (Step State ℕ)) (y : State) → Trail (steps cs t) (first_state t) ss y
    → final_state cs t y ≡ true → Accepted cs t ss y
unfolding final_state accepts path_cost
trail_accepted cs t ss y h f =
    let l : TrailPath cs t (first_state t) ss y = trail_leads cs t (first_state t) ss y h in
    let p : (eqb y.position (length cs) ≡ true) × (is_final t.finals y.state ≡ true) =
    and-true (eqb y.position (length cs)) (is_final t.finals y.state) f in
    let at_end : y.position ≡ length cs = eqb-true y.position (length cs) p.0 in
    let rest : drop y.position cs ≡ [] = ap (λ (n : ℕ). drop n cs) at_end ∙ drop-length cs in
    record {
      accepting = true_and (runs t t.start (numbers ss)) (is_final t.finals (ends t t.start (numbers ss))) l.path_runs (rw l.path_ends p.1);
      whole = l.fitting at_end;
      reads = sym (append-nil (inputs ss)) ∙ ap (λ (r : List ℕ). inputs ss ++ r) (sym rest) ∙ l.consumes;
      writes = l.writes;
      cost = rw (l.costs, l.path_ends);
    }

pub accepting_followed : (cs : List ℕ) (t : Transducer) (p : List ℕ) → accepts t p ≡ true → path_fits t cs p ≡ true
    → (r : PathTrail cs t (first_state t) p) × (final_state cs t r.last ≡ true)
unfolding final_state accepts
accepting_followed cs t p a e =
    let b : (runs t t.start p ≡ true) × (is_final t.finals (ends t t.start p) ≡ true) =
    and-true (runs t t.start p) (is_final t.finals (ends t t.start p)) a in
    let r : PathTrail cs t (first_state t) p = path_followed cs t p (first_state t) (omega arith) b.0 e in
    let f : is_final t.finals r.last.state ≡ true = rw r.in_state b.1 in (
      r,
      true_and (eqb r.last.position (length cs)) (is_final t.finals r.last.state) (eq-eqb r.last.position (length cs) r.at_end) f,
    )
