-- The accepting trails of composed steps and the pairs of accepting paths: each trail leads to a pair, and every pair has one. Assumes nothing.
use mathlib.Core.Path.{◌≡◌, sym, ap, ap₂, ◌∙◌}
use mathlib.Core.Bool.{true, ◌&&◌}
use mathlib.Core.List.{List}
use Prim.Native.Nat.{ℕ}
use Rattle.wire.proofs.Bool.{and-true, true_and}
use Rattle.transducer.specs.Format.{Transducer}
use Rattle.transducer.specs.Path.{is_final, final_weight, runs, ends, accepts, arcs_cost, path_cost}
use Rattle.transducer.specs.Weight.{plus}
use Rattle.transducer.proofs.Weights.{plus_across}
use Rattle.explore.specs.Explore.{Step}
use Rattle.explore.proofs.Trails.{weights}
use Rattle.explore.proofs.Accepting.{Accepting}
use Rattle.steps.specs.declared.Origin.{Origin}
use Rattle.steps.specs.declared.State.{State}
use Rattle.steps.specs.Steps.{steps, first_state}
use Rattle.compose.specs.Compose.{final_state, state_weight}
use Rattle.compose.specs.Claim.{Pair}
use Rattle.compose.proofs.Trail.{lefts, rights}
use Rattle.compose.proofs.Leads.{Leads, trail_leads}
use Rattle.compose.proofs.Pairing.{Paired, pair_trail}

-- A trail from the first state to a final one.
abbrev pub Accepted : (t u : Transducer) → (ss : List (Step State Origin)) → (y : State) → Type 0
Accepted t u ss y = Accepting (steps t u) (final_state t u) (first_state t u) ss y

ends_final : (t : Transducer) (p : List ℕ) (s : ℕ) → runs t t.start p ≡ true → ends t t.start p ≡ s → is_final t.finals s ≡ true
    → accepts t p ≡ true
unfolding accepts
ends_final t p s r e f = true_and (runs t t.start p) (is_final t.finals (ends t t.start p)) r (rw e f)

accepted_leads : (t u : Transducer) (ss : List (Step State Origin)) (y : State) → Accepted t u ss y → Leads t u (first_state t u) ss y
accepted_leads t u ss y a = trail_leads t u (first_state t u) ss y a.trail

accepted_finals : (t u : Transducer) (ss : List (Step State Origin)) (y : State) → Accepted t u ss y
    → (is_final t.finals y.left ≡ true) × (is_final u.finals y.right ≡ true)
unfolding final_state
accepted_finals t u ss y a = and-true (is_final t.finals y.left) (is_final u.finals y.right) a.final_end

pub accepted_pair : (t u : Transducer) (ss : List (Step State Origin)) (y : State) → Accepted t u ss y → Pair t u (lefts ss) (rights ss)
unfolding first_state
accepted_pair t u ss y a =
    let l : Leads t u (first_state t u) ss y = accepted_leads t u ss y a in
    let f = accepted_finals t u ss y a in
    record {
      left_accepts = ends_final t (lefts ss) y.left l.left_runs l.left_ends f.0;
      right_accepts = ends_final u (rights ss) y.right l.right_runs l.right_ends f.1;
      meets = l.meets;
    }

pub accepted_cost : (t u : Transducer) (ss : List (Step State Origin)) (y : State) → Accepted t u ss y
    → plus (weights ss) (state_weight t u y) ≡ plus (path_cost t (lefts ss)) (path_cost u (rights ss))
unfolding first_state state_weight path_cost
accepted_cost t u ss y a =
    let l : Leads t u (first_state t u) ss y = accepted_leads t u ss y a in
    let left : final_weight t.finals (ends t t.start (lefts ss)) ≡ final_weight t.finals y.left =
    ap (final_weight t.finals) l.left_ends in
    let right : final_weight u.finals (ends u u.start (rights ss)) ≡ final_weight u.finals y.right =
    ap (final_weight u.finals) l.right_ends in
    ap₂ plus l.costs (ap₂ plus (sym left) (sym right))
    ∙ plus_across (arcs_cost t (lefts ss)) (arcs_cost u (rights ss)) (final_weight t.finals (ends t t.start (lefts ss)))
    (final_weight u.finals (ends u u.start (rights ss)))

-- The trail of a pair.
pub record PairTrail (t u : Transducer) (x y : List ℕ) : Type 0 where
  pub taken : List (Step State Origin)
  pub last : State
  pub accepted : Accepted t u taken last
  pub left_path : lefts taken ≡ x
  pub right_path : rights taken ≡ y

pub pair_accepted : (t u : Transducer) (x y : List ℕ) → Pair t u x y → PairTrail t u x y
unfolding accepts first_state final_state
pair_accepted t u x y p =
    let l = and-true (runs t t.start x) (is_final t.finals (ends t t.start x)) p.left_accepts in
    let r = and-true (runs u u.start y) (is_final u.finals (ends u u.start y)) p.right_accepts in
    let q : Paired t u (first_state t u) x y = pair_trail t u t.start u.start x y l.0 r.0 p.meets in
    let leads : Leads t u (first_state t u) q.taken q.last = trail_leads t u (first_state t u) q.taken q.last q.trail in
    let left : ends t t.start x ≡ q.last.left = ap (ends t t.start) (sym q.left_path) ∙ leads.left_ends in
    let right : ends u u.start y ≡ q.last.right = ap (ends u u.start) (sym q.right_path) ∙ leads.right_ends in
    let final_end : is_final t.finals q.last.left && is_final u.finals q.last.right ≡ true =
    true_and (is_final t.finals q.last.left) (is_final u.finals q.last.right) (rw left at l.1) (rw right at r.1) in
    record {
      taken = q.taken;
      last = q.last;
      accepted = record { trail = q.trail; final_end = final_end };
      left_path = q.left_path;
      right_path = q.right_path;
    }
