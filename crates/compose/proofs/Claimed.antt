-- What composition claims holds where it is not refused. Assumes nothing.
use mathlib.Core.Path.{◌≡◌, sym, ap, ◌∙◌}
use mathlib.Core.Bool.{true}
use mathlib.Core.List.{List}
use Prim.Native.Nat.{ℕ, ◌≤◌}
use lib.ListN.{length}
use Rattle.transducer.specs.Format.{max_states, Transducer, Good}
use Rattle.transducer.specs.Path.{accepts, read_by, written_by, path_cost}
use Rattle.transducer.specs.Weight.{plus}
use Rattle.explore.specs.Explore.{Step, built_refusal}
use Rattle.explore.proofs.Member.{at_length, at_get_or}
use Rattle.explore.proofs.Trails.{inputs, outputs, weights, along, Once}
use Rattle.explore.proofs.Accepting.{accepts_read, accepts_written, accepts_once, accepts_trail, trail_accepts}
use Rattle.explore.proofs.Built.{unrefused_few}
use Rattle.steps.specs.declared.Origin.{Origin}
use Rattle.steps.specs.declared.State.{State}
use Rattle.steps.specs.Steps.{same_state, steps, first_state}
use Rattle.compose.specs.Compose.{final_state, state_weight, composed}
use Rattle.compose.specs.Entry.{origin_pairs}
use Rattle.compose.specs.Claim.{met_at, Pair, StandsFor, OneToOne, LeastSums}
use Rattle.compose.proofs.Trail.{lefts, rights}
use Rattle.compose.proofs.Leads.{Leads, trail_leads}
use Rattle.compose.proofs.Pairing.{never_two}
use Rattle.compose.proofs.Origins.{origin_once}
use Rattle.compose.proofs.LeastSums.{one_to_one_least_sums}
use Rattle.steps.proofs.SameState.{same_state_decides}
use Rattle.compose.proofs.MetPaths.{no_step, met_lefts, met_rights}
use Rattle.compose.proofs.Pairs.{Accepted, accepted_pair, accepted_cost, PairTrail, pair_accepted}
use Rattle.compose.proofs.Written.{good_arcs_below}

-- No step stands twice among the steps of a state.
pub steps_once : (t u : Transducer) → Once (steps t u)
steps_once t u x k l s h m =
    origin_once t u x s k l (at_length (steps t u x) k s h) (at_length (steps t u x) l s m)
    (ap (λ (s : Step State Origin). s.origin) (at_get_or (steps t u x) k s s h ∙ sym (at_get_or (steps t u x) l s s m)))

module _ (t u : Transducer) (good_t : Good t) (good_u : Good u) (fine : built_refusal (composed t u).result ≡ 0) where
  abbrev taken : List ℕ → List (Step State Origin)
  taken p = along (composed t u) no_step p

  abbrev origins : List ℕ
  origins = origin_pairs (composed t u).steps

  few : length (composed t u).states ≤ max_states
  unfolding composed
  few = unrefused_few same_state (steps t u) (final_state t u) (state_weight t u) (first_state t u) same_state_decides fine

  -- The steps of an accepting path.
  record StepsOf (p : List ℕ) : Type 0 where
    last : State
    accepted : Accepted t u (taken p) last
    reads : read_by (composed t u).result p ≡ inputs (taken p)
    writes : written_by (composed t u).result p ≡ outputs (taken p)
    costs : path_cost (composed t u).result p ≡ plus (weights (taken p)) (state_weight t u last)

  steps_of : (p : List ℕ) → accepts (composed t u).result p ≡ true → StepsOf p
  unfolding composed
  steps_of p h =
      let r = accepts_trail same_state (steps t u) (final_state t u) (state_weight t u) (first_state t u) no_step same_state_decides few p h in
      record {
        last = r.0;
        accepted = r.1;
        reads = accepts_read same_state (steps t u) (final_state t u) (state_weight t u) (first_state t u) no_step p h;
        writes = accepts_written same_state (steps t u) (final_state t u) (state_weight t u) (first_state t u) no_step p h;
        costs = r.2;
      }

  left_met : (p : List ℕ) → accepts (composed t u).result p ≡ true → met_at origins 0 p ≡ lefts (taken p)
  left_met p h =
      let r : StepsOf p = steps_of p h in
      met_lefts (composed t u) t u p (first_state t u) r.last r.accepted.trail (good_arcs_below t good_t)

  right_met : (p : List ℕ) → accepts (composed t u).result p ≡ true → met_at origins 1 p ≡ rights (taken p)
  right_met p h =
      let r : StepsOf p = steps_of p h in
      met_rights (composed t u) t u p (first_state t u) r.last r.accepted.trail (good_arcs_below u good_u)

  pub composed_leads : (p : List ℕ) → accepts (composed t u).result p ≡ true
      → StandsFor t u (composed t u).result p (met_at origins 0 p) (met_at origins 1 p)
  composed_leads p h =
      let r : StepsOf p = steps_of p h in
      let l : Leads t u (first_state t u) (taken p) r.last = trail_leads t u (first_state t u) (taken p) r.last r.accepted.trail in
      rw (left_met p h, right_met p h)
      (record {
        pair = accepted_pair t u (taken p) r.last r.accepted;
        reads = r.reads ∙ l.reads;
        writes = r.writes ∙ l.writes;
        costs = r.costs ∙ accepted_cost t u (taken p) r.last r.accepted;
      })

  pub composed_never_two : (p q : List ℕ) → accepts (composed t u).result p ≡ true → accepts (composed t u).result q ≡ true
      → met_at origins 0 p ≡ met_at origins 0 q → met_at origins 1 p ≡ met_at origins 1 q → p ≡ q
  unfolding composed
  composed_never_two p q h k el er =
      let r : StepsOf p = steps_of p h in
      let s : StepsOf q = steps_of q k in
      let left : lefts (taken p) ≡ lefts (taken q) = sym (left_met p h) ∙ el ∙ left_met q k in
      let right : rights (taken p) ≡ rights (taken q) = sym (right_met p h) ∙ er ∙ right_met q k in
      let same : taken p ≡ taken q =
      never_two t u (first_state t u) (taken p) (taken q) r.last s.last r.accepted.trail s.accepted.trail left right in
      accepts_once same_state (steps t u) (final_state t u) (state_weight t u) (first_state t u) no_step (steps_once t u) p q h k same

  pub composed_every : (x y : List ℕ) → Pair t u x y
      → (p : List ℕ) × (accepts (composed t u).result p ≡ true) × (met_at origins 0 p ≡ x) × (met_at origins 1 p ≡ y)
  unfolding composed
  composed_every x y pair =
      let q : PairTrail t u x y = pair_accepted t u x y pair in
      let r =
      trail_accepts same_state (steps t u) (final_state t u) (state_weight t u) (first_state t u) no_step same_state_decides few q.taken q.last
      q.accepted in
      let p : List ℕ = r.0 in
      let e : taken p ≡ q.taken = r.2 in
      (p, r.1, left_met p r.1 ∙ ap lefts e ∙ q.left_path, right_met p r.1 ∙ ap rights e ∙ q.right_path)

  pub composed_one_to_one : OneToOne t u (composed t u).result (origin_pairs (composed t u).steps)
  composed_one_to_one = record { leads = composed_leads; never_two = composed_never_two; every = composed_every }

  pub composed_least_sums : LeastSums t u (composed t u).result
  composed_least_sums = one_to_one_least_sums t u (composed t u).result (origin_pairs (composed t u).steps) composed_one_to_one
