-- Accepting paths from any state, paths put end to end, and transducers whose arcs stay within their states. Assumes nothing.
use Rattle.std.proofs.Common.{◌≡◌, ℕ, ◌<◌, Bool, true, ◌&&◌, eqb, ltb, List, [], ◌∷◌, ◌++◌, length, sym, refl, ap, ◌∙◌, ltb-true}
use mathlib.Core.Bool.{and_assoc}
use Rattle.wire.specs.Bytes.{every}
use Rattle.wire.proofs.Places.{every_get_or}
use Rattle.wire.proofs.Bool.{and-true, true_and}
use Rattle.transducer.specs.declared.Arc.{Arc}
use Rattle.transducer.specs.declared.Final.{Final}
use Rattle.transducer.specs.Format.{Transducer, Good, states_good}
use Rattle.transducer.specs.Path.{arc, no_arc, is_final, runs, ends, accepts}
use Rattle.transducer.proofs.Good.{head_range, content_good}
use Rattle.transducer.proofs.Paths.{Runs, runs_cons, cons_runs}

-- A path from a state that ends in a final one.
pub record Accepting (t : Transducer) (s : ℕ) (p : List ℕ) : Type 0 where
  pub goes : runs t s p ≡ true
  pub final : is_final t.finals (ends t s p) ≡ true

pub accepts_accepting : (t : Transducer) (p : List ℕ) → accepts t p ≡ true → Accepting t t.start p
unfolding accepts
accepts_accepting t p h =
    let both = and-true (runs t t.start p) (is_final t.finals (ends t t.start p)) h in
    record { goes = both.0; final = both.1 }

pub accepting_accepts : (t : Transducer) (p : List ℕ) → Accepting t t.start p → accepts t p ≡ true
unfolding accepts
accepting_accepts t p h = true_and (runs t t.start p) (is_final t.finals (ends t t.start p)) h.goes h.final

-- The empty path, and a path of at least one arc.

pub accepting_nil : (t : Transducer) (s : ℕ) → Accepting t s [] → is_final t.finals s ≡ true
unfolding ends
accepting_nil t s h = h.final

pub nil_accepting : (t : Transducer) (s : ℕ) → is_final t.finals s ≡ true → Accepting t s []
unfolding runs ends
nil_accepting t s h = record { goes = refl; final = h }

pub record AcceptingBy (t : Transducer) (s i : ℕ) (p : List ℕ) : Type 0 where
  pub below : i < length t.arcs
  pub leaves : (arc t i).source ≡ s
  pub rest : Accepting t (arc t i).target p

pub accepting_cons : (t : Transducer) (s i : ℕ) (p : List ℕ) → Accepting t s (i ∷ p) → AcceptingBy t s i p
unfolding ends
accepting_cons t s i p h =
    let r : Runs t s i p = runs_cons t s i p h.goes in
    record { below = r.below; leaves = r.leaves; rest = record { goes = r.rest; final = h.final } }

pub cons_accepting : (t : Transducer) (s i : ℕ) (p : List ℕ) → AcceptingBy t s i p → Accepting t s (i ∷ p)
unfolding ends
cons_accepting t s i p h =
    record { goes = cons_runs t s i p (record { below = h.below; leaves = h.leaves; rest = h.rest.goes }); final = h.rest.final }

-- Paths put end to end.

pub runs_append : (t : Transducer) (s : ℕ) (p q : List ℕ) → runs t s (p ++ q) ≡ runs t s p && runs t (ends t s p) q
unfolding runs ends
runs_append t s [] q = refl
runs_append t s (i ∷ p) q =
    let u = (arc t i).target in
    let here : Bool = ltb i (length t.arcs) && eqb (arc t i).source s in
    ap (λ (b : Bool). here && b) (runs_append t u p q) ∙ sym (and_assoc here (runs t u p) (runs t (ends t u p) q))

pub ends_append : (t : Transducer) (s : ℕ) (p q : List ℕ) → ends t s (p ++ q) ≡ ends t (ends t s p) q
unfolding ends
ends_append t s [] q = refl
ends_append t s (i ∷ p) q = ends_append t (arc t i).target p q

pub accepting_append : (t : Transducer) (s : ℕ) (p q : List ℕ) → Accepting t s (p ++ q) → (runs t s p ≡ true) × Accepting t (ends t s p) q
accepting_append t s p q h =
    let both = and-true (runs t s p) (runs t (ends t s p) q) (sym (runs_append t s p q) ∙ h.goes) in
    (both.0, record { goes = both.1; final = rw ends_append at h.final })

pub append_accepting : (t : Transducer) (s : ℕ) (p q : List ℕ) → runs t s p ≡ true → Accepting t (ends t s p) q → Accepting t s (p ++ q)
append_accepting t s p q h r =
    record { goes = rw runs_append (true_and (runs t s p) (runs t (ends t s p) q) h r.goes); final = rw ends_append r.final }

-- Arcs that stay within the states.

pub record Within (t : Transducer) : Type 0 where
  pub leaves : (i : ℕ) → i < length t.arcs → (arc t i).source < t.states
  pub arrives : (i : ℕ) → i < length t.arcs → (arc t i).target < t.states
  pub starts : t.start < t.states

pub states_good_within : (t : Transducer) → states_good t ≡ true → t.start < t.states → Within t
unfolding states_good arc
states_good_within t h b =
    let test : Arc → Bool = λ a. ltb a.source t.states && ltb a.target t.states in
    let finals : Bool = every (λ (f : Final). ltb f.state t.states) t.finals in
    let all : every test t.arcs ≡ true = (and-true finals (every test t.arcs) h).1 in
    let both : (i : ℕ) → i < length t.arcs → (ltb (arc t i).source t.states ≡ true) × (ltb (arc t i).target t.states ≡ true) =
    λ i l. and-true (ltb (arc t i).source t.states) (ltb (arc t i).target t.states) (every_get_or test t.arcs i no_arc all l) in
    record {
      leaves = λ i l. ltb-true (arc t i).source t.states (both i l).0;
      arrives = λ i l. ltb-true (arc t i).target t.states (both i l).1;
      starts = b;
    }

pub good_within : (t : Transducer) → Good t → Within t
good_within t g =
    states_good_within t (content_good t g.content).states (head_range t.states (length t.arcs) (length t.finals) t.start g.head).start

pub ends_below : (t : Transducer) → Within t → (s : ℕ) (p : List ℕ) → s < t.states → runs t s p ≡ true → ends t s p < t.states
unfolding ends
ends_below t w s [] b h = b
ends_below t w s (i ∷ p) b h =
    let r : Runs t s i p = runs_cons t s i p h in
    ends_below t w (arc t i).target p (w.arrives i r.below) r.rest
