-- A state is useful where it lies on an accepting path, and an arc likewise. Assumes nothing.
use mathlib.Core.Path.{◌≡◌, refl, sym, ap, ap₂, ◌∙◌}
use mathlib.Core.Bool.{Bool, true, false, ◌&&◌, and_self}
use mathlib.Core.List.{List, [], ◌∷◌, ◌++◌}
use Prim.Native.Nat.{ℕ, ◌<◌}
use lib.ListN.{length, get_or}
use Rattle.wire.proofs.Bool.{and-true, true_and}
use Rattle.transducer.specs.Format.{Transducer}
use Rattle.transducer.specs.Path.{arc, runs, ends, accepts}
use Rattle.transducer.proofs.Runs.{Accepting, AcceptingBy, accepting_cons, cons_accepting}
use Rattle.transducer.proofs.Runs.{accepting_append, append_accepting, accepts_accepting, accepting_accepts, Within}
use Rattle.reach.specs.Reach.{accessible, coaccessible, AllAccessible}
use Rattle.reach.specs.Marks.{Marked}
use Rattle.trim.specs.Trim.{useful, arc_useful}
use Rattle.reach.proofs.Reach.{PathTo, path_snoc, accessible_path, path_accessible, coaccessible_path, path_coaccessible}

-- A state on an accepting path: the path up to there, and from there on.
pub record OnPath (t : Transducer) (s : ℕ) : Type 0 where
  pub before : List ℕ
  pub after : List ℕ
  pub comes : runs t t.start before ≡ true
  pub here : ends t t.start before ≡ s
  pub out : Accepting t s after

pub useful_on_path : (t : Transducer) (s : ℕ) → useful t s ≡ true → OnPath t s
unfolding useful
useful_on_path t s h =
    let b : (accessible t.states t s ≡ true) × (coaccessible t.states t s ≡ true) =
    and-true (accessible t.states t s) (coaccessible t.states t s) h in
    let p = accessible_path t.states t s b.0 in
    let q = coaccessible_path t.states t s b.1 in
    record { before = p.0.path; after = q.0; comes = p.0.goes; here = p.0.there; out = q.1 }

pub on_path_useful : (t : Transducer) → Within t → (s : ℕ) → OnPath t s → useful t s ≡ true
unfolding useful
on_path_useful t w s r =
    true_and (accessible t.states t s) (coaccessible t.states t s)
    (path_accessible t w s (record { path = r.before; goes = r.comes; there = r.here })) (path_coaccessible t w s r.after r.out)

pub on_path_accepts : (t : Transducer) (s : ℕ) (r : OnPath t s) → accepts t (r.before ++ r.after) ≡ true
on_path_accepts t s r = accepting_accepts t (r.before ++ r.after) (append_accepting t t.start r.before r.after r.comes (rw r.here r.out))

pub accepts_on_path : (t : Transducer) (p q : List ℕ) → accepts t (p ++ q) ≡ true → OnPath t (ends t t.start p)
accepts_on_path t p q h =
    let r = accepting_append t t.start p q (accepts_accepting t (p ++ q) h) in
    record { before = p; after = q; comes = r.0; here = refl; out = r.1 }

-- The state behind the next arc of an accepting path is useful too.
pub useful_next : (t : Transducer) → Within t → (s i : ℕ) (q : List ℕ) → useful t s ≡ true → AcceptingBy t s i q → useful t (arc t i).target ≡ true
useful_next t w s i q h r =
    let b : OnPath t s = useful_on_path t s h in
    let to : PathTo t (arc t i).source = record { path = b.before; goes = b.comes; there = b.here ∙ sym r.leaves } in
    let on : PathTo t (arc t i).target = (path_snoc t (arc t i).target i r.below refl to).0 in
    on_path_useful t w (arc t i).target (record { before = on.path; after = q; comes = on.goes; here = on.there; out = r.rest })

-- An arc on an accepting path: the path before it, and behind it.
pub record ArcOnPath (t : Transducer) (i : ℕ) : Type 0 where
  pub before : List ℕ
  pub after : List ℕ
  pub accepting : accepts t (before ++ i ∷ after) ≡ true

pub arc_useful_on_path : (t : Transducer) (i : ℕ) → i < length t.arcs → arc_useful t (arc t i) ≡ true → ArcOnPath t i
unfolding arc_useful
arc_useful_on_path t i h u =
    let two : (useful t (arc t i).source ≡ true) × (useful t (arc t i).target ≡ true) =
    and-true (useful t (arc t i).source) (useful t (arc t i).target) u in
    let b : OnPath t (arc t i).source = useful_on_path t (arc t i).source two.0 in
    let c : OnPath t (arc t i).target = useful_on_path t (arc t i).target two.1 in
    let rest : Accepting t (arc t i).source (i ∷ c.after) =
    cons_accepting t (arc t i).source i c.after (record { below = h; leaves = refl; rest = c.out }) in
    record {
      before = b.before;
      after = c.after;
      accepting =
          accepting_accepts t (b.before ++ i ∷ c.after)
          (append_accepting t t.start b.before (i ∷ c.after) b.comes (rw b.here rest));
    }

pub arc_on_path_useful : (t : Transducer) → Within t → (i : ℕ) → ArcOnPath t i → (i < length t.arcs) × (arc_useful t (arc t i) ≡ true)
unfolding arc_useful
arc_on_path_useful t w i r =
    let s : ℕ = ends t t.start r.before in
    let two : (runs t t.start r.before ≡ true) × Accepting t s (i ∷ r.after) =
    accepting_append t t.start r.before (i ∷ r.after) (accepts_accepting t (r.before ++ i ∷ r.after) r.accepting) in
    let a : AcceptingBy t s i r.after = accepting_cons t s i r.after two.1 in
    let u : useful t s ≡ true =
    on_path_useful t w s (record { before = r.before; after = i ∷ r.after; comes = two.0; here = refl; out = two.1 }) in (
      a.below,
      true_and (useful t (arc t i).source) (useful t (arc t i).target) (ap (useful t) a.leaves ∙ u) (useful_next t w s i r.after u a),
    )

pub start_useful : (t : Transducer) → Within t → (p : List ℕ) → accepts t p ≡ true → useful t t.start ≡ true
unfolding runs ends
start_useful t w p h =
    on_path_useful t w t.start (record { before = []; after = p; comes = refl; here = refl; out = accepts_accepting t p h })

-- Marks from both ends are those of useful states.
pub both_useful : (t : Transducer) {a b : List Bool} → Marked (accessible t.states t) a → Marked (coaccessible t.states t) b
    → (s : ℕ) → s < t.states → get_or a s false && get_or b s false ≡ useful t s
unfolding useful
both_useful t m n s l = ap₂ ◌&&◌ (m.at_state s) (n.at_state s)

-- Where each state is accessible, the marks from the finals tell all.
pub coaccessible_useful : (t : Transducer) {b : List Bool} → AllAccessible t → Marked (coaccessible t.states t) b
    → (s : ℕ) → s < t.states → get_or b s false && get_or b s false ≡ useful t s
unfolding useful
coaccessible_useful t all n s l = rw (n.at_state s, all s l) (and_self (coaccessible t.states t s))
