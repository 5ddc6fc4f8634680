-- What `accessible` and `coaccessible` mean for paths. Assumes nothing.
use mathlib.Core.Path.{◌≡◌, refl, sym, ◌∙◌}
use mathlib.Core.Bool.{Bool, true, ◌&&◌}
use mathlib.Core.Logic.{◌⊎◌, inl, inr}
use mathlib.Core.List.{List, [], ◌∷◌, ◌++◌}
use Prim.Native.Nat.{ℕ, zero, suc, ◌+◌, ◌-◌, ◌≤◌, ◌<◌}
use native.Mathlib.Nat.{not-suc-le-zero, le_of_suc-le-suc, zero-add, suc-add}
use native.Mathlib.Omega.{arith}
use lib.Dec.{eqb}
use lib.ListN.{length, get_or, length-append}
use borrow.Author.Tests.{eqb-true, eq-eqb}
use Rattle.wire.proofs.Bool.{and-true, true_and, or-true, or_left, or_right}
use Rattle.transducer.specs.declared.Arc.{Arc}
use Rattle.transducer.specs.Format.{Transducer}
use Rattle.transducer.specs.Path.{arc, no_arc, is_final, runs, ends}
use Rattle.transducer.proofs.Paths.{Runs, runs_cons, cons_runs}
use Rattle.transducer.proofs.Runs.{Accepting, AcceptingBy, nil_accepting, accepting_nil, accepting_cons, cons_accepting}
use Rattle.transducer.proofs.Runs.{runs_append, ends_append, Within, ends_below}
use Rattle.reach.specs.Reach.{entered, some_arc, accessible, coaccessible}
use Rattle.reach.proofs.Counted.{Chain, Wider, chain_rests}

-- One arc more

pub record EnteredAt (l : List Arc) (s : ℕ) (f : ℕ → Bool) : Type 0 where
  pub place : ℕ
  pub below : place < length l
  pub arrives : (get_or l place no_arc).target ≡ s
  pub from : f (get_or l place no_arc).source ≡ true

pub entered_at : (l : List Arc) (s : ℕ) (f : ℕ → Bool) → entered l s f ≡ true → EnteredAt l s f
unfolding entered
entered_at [] s f h = let z : ◌≡◌ {A = ℕ} 0 1 = cc in absurd (omega arith)
entered_at (a ∷ l) s f h = on (λ h'. entered_at l s f h') (or-true (eqb a.target s && f a.source) (entered l s f) h)
  where
    on : (entered l s f ≡ true → EnteredAt l s f) → (eqb a.target s && f a.source ≡ true) ⊎ (entered l s f ≡ true) → EnteredAt (a ∷ l) s f
    on more (inl e) =
        let p = and-true (eqb a.target s) (f a.source) e in
        record { place = 0; below = omega arith; arrives = eqb-true a.target s p.0; from = p.1 }
    on more (inr e) =
        let r : EnteredAt l s f = more e in
        record { place = suc r.place; below = omega arith; arrives = r.arrives; from = r.from }

pub at_entered : (l : List Arc) (s : ℕ) (f : ℕ → Bool) (i : ℕ) → i < length l → (get_or l i no_arc).target ≡ s → f (get_or l i no_arc).source ≡ true
    → entered l s f ≡ true
unfolding entered
at_entered [] s f i h e p = absurd (not-suc-le-zero h)
at_entered (a ∷ l) s f zero h e p =
    or_left (eqb a.target s && f a.source) (entered l s f) (true_and (eqb a.target s) (f a.source) (eq-eqb a.target s e) p)
at_entered (a ∷ l) s f (suc i) h e p =
    or_right (eqb a.target s && f a.source) (entered l s f) (at_entered l s f i (le_of_suc-le-suc h) e p)

pub record SomeAt (l : List Arc) (s : ℕ) (f : ℕ → Bool) : Type 0 where
  pub place : ℕ
  pub below : place < length l
  pub leaves : (get_or l place no_arc).source ≡ s
  pub for : f (get_or l place no_arc).target ≡ true

pub some_arc_at : (l : List Arc) (s : ℕ) (f : ℕ → Bool) → some_arc l s f ≡ true → SomeAt l s f
unfolding some_arc
some_arc_at [] s f h = let z : ◌≡◌ {A = ℕ} 0 1 = cc in absurd (omega arith)
some_arc_at (a ∷ l) s f h = on (λ h'. some_arc_at l s f h') (or-true (eqb a.source s && f a.target) (some_arc l s f) h)
  where
    on : (some_arc l s f ≡ true → SomeAt l s f) → (eqb a.source s && f a.target ≡ true) ⊎ (some_arc l s f ≡ true) → SomeAt (a ∷ l) s f
    on more (inl e) =
        let p = and-true (eqb a.source s) (f a.target) e in
        record { place = 0; below = omega arith; leaves = eqb-true a.source s p.0; for = p.1 }
    on more (inr e) =
        let r : SomeAt l s f = more e in
        record { place = suc r.place; below = omega arith; leaves = r.leaves; for = r.for }

pub at_some_arc : (l : List Arc) (s : ℕ) (f : ℕ → Bool) (i : ℕ) → i < length l → (get_or l i no_arc).source ≡ s → f (get_or l i no_arc).target ≡ true
    → some_arc l s f ≡ true
unfolding some_arc
at_some_arc [] s f i h e p = absurd (not-suc-le-zero h)
at_some_arc (a ∷ l) s f zero h e p =
    or_left (eqb a.source s && f a.target) (some_arc l s f) (true_and (eqb a.source s) (f a.target) (eq-eqb a.source s e) p)
at_some_arc (a ∷ l) s f (suc i) h e p =
    or_right (eqb a.source s && f a.target) (some_arc l s f) (at_some_arc l s f i (le_of_suc-le-suc h) e p)

-- Begun to a state

pub accessible_start : (k : ℕ) (t : Transducer) → accessible k t t.start ≡ true
unfolding accessible
accessible_start zero t = eq-eqb t.start t.start refl
accessible_start (suc k) t = or_left (eqb t.start t.start) (entered t.arcs t.start (accessible k t)) (eq-eqb t.start t.start refl)

pub accessible_next : (k : ℕ) (t : Transducer) (i : ℕ) → i < length t.arcs → accessible k t (arc t i).source ≡ true
    → accessible (suc k) t (arc t i).target ≡ true
unfolding accessible arc
accessible_next k t i h e =
    or_right (eqb (arc t i).target t.start) (entered t.arcs (arc t i).target (accessible k t))
    (at_entered t.arcs (arc t i).target (accessible k t) i h refl e)

-- The last arc of a path to a state, where it has one.
pub record CameBy (k : ℕ) (t : Transducer) (s : ℕ) : Type 0 where
  pub number : ℕ
  pub below : number < length t.arcs
  pub arrives : (arc t number).target ≡ s
  pub from : accessible k t (arc t number).source ≡ true

pub came : (k : ℕ) (t : Transducer) (s : ℕ) → accessible (suc k) t s ≡ true → (s ≡ t.start) ⊎ CameBy k t s
unfolding accessible arc
came k t s h = on (or-true (eqb s t.start) (entered t.arcs s (accessible k t)) h)
  where
    on : (eqb s t.start ≡ true) ⊎ (entered t.arcs s (accessible k t) ≡ true) → (s ≡ t.start) ⊎ CameBy k t s
    on (inl e) = inl (eqb-true s t.start e)
    on (inr e) =
        let r : EnteredAt t.arcs s (accessible k t) = entered_at t.arcs s (accessible k t) e in
        inr (record { number = r.place; below = r.below; arrives = r.arrives; from = r.from })

-- A path from the start to a state.
pub record PathTo (t : Transducer) (s : ℕ) : Type 0 where
  pub path : List ℕ
  pub goes : runs t t.start path ≡ true
  pub there : ends t t.start path ≡ s

path_nil : (t : Transducer) (s : ℕ) → s ≡ t.start → (r : PathTo t s) × (length r.path ≤ 0)
unfolding runs ends
path_nil t s e = (record { path = []; goes = refl; there = sym e }, omega arith)

pub path_snoc : (t : Transducer) (s i : ℕ) → i < length t.arcs → (arc t i).target ≡ s → (r : PathTo t (arc t i).source)
    → (q : PathTo t s) × (length q.path ≡ length r.path + 1)
unfolding ends runs
path_snoc t s i h e r =
    let one : runs t (ends t t.start r.path) (i ∷ []) ≡ true =
    cons_runs t (ends t t.start r.path) i [] (record { below = h; leaves = sym r.there; rest = refl }) in (
      record {
        path = r.path ++ (i ∷ []);
        goes = runs_append t t.start r.path (i ∷ [])
            ∙ true_and (runs t t.start r.path) (runs t (ends t t.start r.path) (i ∷ [])) r.goes one;
        there = ends_append t t.start r.path (i ∷ []) ∙ e;
      },
      length-append r.path (i ∷ []),
    )

pub accessible_path : (k : ℕ) (t : Transducer) (s : ℕ) → accessible k t s ≡ true → (r : PathTo t s) × (length r.path ≤ k)
unfolding accessible
accessible_path zero t s h = path_nil t s (eqb-true s t.start h)
accessible_path (suc k) t s h = on (λ s' h'. accessible_path k t s' h') (came k t s h)
  where
    on : ((s' : ℕ) → accessible k t s' ≡ true → (r : PathTo t s') × (length r.path ≤ k)) → (s ≡ t.start) ⊎ CameBy k t s
        → (r : PathTo t s) × (length r.path ≤ suc k)
    on more (inl e) = let r = path_nil t s e in (r.0, omega arith)
    on more (inr c) =
        let r = more (arc t c.number).source c.from in
        let q = path_snoc t s c.number c.below c.arrives r.0 in
        (q.0, omega arith)

pub accessible_longer : (k : ℕ) (t : Transducer) (s : ℕ) → accessible k t s ≡ true → accessible (suc k) t s ≡ true
unfolding accessible
accessible_longer zero t s h = or_left (eqb s t.start) (entered t.arcs s (accessible zero t)) h
accessible_longer (suc k) t s h = on (λ s' h'. accessible_longer k t s' h') (came k t s h)
  where
    on : ((s' : ℕ) → accessible k t s' ≡ true → accessible (suc k) t s' ≡ true) → (s ≡ t.start) ⊎ CameBy k t s → accessible (suc (suc k)) t s ≡ true
    on more (inl e) = rw e (accessible_start (suc (suc k)) t)
    on more (inr c) =
        let n : accessible (suc (suc k)) t (arc t c.number).target ≡ true =
        accessible_next (suc k) t c.number c.below (more (arc t c.number).source c.from) in
        rw c.arrives at n

-- From a state that is come to, each path comes to its end.
pub accessible_along : (k : ℕ) (t : Transducer) (s : ℕ) (p : List ℕ) → accessible k t s ≡ true → runs t s p ≡ true
    → accessible (length p + k) t (ends t s p) ≡ true
unfolding ends
accessible_along k t s [] c h = rw zero-add c
accessible_along k t s (i ∷ p) c h =
    let r : Runs t s i p = runs_cons t s i p h in
    let from : accessible k t (arc t i).source ≡ true = rw r.leaves c in
    let more : accessible (length p + suc k) t (ends t (arc t i).target p) ≡ true =
    accessible_along (suc k) t (arc t i).target p (accessible_next k t i r.below from) r.rest in
    let e : length p + suc k ≡ suc (length p) + k = omega arith in
    rw e at more

accessible_chain : (t : Transducer) → Within t → Chain t.states (λ k. accessible k t)
accessible_chain t w = record { grows = λ k s h. accessible_longer k t s; stays = λ k rests s h e. on k rests s (came (suc k) t s e) }
  where
    on : (k : ℕ) → Wider t.states (accessible (suc k) t) (accessible k t) → (s : ℕ) → (s ≡ t.start) ⊎ CameBy (suc k) t s → accessible (suc k) t s ≡ true
    on k rests s (inl e) = rw e (accessible_start (suc k) t)
    on k rests s (inr c) =
        let i : ℕ = c.number in
        let n : accessible (suc k) t (arc t i).target ≡ true =
        accessible_next k t i c.below (rests (arc t i).source (w.leaves i c.below) c.from) in
        rw c.arrives at n

-- As many arcs as states are enough.
pub path_accessible : (t : Transducer) → Within t → (s : ℕ) → PathTo t s → accessible t.states t s ≡ true
path_accessible t w s r =
    let n : ℕ = t.states in
    let last : ℕ = ends t t.start r.path in
    let far : accessible (length r.path + n) t last ≡ true = accessible_along n t t.start r.path (accessible_start n t) r.goes in
    let near : accessible n t last ≡ true =
    chain_rests n (λ k. accessible k t) (accessible_chain t w) (length r.path) last (ends_below t w t.start r.path w.starts r.goes) far in
    rw r.there at near

-- Getting out of a state

pub coaccessible_final : (k : ℕ) (t : Transducer) (s : ℕ) → is_final t.finals s ≡ true → coaccessible k t s ≡ true
unfolding coaccessible
coaccessible_final zero t s h = h
coaccessible_final (suc k) t s h = or_left (is_final t.finals s) (some_arc t.arcs s (coaccessible k t)) h

pub coaccessible_next : (k : ℕ) (t : Transducer) (s i : ℕ) → i < length t.arcs → (arc t i).source ≡ s → coaccessible k t (arc t i).target ≡ true
    → coaccessible (suc k) t s ≡ true
unfolding coaccessible arc
coaccessible_next k t s i h e o =
    or_right (is_final t.finals s) (some_arc t.arcs s (coaccessible k t)) (at_some_arc t.arcs s (coaccessible k t) i h e o)

-- The first arc of a path from a state, where it has one.
pub record GoesBy (k : ℕ) (t : Transducer) (s : ℕ) : Type 0 where
  pub number : ℕ
  pub below : number < length t.arcs
  pub leaves : (arc t number).source ≡ s
  pub for : coaccessible k t (arc t number).target ≡ true

pub goes : (k : ℕ) (t : Transducer) (s : ℕ) → coaccessible (suc k) t s ≡ true → (is_final t.finals s ≡ true) ⊎ GoesBy k t s
unfolding coaccessible arc
goes k t s h = on (or-true (is_final t.finals s) (some_arc t.arcs s (coaccessible k t)) h)
  where
    on : (is_final t.finals s ≡ true) ⊎ (some_arc t.arcs s (coaccessible k t) ≡ true) → (is_final t.finals s ≡ true) ⊎ GoesBy k t s
    on (inl e) = inl e
    on (inr e) =
        let r : SomeAt t.arcs s (coaccessible k t) = some_arc_at t.arcs s (coaccessible k t) e in
        inr (record { number = r.place; below = r.below; leaves = r.leaves; for = r.for })

pub coaccessible_path : (k : ℕ) (t : Transducer) (s : ℕ) → coaccessible k t s ≡ true → (p : List ℕ) × Accepting t s p × (length p ≤ k)
unfolding coaccessible
coaccessible_path zero t s h = ([], nil_accepting t s h, omega arith)
coaccessible_path (suc k) t s h = on (λ s' h'. coaccessible_path k t s' h') (goes k t s h)
  where
    on : ((s' : ℕ) → coaccessible k t s' ≡ true → (p : List ℕ) × Accepting t s' p × (length p ≤ k)) → (is_final t.finals s ≡ true) ⊎ GoesBy k t s
        → (p : List ℕ) × Accepting t s p × (length p ≤ suc k)
    on more (inl e) = ([], nil_accepting t s e, omega arith)
    on more (inr g) =
        let i : ℕ = g.number in
        let r = more (arc t i).target g.for in
        (i ∷ r.0, cons_accepting t s i r.0 (record { below = g.below; leaves = g.leaves; rest = r.1 }), omega arith)

pub coaccessible_along : (k : ℕ) (t : Transducer) (s : ℕ) (p : List ℕ) → Accepting t s p → coaccessible (length p + k) t s ≡ true
coaccessible_along k t s [] a = rw zero-add (coaccessible_final k t s (accepting_nil t s a))
coaccessible_along k t s (i ∷ p) a =
    let r : AcceptingBy t s i p = accepting_cons t s i p a in
    rw suc-add (coaccessible_next (length p + k) t s i r.below r.leaves (coaccessible_along k t (arc t i).target p r.rest))

pub path_coaccessible_in : (k : ℕ) (t : Transducer) (s : ℕ) (p : List ℕ) → Accepting t s p → length p ≤ k → coaccessible k t s ≡ true
path_coaccessible_in k t s p a h =
    let e : length p + (k - length p) ≡ k = omega arith in
    rw e at (coaccessible_along (k - length p) t s p a)

pub coaccessible_longer : (k : ℕ) (t : Transducer) (s : ℕ) → coaccessible k t s ≡ true → coaccessible (suc k) t s ≡ true
coaccessible_longer k t s h = let r = coaccessible_path k t s h in path_coaccessible_in (suc k) t s r.0 r.1 (omega arith)

coaccessible_chain : (t : Transducer) → Within t → Chain t.states (λ k. coaccessible k t)
coaccessible_chain t w = record { grows = λ k s h. coaccessible_longer k t s; stays = λ k rests s h e. on k rests s (goes (suc k) t s e) }
  where
    on : (k : ℕ) → Wider t.states (coaccessible (suc k) t) (coaccessible k t) → (s : ℕ) → (is_final t.finals s ≡ true) ⊎ GoesBy (suc k) t s
        → coaccessible (suc k) t s ≡ true
    on k rests s (inl e) = coaccessible_final (suc k) t s e
    on k rests s (inr g) =
        let i : ℕ = g.number in
        coaccessible_next k t s i g.below g.leaves (rests (arc t i).target (w.arrives i g.below) g.for)

-- As many arcs as states are enough.
pub path_coaccessible : (t : Transducer) → Within t → (s : ℕ) (p : List ℕ) → Accepting t s p → coaccessible t.states t s ≡ true
path_coaccessible t w s [] a = coaccessible_final t.states t s (accepting_nil t s a)
path_coaccessible t w s (i ∷ p) a =
    let r : AcceptingBy t s i p = accepting_cons t s i p a in
    let b : (arc t i).source < t.states = w.leaves i r.below in
    let below : s < t.states = rw r.leaves at b in
    chain_rests t.states (λ k. coaccessible k t) (coaccessible_chain t w) (length (i ∷ p)) s below (coaccessible_along t.states t s (i ∷ p) a)
