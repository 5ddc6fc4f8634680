-- Trails of composed steps stand one to one with pairs of paths of which the right fits what the left writes. Assumes nothing.
use mathlib.Core.Path.{◌≡◌, refl, sym, ap, ap₂, ◌∙◌}
use mathlib.Core.Bool.{Bool, true, false}
use mathlib.Core.List.{List, [], ◌∷◌}
use Prim.Native.Nat.{ℕ}
use native.Mathlib.Omega.{arith}
use lib.Dec.{eqb}
use borrow.Author.Tests.{eqb-true, eqb-false}
use Rattle.transducer.specs.Format.{Transducer}
use Rattle.transducer.specs.Path.{arc, runs, written_by}
use Rattle.transducer.specs.Each.{path_fits}
use Rattle.explore.specs.Explore.{Step}
use Rattle.steps.specs.declared.Origin.{Origin}
use Rattle.steps.specs.declared.Origin.TheVariants.{Left, Right, Both}
use Rattle.steps.specs.declared.State.{State}
use Rattle.steps.specs.Steps.{left_alone, right_alone, both_step, steps}
use Rattle.transducer.proofs.Fits.{fits_some}
use Rattle.transducer.proofs.FitPaths.{Took, quiet, took, path_took, path_fits_end}
use Rattle.transducer.proofs.Paths.{Runs, runs_cons, empty_passed, symbol_kept}
use Rattle.explore.proofs.Member.{mem_in, in_mem}
use Rattle.explore.proofs.Trails.{Trail}
use Rattle.compose.proofs.Trail.{add_left, add_right, lefts, rights}
use Rattle.steps.proofs.Moves.{Move, by_left, by_right, by_both, step_move, move_step}

-- Only from filter state 0 does a left path begin with an arc that writes nothing.
unfoldable pub FilterAllows : Transducer → (filter : ℕ) → (path : List ℕ) → Type 0
FilterAllows t k [] = Unit {0}
FilterAllows t k (i ∷ p) = (arc t i).output ≡ 0 → k ≡ 0

pub allows_zero : (t : Transducer) (p : List ℕ) → FilterAllows t 0 p
unfolding FilterAllows
allows_zero t [] = tt
allows_zero t (i ∷ p) = λ e. refl

allows_one : (t : Transducer) (k : ℕ) (p : List ℕ) → FilterAllows t 1 p → FilterAllows t k p
unfolding FilterAllows
allows_one t k [] r = tt
allows_one t k (i ∷ p) r = λ e. let z : ◌≡◌ {A = ℕ} 1 0 = r e in absurd (omega arith)

allows_step : (t u : Transducer) (x : State) (s : Step State Origin) (p : List ℕ) → Move t u x s → FilterAllows t s.target.filter p
    → FilterAllows t x.filter (add_left s.origin p)
unfolding FilterAllows left_alone right_alone both_step add_left
allows_step t u x s p (by_left m) = rw m.made (λ r e. m.allowed)
allows_step t u x s p (by_right m) = rw m.made (λ r. allows_one t x.filter p r)
allows_step t u x s p (by_both m) = rw m.made (λ r e. absurd (m.writes e))

pub trail_allowed : (t u : Transducer) (x : State) (ss : List (Step State Origin)) (y : State) → Trail (steps t u) x ss y
    → FilterAllows t x.filter (lefts ss)
unfolding lefts FilterAllows
trail_allowed t u x [] y h = tt
trail_allowed t u x (s ∷ ss) y h = allows_step t u x s (lefts ss) (step_move t u x s (mem_in h.0)) (trail_allowed t u s.target ss y h.1)

-- Every pair has a trail

pub record Paired (t u : Transducer) (x : State) (p q : List ℕ) : Type 0 where
  pub taken : List (Step State Origin)
  pub last : State
  pub trail : Trail (steps t u) x taken last
  pub left_path : lefts taken ≡ p
  pub right_path : rights taken ≡ q

paired_none : (t u : Transducer) (x : State) → Paired t u x [] []
unfolding lefts rights
paired_none t u x = record { taken = []; last = x; trail = refl; left_path = refl; right_path = refl }

paired_step : (t u : Transducer) (x : State) (s : Step State Origin) (p q : List ℕ) → Move t u x s → Paired t u s.target p q
    → Paired t u x (add_left s.origin p) (add_right s.origin q)
unfolding lefts rights
paired_step t u x s p q m r =
    record {
      taken = s ∷ r.taken;
      last = r.last;
      trail = (in_mem (move_step t u x s m), r.trail);
      left_path = ap (add_left s.origin) r.left_path;
      right_path = ap (add_right s.origin) r.right_path;
    }

-- A right arc that reads nothing goes alone.
paired_right : (t u : Transducer) (x : State) (j : ℕ) (p q : List ℕ) → Runs u x.right j q → (arc u j).input ≡ 0
    → Paired t u (record { left = x.left; right = (arc u j).target; filter = 1 }) p q → Paired t u x p (j ∷ q)
unfolding right_alone add_left add_right
paired_right t u x j p q r still =
    paired_step t u x (right_alone x j (arc u j)) p q
    (by_right (record { right_arc = j; below = r.below; leaves = r.leaves; quiet = still; made = refl }))

-- A left path of no arcs: the right path goes alone.
paired_rights : (t u : Transducer) (x : State) (q : List ℕ) → runs u x.right q ≡ true → path_fits u [] q ≡ true → Paired t u x [] q
paired_rights t u x [] ru e = paired_none t u x
paired_rights t u x (j ∷ q) ru e = on (path_took u j q [] e) (λ x' ru' e'. paired_rights t u x' q ru' e')
  where
    r : Runs u x.right j q
    r = runs_cons u x.right j q ru

    on : Took u j q [] → ((x' : State) → runs u x'.right q ≡ true → path_fits u [] q ≡ true → Paired t u x' [] q) → Paired t u x [] (j ∷ q)
    on (quiet none f) rest =
        paired_right t u x j [] q r none (rest (record { left = x.left; right = (arc u j).target; filter = 1 }) r.rest f)
    on (took c cs is reads f more) rest = let z : ◌≡◌ {A = ℕ} 0 1 = cc in absurd (omega arith)

-- A left path pairs with each right path that fits what it writes, from any state whose filter allows it.
abbrev Pairs : Transducer → Transducer → List ℕ → Type 0
Pairs t u p =
    (x : State) (q : List ℕ) → FilterAllows t x.filter p → runs t x.left p ≡ true → runs u x.right q ≡ true
    → path_fits u (written_by t p) q ≡ true → Paired t u x p q

-- Where the left path begins with an arc that writes: right arcs go alone up to the one that fits the symbol.
pairs_writing : (t u : Transducer) (p : List ℕ) → Pairs t u p → (i : ℕ) → ((arc t i).output ≡ 0 → ⊥) → (x : State) (q : List ℕ) → Runs t x.left i p
    → runs u x.right q ≡ true → path_fits u ((arc t i).output ∷ written_by t p) q ≡ true → Paired t u x (i ∷ p) q
unfolding both_step add_left add_right
pairs_writing t u p shorter i writes x [] l ru e =
    let short : (arc t i).output ∷ written_by t p ≡ [] = path_fits_end u ((arc t i).output ∷ written_by t p) e in
    let z : ◌≡◌ {A = ℕ} 0 1 = cc in absurd (omega arith)
pairs_writing t u p shorter i writes x (j ∷ q) l ru e =
    on (path_took u j q ((arc t i).output ∷ written_by t p) e) (λ x' l' ru' e'. pairs_writing t u p shorter i writes x' q l' ru' e')
  where
    r : Runs u x.right j q
    r = runs_cons u x.right j q ru

    on : Took u j q ((arc t i).output ∷ written_by t p)
        → ((x' : State) → Runs t x'.left i p → runs u x'.right q ≡ true → path_fits u ((arc t i).output ∷ written_by t p) q ≡ true
        → Paired t u x' (i ∷ p) q)
        → Paired t u x (i ∷ p) (j ∷ q)
    on (quiet none f) rest =
        paired_right t u x j (i ∷ p) q r none (rest (record { left = x.left; right = (arc u j).target; filter = 1 }) l r.rest f)
    on (took c cs is reads f more) rest =
        let same : c ≡ (arc t i).output = cc in
        let left : cs ≡ written_by t p = cc in
        paired_step t u x (both_step i (arc t i) j (arc u j)) p q
        (by_both (record {
          left_arc = i;
          right_arc = j;
          left_below = l.below;
          right_below = r.below;
          left_leaves = l.leaves;
          right_leaves = r.leaves;
          writes = writes;
          fitted = rw same at f;
          made = refl;
        }))
        (shorter (record { left = (arc t i).target; right = (arc u j).target; filter = 0 }) q (allows_zero t p) l.rest r.rest (rw left at more))

pairs_cons : (t u : Transducer) (i : ℕ) (p : List ℕ) → Pairs t u p → Pairs t u (i ∷ p)
unfolding FilterAllows written_by left_alone add_left add_right
pairs_cons t u i p shorter x q allows rt ru e = on (eqb (arc t i).output 0) refl
  where
    l : Runs t x.left i p
    l = runs_cons t x.left i p rt

    on : (b : Bool) → eqb (arc t i).output 0 ≡ b → Paired t u x (i ∷ p) q
    on true b =
        let silent : (arc t i).output ≡ 0 = eqb-true (arc t i).output 0 b in
        let e' : path_fits u (written_by t p) q ≡ true = rw (empty_passed (arc t i).output (written_by t p) silent) at e in
        paired_step t u x (left_alone x i (arc t i)) p q
        (by_left (record { left_arc = i; below = l.below; leaves = l.leaves; silent = silent; allowed = allows silent; made = refl }))
        (shorter (record { left = (arc t i).target; right = x.right; filter = 0 }) q (allows_zero t p) l.rest ru e')
    on false b =
        let writes : (arc t i).output ≡ 0 → ⊥ = eqb-false (arc t i).output 0 b in
        pairs_writing t u p shorter i writes x q l ru (rw (symbol_kept (arc t i).output (written_by t p) writes) at e)

pub allowed_pair_trail : (t u : Transducer) (p : List ℕ) → Pairs t u p
unfolding written_by
allowed_pair_trail t u [] = λ x q allows rt ru e. paired_rights t u x q ru e
allowed_pair_trail t u (i ∷ p) = pairs_cons t u i p (allowed_pair_trail t u p)

pub pair_trail : (t u : Transducer) (a b : ℕ) (p q : List ℕ) → runs t a p ≡ true → runs u b q ≡ true → path_fits u (written_by t p) q ≡ true
    → Paired t u (record { left = a; right = b; filter = 0 }) p q
pair_trail t u a b p q rt ru e = allowed_pair_trail t u p (record { left = a; right = b; filter = 0 }) q (allows_zero t p) rt ru e

-- No pair has two trails

no_arcs : (o : Origin) (p q : List ℕ) → add_left o p ≡ [] → add_right o q ≡ [] → ⊥
unfolding add_left add_right
no_arcs (Left i) p q l r = let z : ◌≡◌ {A = ℕ} 0 1 = cc in omega arith
no_arcs (Right j) p q l r = let z : ◌≡◌ {A = ℕ} 0 1 = cc in omega arith
no_arcs (Both i j) p q l r = let z : ◌≡◌ {A = ℕ} 0 1 = cc in omega arith

add_left_injective : (o : Origin) (p p' : List ℕ) → add_left o p ≡ add_left o p' → p ≡ p'
unfolding add_left
add_left_injective (Left i) p p' e = cc
add_left_injective (Right j) p p' e = e
add_left_injective (Both i j) p p' e = cc

add_right_injective : (o : Origin) (q q' : List ℕ) → add_right o q ≡ add_right o q' → q ≡ q'
unfolding add_right
add_right_injective (Left i) q q' e = e
add_right_injective (Right j) q q' e = cc
add_right_injective (Both i j) q q' e = cc

-- Behind a right step no left path begins with an arc that writes nothing.
not_allowed : (t : Transducer) (i : ℕ) (p p' : List ℕ) → FilterAllows t 1 p' → i ∷ p ≡ p' → (arc t i).output ≡ 0 → ⊥
unfolding FilterAllows
not_allowed t i p p' r e silent =
    let r' : FilterAllows t 1 (i ∷ p) = rw (← e) at r in
    let z : ◌≡◌ {A = ℕ} 1 0 = r' silent in
    omega arith

same_first : (t u : Transducer) (x : State) (s s' : Step State Origin) (p p' q q' : List ℕ) → Move t u x s → Move t u x s'
    → FilterAllows t s.target.filter p → FilterAllows t s'.target.filter p' → add_left s.origin p ≡ add_left s'.origin p'
    → add_right s.origin q ≡ add_right s'.origin q' → s ≡ s'
unfolding left_alone right_alone both_step add_left add_right
same_first t u x s s' p p' q q' (by_left m) (by_left m') r r' el er =
    let e : m.left_arc ∷ p ≡ m'.left_arc ∷ p' = rw (m.made, m'.made) at el in
    let i : m.left_arc ≡ m'.left_arc = cc in
    m.made ∙ ap (λ (i : ℕ). left_alone x i (arc t i)) i ∙ sym m'.made
same_first t u x s s' p p' q q' (by_left m) (by_right m') r r' el er =
    let e : m.left_arc ∷ p ≡ p' = rw (m.made, m'.made) at el in
    let one : FilterAllows t 1 p' = rw m'.made at r' in
    absurd (not_allowed t m.left_arc p p' one e m.silent)
same_first t u x s s' p p' q q' (by_left m) (by_both m') r r' el er =
    let e : m.left_arc ∷ p ≡ m'.left_arc ∷ p' = rw (m.made, m'.made) at el in
    let i : m.left_arc ≡ m'.left_arc = cc in
    absurd (m'.writes (rw i at m.silent))
same_first t u x s s' p p' q q' (by_right m) (by_left m') r r' el er =
    let e : p ≡ m'.left_arc ∷ p' = rw (m.made, m'.made) at el in
    let one : FilterAllows t 1 p = rw m.made at r in
    absurd (not_allowed t m'.left_arc p' p one (sym e) m'.silent)
same_first t u x s s' p p' q q' (by_right m) (by_right m') r r' el er =
    let e : m.right_arc ∷ q ≡ m'.right_arc ∷ q' = rw (m.made, m'.made) at er in
    let j : m.right_arc ≡ m'.right_arc = cc in
    m.made ∙ ap (λ (j : ℕ). right_alone x j (arc u j)) j ∙ sym m'.made
same_first t u x s s' p p' q q' (by_right m) (by_both m') r r' el er =
    let e : m.right_arc ∷ q ≡ m'.right_arc ∷ q' = rw (m.made, m'.made) at er in
    let j : m.right_arc ≡ m'.right_arc = cc in
    absurd (fits_some u (arc t m'.left_arc).output (arc u m'.right_arc) m'.writes m'.fitted (rw j at m.quiet))
same_first t u x s s' p p' q q' (by_both m) (by_left m') r r' el er =
    let e : m.left_arc ∷ p ≡ m'.left_arc ∷ p' = rw (m.made, m'.made) at el in
    let i : m'.left_arc ≡ m.left_arc = cc in
    absurd (m.writes (rw i at m'.silent))
same_first t u x s s' p p' q q' (by_both m) (by_right m') r r' el er =
    let e : m.right_arc ∷ q ≡ m'.right_arc ∷ q' = rw (m.made, m'.made) at er in
    let j : m'.right_arc ≡ m.right_arc = cc in
    absurd (fits_some u (arc t m.left_arc).output (arc u m.right_arc) m.writes m.fitted (rw j at m'.quiet))
same_first t u x s s' p p' q q' (by_both m) (by_both m') r r' el er =
    let ei : m.left_arc ∷ p ≡ m'.left_arc ∷ p' = rw (m.made, m'.made) at el in
    let ej : m.right_arc ∷ q ≡ m'.right_arc ∷ q' = rw (m.made, m'.made) at er in
    let i : m.left_arc ≡ m'.left_arc = cc in
    let j : m.right_arc ≡ m'.right_arc = cc in
    m.made ∙ ap₂ (λ (i j : ℕ). both_step i (arc t i) j (arc u j)) i j ∙ sym m'.made

pub never_two : (t u : Transducer) (x : State) (ss ss' : List (Step State Origin)) (y y' : State) → Trail (steps t u) x ss y → Trail (steps t u) x ss' y'
    → lefts ss ≡ lefts ss' → rights ss ≡ rights ss' → ss ≡ ss'
unfolding lefts rights
never_two t u x [] [] y y' h h' el er = refl
never_two t u x [] (s ∷ ss) y y' h h' el er = absurd (no_arcs s.origin (lefts ss) (rights ss) (sym el) (sym er))
never_two t u x (s ∷ ss) [] y y' h h' el er = absurd (no_arcs s.origin (lefts ss) (rights ss) el er)
never_two t u x (s ∷ ss) (s' ∷ ss') y y' h h' el er =
    let same : s ≡ s' =
    same_first t u x s s' (lefts ss) (lefts ss') (rights ss) (rights ss') (step_move t u x s (mem_in h.0)) (step_move t u x s' (mem_in h'.0))
    (trail_allowed t u s.target ss y h.1) (trail_allowed t u s'.target ss' y' h'.1) el er in
    let l : add_left s.origin (lefts ss) ≡ add_left s.origin (lefts ss') = rw (← same) at el in
    let r : add_right s.origin (rights ss) ≡ add_right s.origin (rights ss') = rw (← same) at er in
    let rest : Trail (steps t u) s.target ss' y' = rw same h'.1 in
    ap₂ ◌∷◌ same
    (never_two t u s.target ss ss' y y' h.1 rest (add_left_injective s.origin (lefts ss) (lefts ss') l)
    (add_right_injective s.origin (rights ss) (rights ss') r))
