-- Laws of `by_number` and `each_arc`: what stands in them, and that nothing stands there twice. Assumes nothing.
use Rattle.std.proofs.Common.{◌≡◌, ℕ, zero, suc, ◌+◌, ◌<◌, true, cond, eqb, ◌⊎◌, List, [], ◌∷◌, length, get_or, ap, inl, inr, le_of_suc-le-suc, not-suc-le-zero, add-zero, zero-add, arith, eq-eqb, eqb-true}
use mathlib.Core.List.Memᴰ.{append_cases as in_either}
use mathlib.Core.List.Memᴰ.{append_left as in_front}
use mathlib.Core.List.Memᴰ.{not-nil as none_in}
use mathlib.Core.List.{Memᴰ as Mem}
use mathlib.Core.List.Memᴰ.{append_right as in_back}
use Rattle.transducer.specs.declared.Arc.{Arc}
use Rattle.transducer.specs.Format.{Transducer}
use Rattle.transducer.specs.Path.{arc, no_arc}
use Rattle.transducer.specs.Each.{by_number, each_arc}
use Rattle.transducer.proofs.Members.{in_cond, cond_has, Distinct, distinct_cond, distinct_append}

-- The place of the arc that an element of `by_number i f l` comes from.
pub record InRun {B : Type 0} (i : ℕ) (f : ℕ → Arc → List B) (l : List Arc) (s : B) : Type 0 where
  pub place : ℕ
  pub below : place < length l
  pub given : Mem s (f (i + place) (get_or l place no_arc))

pub in_by_number : {B : Type 0} (i : ℕ) (f : ℕ → Arc → List B) (l : List Arc) (s : B) → Mem s (by_number i f l) → InRun i f l s
unfolding by_number
in_by_number i f [] s m = absurd (none_in m)
in_by_number i f (a ∷ l) s m = on (λ m'. in_by_number (suc i) f l s m') (in_either (f i a) m)
  where
    on : (Mem s (by_number (suc i) f l) → InRun (suc i) f l s) → Mem s (f i a) ⊎ Mem s (by_number (suc i) f l) → InRun i f (a ∷ l) s
    on below (inl m') = record { place = 0; below = omega arith; given = rw add-zero m' }
    on below (inr m') =
        let r : InRun (suc i) f l s = below m' in
        let e : suc i + r.place ≡ i + suc r.place = omega arith in
        record { place = suc r.place; below = omega arith; given = rw e at r.given }

pub by_number_has : {B : Type 0} (i : ℕ) (f : ℕ → Arc → List B) (l : List Arc) (s : B) (k : ℕ) → k < length l → Mem s (f (i + k) (get_or l k no_arc))
    → Mem s (by_number i f l)
unfolding by_number
by_number_has i f [] s k h m = absurd (not-suc-le-zero h)
by_number_has i f (a ∷ l) s zero h m = in_front (by_number (suc i) f l) (rw add-zero at m)
by_number_has i f (a ∷ l) s (suc k) h m =
    let e : i + suc k ≡ suc i + k = omega arith in
    in_back (f i a) (by_number_has (suc i) f l s k (le_of_suc-le-suc h) (rw e at m))

-- The arc that an element of `each_arc t q f` comes from.
pub record FromArc {B : Type 0} (t : Transducer) (q : ℕ) (f : ℕ → Arc → List B) (s : B) : Type 0 where
  pub number : ℕ
  pub below : number < length t.arcs
  pub leaves : (arc t number).source ≡ q
  pub given : Mem s (f number (arc t number))

pub in_each_arc : {B : Type 0} (t : Transducer) (q : ℕ) (f : ℕ → Arc → List B) (s : B) → Mem s (each_arc t q f) → FromArc t q f s
unfolding each_arc arc
in_each_arc t q f s m =
    let r = in_by_number 0 (λ i a. cond (eqb a.source q) (f i a) []) t.arcs s m in
    let a : Arc = arc t r.place in
    let c : Mem s (cond (eqb a.source q) (f r.place a) []) = rw (zero-add r.place) at r.given in
    let p : (eqb a.source q ≡ true) × Mem s (f r.place a) = in_cond s (eqb a.source q) (f r.place a) c in
    record { number = r.place; below = r.below; leaves = eqb-true a.source q p.0; given = p.1 }

pub each_arc_has : {B : Type 0} (t : Transducer) (q : ℕ) (f : ℕ → Arc → List B) (s : B) (i : ℕ) → i < length t.arcs → (arc t i).source ≡ q
    → Mem s (f i (arc t i)) → Mem s (each_arc t q f)
unfolding each_arc arc
each_arc_has t q f s i h e m =
    let c : Mem s (cond (eqb (arc t i).source q) (f i (arc t i)) []) =
    cond_has s (eqb (arc t i).source q) (f i (arc t i)) (eq-eqb (arc t i).source q e) m in
    by_number_has 0 (λ i a. cond (eqb a.source q) (f i a) []) t.arcs s i h (rw (zero-add i) c)

-- What each arc gives has no key twice, and its keys tell the arc's number: then no key stands twice.
pub by_number_distinct : {B K : Type 0} (key : B → K) (number : K → ℕ) (f : ℕ → Arc → List B)
    → ((i : ℕ) (a : Arc) (s : B) → Mem s (f i a) → number (key s) ≡ i) → ((i : ℕ) (a : Arc) → Distinct key (f i a))
    → (i : ℕ) (l : List Arc) → Distinct key (by_number i f l)
unfolding by_number Distinct
by_number_distinct key number f told each i [] = tt
by_number_distinct {B} key number f told each i (a ∷ l) =
    distinct_append key (f i a) (by_number (suc i) f l) (each i a) (by_number_distinct key number f told each (suc i) l) apart
  where
    apart : (x y : B) → Mem x (f i a) → Mem y (by_number (suc i) f l) → key x ≡ key y → ⊥
    apart x y mx my e =
        let r : InRun (suc i) f l y = in_by_number (suc i) f l y my in
        let ex : number (key x) ≡ i = told i a x mx in
        let ey : number (key y) ≡ suc i + r.place = told (suc i + r.place) (get_or l r.place no_arc) y r.given in
        let same : number (key x) ≡ number (key y) = ap number e in
        omega arith

pub each_arc_distinct : {B K : Type 0} (key : B → K) (number : K → ℕ) (t : Transducer) (q : ℕ) (f : ℕ → Arc → List B)
    → ((i : ℕ) (a : Arc) (s : B) → Mem s (f i a) → number (key s) ≡ i) → ((i : ℕ) (a : Arc) → Distinct key (f i a)) → Distinct key (each_arc t q f)
unfolding each_arc
each_arc_distinct key number t q f told each =
    by_number_distinct key number (λ i a. cond (eqb a.source q) (f i a) [])
    (λ i a s m. told i a s (in_cond s (eqb a.source q) (f i a) m).1) (λ i a. distinct_cond key (eqb a.source q) (f i a) (each i a)) 0 t.arcs
