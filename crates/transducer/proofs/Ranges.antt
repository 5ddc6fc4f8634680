-- Ranges of arc numbers: where sources never fall, the arcs of a state are those from `arcs_below s` to below `arcs_below (suc s)`. Assumes nothing.
use Rattle.std.proofs.Common.{◌≡◌, ℕ, zero, suc, ◌+◌, ◌-◌, ◌<◌, ◌≤◌, true, cond, eqb, ltb, leb, List, [], ◌∷◌, ◌++◌, map, length, get_or, refl, ap, append_assoc, add-zero, zero-add, arith, ltb-false, ltb-true, le-ltb, lt-ltb, ne_eqb, eqb-true}
use mathlib.Core.List.{map-append}
use borrow.Author.Tests.{eqb-false}
use Rattle.wire.proofs.Bool.{and-true, by_test}
use Rattle.transducer.specs.declared.Arc.{Arc}
use Rattle.transducer.specs.Format.{Transducer, sources_stay}
use Rattle.transducer.specs.Path.{arc, no_arc}
use Rattle.transducer.specs.Each.{by_number, each_arc}
use Rattle.transducer.specs.Accepted.{arcs_below}
use Rattle.transducer.proofs.Index.{stay_none}

-- What a function gives for each of `count` numbers from i on, one after the other.
unfoldable pub from_to : {B : Type 0} → (count i : ℕ) → (ℕ → List B) → List B
from_to zero i f = []
from_to (suc n) i f = f i ++ from_to n (suc i) f

module _ {B : Type 0} where
  pub from_to_same : (n i : ℕ) (f g : ℕ → List B) → ((k : ℕ) → i ≤ k → k < i + n → f k ≡ g k) → from_to n i f ≡ from_to n i g
  unfolding from_to
  from_to_same zero i f g h = refl
  from_to_same (suc n) i f g h =
      rw (h i (omega arith) (omega arith), from_to_same n (suc i) f g (λ k l m. h k (omega arith) (omega arith)))

  pub from_to_none : (n i : ℕ) (f : ℕ → List B) → ((k : ℕ) → i ≤ k → k < i + n → f k ≡ []) → from_to n i f ≡ []
  unfolding from_to
  from_to_none zero i f h = refl
  from_to_none (suc n) i f h =
      rw (h i (omega arith) (omega arith)) (from_to_none n (suc i) f (λ k l m. h k (omega arith) (omega arith)))

  pub from_to_split : (m n i : ℕ) (f : ℕ → List B) → from_to (m + n) i f ≡ from_to m i f ++ from_to n (i + m) f
  unfolding from_to
  from_to_split zero n i f = rw (zero-add, add-zero)
  from_to_split (suc m) n i f =
      let e : suc m + n ≡ suc (m + n) = omega arith in
      let e' : i + suc m ≡ suc i + m = omega arith in
      rw (e, e', append_assoc, from_to_split m n (suc i) f)

  -- The first numbers of a range that give nothing may be passed over.
  pub from_to_skip : (i j to : ℕ) (f : ℕ → List B) → i ≤ j → j ≤ to → ((k : ℕ) → i ≤ k → k < j → f k ≡ []) → from_to (to - i) i f ≡ from_to (to - j) j f
  from_to_skip i j to f l m h =
      let e : to - i ≡ (j - i) + (to - j) = omega arith in
      let e' : i + (j - i) ≡ j = omega arith in
      rw (e, from_to_split (j - i) (to - j) i f, e', from_to_none (j - i) i f (λ k p q. h k p (omega arith)))

pub map_from_to : {B C : Type 0} (g : B → C) (n i : ℕ) (f : ℕ → List B) → map g (from_to n i f) ≡ from_to n i (λ k. map g (f k))
unfolding from_to
map_from_to g zero i f = refl
map_from_to g (suc n) i f = rw (map-append g (f i) (from_to n (suc i) f), map_from_to g n (suc i) f)

-- The arcs of a list by number, where `at` gives the arc of each number and the first has the number i.
by_number_range : {B : Type 0} (floor s i : ℕ) (f : ℕ → Arc → List B) (at : ℕ → Arc) (as' : List Arc) → sources_stay floor as' ≡ true
    → ((k : ℕ) → k < length as' → at (i + k) ≡ get_or as' k no_arc)
    → by_number i (λ k a. cond (eqb a.source s) (f k a) []) as'
    ≡ from_to (arcs_below (suc s) as' - arcs_below s as') (i + arcs_below s as') (λ k. f k (at k))
unfolding by_number from_to arcs_below sources_stay
by_number_range floor s i f at [] h same = refl
by_number_range floor s i f at (a ∷ as') h same =
    let p = and-true (leb floor a.source) (sources_stay a.source as') h in
    let more = by_number_range a.source s (suc i) f at as' p.1
    (λ k l. let e : suc i + k ≡ i + suc k = omega arith in rw e (same (suc k) (omega arith))) in
    let here : at i ≡ a = rw add-zero at (same 0 (omega arith)) in
    by_test (ltb a.source s)
    (λ e. let low : a.source < s = ltb-true a.source s e in
    let n : suc (arcs_below (suc s) as') - suc (arcs_below s as') ≡ arcs_below (suc s) as' - arcs_below s as' = omega arith in
    let m : i + suc (arcs_below s as') ≡ suc i + arcs_below s as' = omega arith in
    rw (e, lt-ltb a.source (suc s) (omega arith), ne_eqb a.source s (λ q. omega arith), n, m) more)
    (λ e. let high : s ≤ a.source = ltb-false a.source s e in
    let none : arcs_below s as' ≡ 0 = stay_none a.source s as' p.1 high in
    by_test (eqb a.source s)
    (λ q. let eq : a.source ≡ s = eqb-true a.source s q in
    let n : suc (arcs_below (suc s) as') - 0 ≡ suc (arcs_below (suc s) as' - arcs_below s as') = omega arith in
    let m : suc i + arcs_below s as' ≡ suc i = omega arith in
    rw (e, lt-ltb a.source (suc s) (omega arith), q, none, n, add-zero i, here) (ap (λ (l : List _). f i a ++ l) (rw m at more)))
    (λ q. let over : suc s ≤ a.source = omega (arith, eqb-false a.source s q) in
    let all : arcs_below (suc s) as' ≡ 0 = stay_none a.source (suc s) as' p.1 over in
    rw (e, le-ltb a.source (suc s) over, q, none, all) (rw (none, all) at more)))

-- What each arc of a state gives, over the range of the state's arcs.
pub each_arc_range : {B : Type 0} (t : Transducer) (s : ℕ) (f : ℕ → Arc → List B) → sources_stay 0 t.arcs ≡ true
    → each_arc t s f ≡ from_to (arcs_below (suc s) t.arcs - arcs_below s t.arcs) (arcs_below s t.arcs) (λ i. f i (arc t i))
unfolding each_arc arc
each_arc_range t s f h =
    rw (zero-add (arcs_below s t.arcs))
    at (by_number_range 0 s 0 f (arc t) t.arcs h (λ k l. ap (λ (n : ℕ). get_or t.arcs n no_arc) (zero-add k)))
