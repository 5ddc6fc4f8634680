-- Costs and sizes, one before another: a strict order, and what is no worse. Assumes nothing.
use mathlib.Core.Path.{◌≡◌, refl, ap, ◌∙◌}
use mathlib.Core.Bool.{Bool, true, false, ◌&&◌, ◌||◌, cond}
use mathlib.Core.Logic.{◌⊎◌, inl, inr}
use mathlib.Core.List.{List, [], ◌∷◌, ◌++◌}
use Prim.Native.Nat.{ℕ, suc, ◌+◌, ◌≤◌, ◌<◌}
use native.Mathlib.Omega.{arith}
use lib.Dec.{ltb, leb, eqb}
use lib.ListN.{length, length-append}
use borrow.Author.Tests.{ltb-true, ltb-false, lt-ltb, leb-true, le-leb}
use Rattle.wire.proofs.Bool.{clash, is_false, and-true, true_and, or-true, or_left, or_right}
use Rattle.transducer.specs.Format.{Transducer}
use Rattle.transducer.specs.Path.{arc, non_empty, written_by}
use Rattle.transducer.specs.Weight.{Weight, plus, AtMost, at_most, below}
use Rattle.transducer.proofs.Weights.{sums}
use Rattle.transducer.proofs.Paths.{written_by_short}
use Rattle.cycles.proofs.Labels.{labels_append}
use Rattle.relax.specs.Size.{Size, size_of, nearer}
use Rattle.relax.specs.Tentative.{labels_of, longer, NoWorse, Nearer}

-- A cost and a size before another.

-- Where the costs are the same.
abbrev fewer : (l k : Size) → Bool
fewer l k = ltb l.labels k.labels || (leb l.labels k.labels && ltb l.arcs k.arcs)

fewer_true : (l k : Size) → fewer l k ≡ true → (l.labels ≤ k.labels) × (k.labels ≤ l.labels → l.arcs < k.arcs)
fewer_true l k h = on (or-true (ltb l.labels k.labels) (leb l.labels k.labels && ltb l.arcs k.arcs) h)
  where
    on : (ltb l.labels k.labels ≡ true) ⊎ (leb l.labels k.labels && ltb l.arcs k.arcs ≡ true)
        → (l.labels ≤ k.labels) × (k.labels ≤ l.labels → l.arcs < k.arcs)
    on (inl e) =
        let less : l.labels < k.labels = ltb-true l.labels k.labels e in
        (omega arith, λ u. absurd (omega arith))
    on (inr e) =
        let both = and-true (leb l.labels k.labels) (ltb l.arcs k.arcs) e in
        (leb-true l.labels k.labels both.0, λ u. ltb-true l.arcs k.arcs both.1)

true_fewer : (l k : Size) → l.labels ≤ k.labels → (k.labels ≤ l.labels → l.arcs < k.arcs) → fewer l k ≡ true
true_fewer l k le less = on (ltb l.labels k.labels) refl
  where
    on : (b : Bool) → ltb l.labels k.labels ≡ b → b || (leb l.labels k.labels && ltb l.arcs k.arcs) ≡ true
    on true e = refl
    on false e =
        true_and (leb l.labels k.labels) (ltb l.arcs k.arcs) (le-leb l.labels k.labels le)
        (lt-ltb l.arcs k.arcs (less (ltb-false l.labels k.labels e)))

pub nearer_true : (x : Weight) (l : Size) (y : Weight) (k : Size) → nearer x l y k ≡ true → Nearer x l y k
unfolding nearer
nearer_true x l y k h = on (or-true (below x y) (at_most x y && fewer l k) h)
  where
    on : (below x y ≡ true) ⊎ (at_most x y && fewer l k ≡ true) → Nearer x l y k
    on (inl e) =
        record { cost = omega (arith, sums); labels = λ u. absurd (omega (arith, sums)); arcs = λ u v. absurd (omega (arith, sums)) }
    on (inr e) =
        let both = and-true (at_most x y) (fewer l k) e in
        let less = fewer_true l k both.1 in
        record { cost = omega (arith, sums, both.0); labels = λ u. less.0; arcs = λ u. less.1 }

pub true_nearer : (x : Weight) (l : Size) (y : Weight) (k : Size) → Nearer x l y k → nearer x l y k ≡ true
unfolding nearer
true_nearer x l y k h = on (below x y) refl
  where
    on : (b : Bool) → below x y ≡ b → b || (at_most x y && fewer l k) ≡ true
    on true e = refl
    on false e =
        let a : at_most x y ≡ true = omega (arith, sums, h.cost) in
        let same : AtMost y x = omega (arith, sums) in
        true_and (at_most x y) (fewer l k) a (true_fewer l k (h.labels same) (h.arcs same))

pub nearer_false : (x : Weight) (l : Size) (y : Weight) (k : Size) → nearer x l y k ≡ false → NoWorse y k x l
unfolding nearer
nearer_false x l y k h =
    record {
      cost = cost (below x y) refl;
      labels = λ u. labels u (ltb l.labels k.labels) refl;
      arcs = λ u v. arcs u v (ltb l.arcs k.arcs) refl;
    }
  where
    cost : (b : Bool) → below x y ≡ b → AtMost y x
    cost true e = clash (or_left (below x y) (at_most x y && fewer l k) e) h
    cost false e = omega (arith, sums)

    wins : AtMost x y → fewer l k ≡ true → {A : Type 0} → A
    wins u e =
        let a : at_most x y ≡ true = omega (arith, sums) in
        clash (or_right (below x y) (at_most x y && fewer l k) (true_and (at_most x y) (fewer l k) a e)) h

    labels : AtMost x y → (b : Bool) → ltb l.labels k.labels ≡ b → k.labels ≤ l.labels
    labels u true e = wins u (or_left (ltb l.labels k.labels) (leb l.labels k.labels && ltb l.arcs k.arcs) e)
    labels u false e = ltb-false l.labels k.labels e

    arcs : AtMost x y → l.labels ≤ k.labels → (b : Bool) → ltb l.arcs k.arcs ≡ b → k.arcs ≤ l.arcs
    arcs u v true e = wins u (true_fewer l k v (λ _. ltb-true l.arcs k.arcs e))
    arcs u v false e = ltb-false l.arcs k.arcs e

-- Sizes with the same numbers are the same.
pub same_size : (l k : Size) → l.labels ≡ k.labels → l.arcs ≡ k.arcs → l ≡ k
same_size l k p q = ap (λ (n : ℕ). record { labels = n; arcs = l.arcs }) p ∙ ap (λ (n : ℕ). record { labels = k.labels; arcs = n }) q

-- Of two, one is no worse; what is nearer is not worse, and the other way round not at all.

module _ {x : Weight} {l : Size} {y : Weight} {k : Size} where
  pub nearer_no_worse : Nearer x l y k → NoWorse x l y k
  nearer_no_worse h = record { cost = h.cost; labels = h.labels; arcs = λ u v. omega (arith, h.arcs u v) }

  pub nearer_not : Nearer x l y k → NoWorse y k x l → ⊥
  nearer_not h n =
      let v : k.labels ≤ l.labels = n.labels h.cost in
      let w : l.labels ≤ k.labels = h.labels n.cost in
      omega (arith, h.arcs n.cost v, n.arcs h.cost w)

  pub false_nearer : NoWorse y k x l → nearer x l y k ≡ false
  false_nearer n = is_false (nearer x l y k) (λ e. nearer_not (nearer_true x l y k e) n)

  pub nearer_through : {z : Weight} {m : Size} → Nearer x l y k → NoWorse y k z m → Nearer x l z m
  nearer_through {z} {m} h n =
      record {
        cost = omega (arith, sums, h.cost, n.cost);
        labels = λ u. omega (arith, h.labels (a u), n.labels (b u));
        arcs = λ u v.
            let p : k.labels ≤ l.labels = omega (arith, n.labels (b u)) in
            let q : m.labels ≤ k.labels = omega (arith, h.labels (a u)) in
            omega (arith, h.arcs (a u) p, n.arcs (b u) q);
      }
    where
      a : AtMost z x → AtMost y x
      a u = omega (arith, sums, h.cost, n.cost)

      b : AtMost z x → AtMost z y
      b u = omega (arith, sums, h.cost, n.cost)

  pub through_nearer : {z : Weight} {m : Size} → NoWorse x l y k → Nearer y k z m → Nearer x l z m
  through_nearer {z} {m} h n =
      record {
        cost = omega (arith, sums, h.cost, n.cost);
        labels = λ u. omega (arith, h.labels (a u), n.labels (b u));
        arcs = λ u v.
            let p : k.labels ≤ l.labels = omega (arith, n.labels (b u)) in
            let q : m.labels ≤ k.labels = omega (arith, h.labels (a u)) in
            omega (arith, h.arcs (a u) p, n.arcs (b u) q);
      }
    where
      a : AtMost z x → AtMost y x
      a u = omega (arith, sums, h.cost, n.cost)

      b : AtMost z x → AtMost z y
      b u = omega (arith, sums, h.cost, n.cost)

  pub no_worse_through : {z : Weight} {m : Size} → NoWorse x l y k → NoWorse y k z m → NoWorse x l z m
  no_worse_through {z} {m} h n =
      record {
        cost = omega (arith, sums, h.cost, n.cost);
        labels = λ u. omega (arith, h.labels (a u), n.labels (b u));
        arcs = λ u v.
            let p : k.labels ≤ l.labels = omega (arith, n.labels (b u)) in
            let q : m.labels ≤ k.labels = omega (arith, h.labels (a u)) in
            omega (arith, h.arcs (a u) p, n.arcs (b u) q);
      }
    where
      a : AtMost z x → AtMost y x
      a u = omega (arith, sums, h.cost, n.cost)

      b : AtMost z x → AtMost z y
      b u = omega (arith, sums, h.cost, n.cost)

  pub no_worse_both : NoWorse x l y k → NoWorse y k x l → (x ≡ y) × (l ≡ k)
  no_worse_both h n =
      let v : l.labels ≤ k.labels = h.labels n.cost in
      let w : k.labels ≤ l.labels = n.labels h.cost in
      let labels : l.labels ≡ k.labels = omega arith in
      let arcs : l.arcs ≡ k.arcs = omega (arith, h.arcs n.cost w, n.arcs h.cost v) in
      (omega (arith, sums, h.cost, n.cost), same_size l k labels arcs)

  -- An arc in front of both.
  pub no_worse_step : (w : Weight) (output : ℕ) → NoWorse x l y k → NoWorse (plus w x) (longer output l) (plus w y) (longer output k)
  unfolding longer
  no_worse_step w output h =
      record {
        cost = omega (arith, sums, h.cost);
        labels = λ u. omega (arith, h.labels (back u));
        arcs = λ u v. omega (arith, h.arcs (back u) (omega arith));
      }
    where
      back : AtMost (plus w y) (plus w x) → AtMost y x
      back u = omega (arith, sums)

pub no_worse_same : (x : Weight) (l : Size) → NoWorse x l x l
no_worse_same x l = record { cost = omega (arith, sums); labels = λ u. omega arith; arcs = λ u v. omega arith }

-- The size of a path, one arc at a time and end to end.

pub size_cons : (t : Transducer) (i : ℕ) (p : List ℕ) → size_of t (i ∷ p) ≡ longer (arc t i).output (size_of t p)
unfolding size_of longer labels_of written_by non_empty
size_cons t i p = rw (on (eqb (arc t i).output 0)) (ap (λ (n : ℕ). record { labels = length (written_by t p) + labels_of (arc t i).output; arcs = n }) one)
  where
    one : suc (length p) ≡ length p + 1
    one = omega arith

    on : (d : Bool) → length (cond d (written_by t p) ((arc t i).output ∷ written_by t p)) ≡ length (written_by t p) + cond d 0 1
    on true = omega arith
    on false = omega arith

pub size_few : (t : Transducer) (p : List ℕ) → (size_of t p).labels ≤ (size_of t p).arcs
unfolding size_of
size_few t p = written_by_short t p

-- A path is longer than what is left of it behind some arcs.
pub size_behind : (t : Transducer) (p q : List ℕ) → 0 < length p
    → ((size_of t q).labels ≤ (size_of t (p ++ q)).labels) × ((size_of t q).arcs < (size_of t (p ++ q)).arcs)
unfolding size_of
size_behind t p q some = (omega (arith, labels_append t p q), omega (arith, length-append p q))

pub size_nil : (t : Transducer) → size_of t [] ≡ record { labels = 0; arcs = 0 }
unfolding size_of written_by
size_nil t = refl
