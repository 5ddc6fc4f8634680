-- Counts that have a part of what is to be added: sums over the done arcs of a state, and one arc more. Assumes nothing.
use mathlib.Core.Path.{◌≡◌, refl, sym, ap, ◌∙◌}
use mathlib.Core.Bool.{Bool, true, false, ◌&&◌, cond}
use mathlib.Core.List.{List, [], ◌∷◌, ◌++◌}
use Prim.Native.Nat.{ℕ, zero, suc, ◌+◌, ◌≤◌, ◌<◌, min}
use native.Mathlib.Nat.{not-suc-le-zero}
use native.Mathlib.Omega.{arith}
use native.Mathlib.Decide.{ℕ_discrete}
use lib.Dec.{eqb}
use lib.ListN.{length, get_or, set, take, length-set}
use lib.Seq.{take-suc, take-length}
use borrow.Author.Tests.{eqb-true, eq-eqb}
use Rattle.transducer.specs.declared.Arc.{Arc}
use Rattle.transducer.specs.Format.{Transducer}
use Rattle.transducer.specs.Path.{arc, no_arc}
use Rattle.capped.specs.declared.Count.{Count}
use Rattle.capped.specs.Capped.{add}
use Rattle.paths.specs.Tally.{own, add_all}
use Rattle.paths.specs.Sweep.{at_state}
use Rattle.paths.specs.TopSorted.{EmptyPaths}
use Rattle.paths.specs.Counting.{sum_done, PartialSums}
use Rattle.paths.proofs.Tally.{sum_arcs, add_all_sum, own_small}
use Rattle.paths.proofs.StoredCounts.{at_set_same, at_set_other}

-- Sums over done arcs

pub sum_done_same : (n : ℕ) (t : Transducer) (d e : ℕ → Bool) (u : ℕ) (c c' : ℕ → ℕ)
    → ((k : ℕ) → k < n → (arc t k).source ≡ u → cond (d k) (c (arc t k).target) 0 ≡ cond (e k) (c' (arc t k).target) 0)
    → sum_done n t d u c ≡ sum_done n t e u c'
unfolding sum_done
sum_done_same zero t d e u c c' h = refl
sum_done_same (suc n) t d e u c c' h = on (sum_done_same n t d e u c c' (λ k l. h k (omega arith))) (eqb (arc t n).source u) refl
  where
    on : sum_done n t d u c ≡ sum_done n t e u c' → (b : Bool) → eqb (arc t n).source u ≡ b
        → sum_done n t d u c + cond (b && d n) (c (arc t n).target) 0 ≡ sum_done n t e u c' + cond (b && e n) (c' (arc t n).target) 0
    on below true q =
        let here : cond (d n) (c (arc t n).target) 0 ≡ cond (e n) (c' (arc t n).target) 0 = h n (omega arith) (eqb-true (arc t n).source u q) in
        rw (below, here)
    on below false q = rw below

-- Where each done arc of a state adds 0.
pub sum_done_zero : (n : ℕ) (t : Transducer) (d : ℕ → Bool) (u : ℕ) (c : ℕ → ℕ)
    → ((k : ℕ) → k < n → (arc t k).source ≡ u → cond (d k) (c (arc t k).target) 0 ≡ 0) → sum_done n t d u c ≡ 0
unfolding sum_done
sum_done_zero zero t d u c h = refl
sum_done_zero (suc n) t d u c h = on (sum_done_zero n t d u c (λ k l. h k (omega arith))) (eqb (arc t n).source u) refl
  where
    on : sum_done n t d u c ≡ 0 → (b : Bool) → eqb (arc t n).source u ≡ b → sum_done n t d u c + cond (b && d n) (c (arc t n).target) 0 ≡ 0
    on below true q =
        let here : cond (d n) (c (arc t n).target) 0 ≡ 0 = h n (omega arith) (eqb-true (arc t n).source u q) in
        rw (below, here)
    on below false q = rw below

pub sum_done_more : (n i : ℕ) (t : Transducer) (d e : ℕ → Bool) (u : ℕ) (c : ℕ → ℕ) → i < n → (arc t i).source ≡ u → d i ≡ false → e i ≡ true
    → ((k : ℕ) → k < n → (k ≡ i → ⊥) → d k ≡ e k) → sum_done n t e u c ≡ sum_done n t d u c + c (arc t i).target
unfolding sum_done
sum_done_more zero i t d e u c b s p q h = absurd (not-suc-le-zero b)
sum_done_more (suc n) i t d e u c b s p q h = on (λ l. sum_done_more n i t d e u c l s p q (λ k m. h k (omega arith))) (ℕ_discrete n i)
  where
    on : (i < n → sum_done n t e u c ≡ sum_done n t d u c + c (arc t i).target) → Dec (n ≡ i)
        → sum_done n t e u c + cond (eqb (arc t n).source u && e n) (c (arc t n).target) 0
        ≡ sum_done n t d u c + cond (eqb (arc t n).source u && d n) (c (arc t n).target) 0 + c (arc t i).target
    on below (yes y) =
        let rest : sum_done n t e u c ≡ sum_done n t d u c = sum_done_same n t e d u c c
        (λ k l _. ap (λ (x : Bool). cond x (c (arc t k).target) 0) (sym (h k (omega arith) (λ z. omega arith)))) in
        let leaves : eqb (arc t n).source u ≡ true = eq-eqb (arc t n).source u (ap (λ (k : ℕ). (arc t k).source) y ∙ s) in
        let here : c (arc t n).target ≡ c (arc t i).target = ap (λ (k : ℕ). c (arc t k).target) y in
        rw (leaves, ap e y ∙ q, ap d y ∙ p, rest, here) (omega arith)
    on below (no m) =
        let rest : sum_done n t e u c ≡ sum_done n t d u c + c (arc t i).target = below (omega arith) in
        rw (h n (omega arith) m) (omega (arith, rest))

sum_arcs_snoc : (l : List Arc) (a : Arc) (s : ℕ) (c : ℕ → ℕ) → sum_arcs (l ++ (a ∷ [])) s c ≡ sum_arcs l s c + cond (eqb a.source s) (c a.target) 0
unfolding sum_arcs
sum_arcs_snoc [] a s c = omega arith
sum_arcs_snoc (b ∷ l) a s c = omega (arith, sum_arcs_snoc l a s c)

sum_done_take : (n : ℕ) (t : Transducer) (d : ℕ → Bool) (u : ℕ) (c : ℕ → ℕ) → n ≤ length t.arcs
    → ((k : ℕ) → k < n → (arc t k).source ≡ u → d k ≡ true) → sum_done n t d u c ≡ sum_arcs (take n t.arcs) u c
unfolding sum_done sum_arcs arc
sum_done_take zero t d u c l h = refl
sum_done_take (suc n) t d u c l h =
    rw (take-suc t.arcs n no_arc l, sum_arcs_snoc (take n t.arcs) (get_or t.arcs n no_arc) u c)
    (on (sum_done_take n t d u c (omega arith) (λ k b. h k (omega arith))) (eqb (arc t n).source u) refl)
  where
    on : sum_done n t d u c ≡ sum_arcs (take n t.arcs) u c → (b : Bool) → eqb (arc t n).source u ≡ b
        → sum_done n t d u c + cond (b && d n) (c (arc t n).target) 0 ≡ sum_arcs (take n t.arcs) u c + cond b (c (arc t n).target) 0
    on below true q = rw (below, h n (omega arith) (eqb-true (arc t n).source u q))
    on below false q = rw below

-- Counts

pub parts_same : (t : Transducer) (d e : ℕ → Bool) (cs : List Count) → ((k : ℕ) → k < length t.arcs → d k ≡ e k) → PartialSums t d cs
    → PartialSums t e cs
parts_same t d e cs h p =
    record {
      long = p.long;
      sums = λ u b. p.sums u b ∙ ap (λ (x : ℕ). min 99 (own t u + x))
          (sum_done_same (length t.arcs) t d e u (at_state cs) (at_state cs) (λ k l _. ap (λ (x : Bool). cond x (at_state cs (arc t k).target) 0) (h k l)));
    }

-- At first no arc is done.
pub parts_first : (t : Transducer) (d : ℕ → Bool) (cs : List Count) → ((k : ℕ) → d k ≡ false) → EmptyPaths t t.states cs → PartialSums t d cs
parts_first t d cs h k =
    record {
      long = k.long;
      sums = λ u b.
          let none = sum_done_zero (length t.arcs) t d u (at_state cs) (λ i l _. ap (λ (x : Bool). cond x (at_state cs (arc t i).target) 0) (h i)) in
          omega (arith, k.counts u b, own_small t u, none);
    }

-- With all arcs of a state done its count is complete.
pub parts_whole : (t : Transducer) (d : ℕ → Bool) (cs : List Count) (s : ℕ) → PartialSums t d cs → s < t.states
    → ((k : ℕ) → k < length t.arcs → (arc t k).source ≡ s → d k ≡ true) → at_state cs s ≡ add_all t (at_state cs) s
parts_whole t d cs s p b h =
    let all : sum_done (length t.arcs) t d s (at_state cs) ≡ sum_arcs t.arcs s (at_state cs) =
    sum_done_take (length t.arcs) t d s (at_state cs) (omega arith) h ∙ ap (λ (l : List Arc). sum_arcs l s (at_state cs)) (take-length t.arcs) in
    omega (arith, p.sums s b, all, add_all_sum t (at_state cs) s)

-- One arc more is done: the count where it leads is added to that of its source, where no done arc leads.
pub parts_next : (t : Transducer) (d e : ℕ → Bool) (cs : List Count) (i u : ℕ) (x : Count) → PartialSums t d cs → i < length t.arcs → u ≡ (arc t i).source
    → u < 1024 → d i ≡ false → e i ≡ true → ((k : ℕ) → k < length t.arcs → (k ≡ i → ⊥) → d k ≡ e k)
    → ((k : ℕ) → k < length t.arcs → e k ≡ true → (arc t k).target ≡ u → ⊥)
    → x.value ≡ add (at_state cs u) (at_state cs (arc t i).target) → PartialSums t e (set cs u x)
unfolding add
parts_next t d e cs i u x p below leaves room new done others apart is =
    record { long = length-set cs u x ∙ p.long; sums = λ v b. on v b (ℕ_discrete v u) }
  where
    -- Where a done arc leads the count stays.
    stays : (v k : ℕ) → k < length t.arcs → (b : Bool) → e k ≡ b
        → cond b (at_state cs (arc t k).target) 0 ≡ cond b (at_state (set cs u x) (arc t k).target) 0
    stays v k l true q = sym (at_set_other cs u x (arc t k).target (apart k l q))
    stays v k l false q = refl

    sum_stays : (v : ℕ) → sum_done (length t.arcs) t e v (at_state cs) ≡ sum_done (length t.arcs) t e v (at_state (set cs u x))
    sum_stays v = sum_done_same (length t.arcs) t e e v (at_state cs) (at_state (set cs u x)) (λ k l _. stays v k l (e k) refl)

    on : (v : ℕ) → v < t.states → Dec (v ≡ u)
        → at_state (set cs u x) v ≡ min 99 (own t v + sum_done (length t.arcs) t e v (at_state (set cs u x)))
    on v b (yes y) =
        let here : at_state (set cs u x) v ≡ x.value = ap (at_state (set cs u x)) y ∙ at_set_same cs u x (omega (arith, p.long)) in
        let old : at_state cs u ≡ min 99 (own t v + sum_done (length t.arcs) t d v (at_state cs)) = ap (at_state cs) (sym y) ∙ p.sums v b in
        let more = sum_done_more (length t.arcs) i t d e v (at_state cs) below (sym leaves ∙ sym y) new done others in
        omega (arith, here, is, old, more, sum_stays v)
    on v b (no n) =
        let here : at_state (set cs u x) v ≡ at_state cs v = at_set_other cs u x v n in
        let same : sum_done (length t.arcs) t d v (at_state cs) ≡ sum_done (length t.arcs) t e v (at_state cs) =
        sum_done_same (length t.arcs) t d e v (at_state cs) (at_state cs) (λ k l q. ap (λ (z : Bool). cond z (at_state cs (arc t k).target) 0)
        (others k l (λ f. n (sym q ∙ (ap (λ (j : ℕ). (arc t j).source) f ∙ sym leaves))))) in
        omega (arith, here, p.sums v b, same, sum_stays v)
