-- Chains of arcs by the state that they lead from: the last arc from a state, cells, the loop that makes the chains, and a walk along one.
-- Assumes nothing.
use mathlib.Core.Path.{◌≡◌, refl, sym, ap, ◌∙◌}
use mathlib.Core.Bool.{Bool, true, false, cond}
use mathlib.Core.List.{List}
use Prim.Native.Nat.{ℕ, zero, suc, ◌+◌, ◌-◌, ◌≤◌, ◌<◌}
use native.Mathlib.Numerals.{add-one}
use native.Mathlib.Decide.{ℕ_discrete}
use native.Mathlib.Omega.{arith}
use lib.Dec.{ltb, eqb}
use lib.ListN.{length, get_or, set, replicate, length-set, length-replicate, get_or-replicate}
use lib.Seq.{get_or-set_same, get_or-set_other}
use borrow.Author.Tests.{eq-eqb, ne_eqb, ltb-true, ltb-false}
use Rattle.transducer.specs.Format.{max_arcs, max_states, Transducer}
use Rattle.transducer.specs.Path.{arc}
use Rattle.reach.specs.Marks.{from_end, to_end}
use Rattle.reach.specs.Cell.{links, cell_of, state_of, link_of}
use Rattle.reach.specs.Stack.{last, cell, Chained}
use Rattle.reach.proofs.Cell.{Parts, parts_cell, cell_some}

-- The last arc from a state

module _ (t : Transducer) (back : Bool) (s : ℕ) where
  pub last_next : (i : ℕ) → from_end back (arc t i) ≡ s → last t back s (suc i) ≡ suc i
  unfolding last
  last_next i e = rw (eq-eqb (from_end back (arc t i)) s e)

  pub last_stays : (i : ℕ) → (from_end back (arc t i) ≡ s → ⊥) → last t back s (suc i) ≡ last t back s i
  unfolding last
  last_stays i n = rw (ne_eqb (from_end back (arc t i)) s n)

  pub last_most : (i : ℕ) → last t back s i ≤ i
  unfolding last
  last_most zero = omega arith
  last_most (suc i) = on (eqb (from_end back (arc t i)) s) (last_most i)
    where
      on : (b : Bool) → last t back s i ≤ i → cond b (suc i) (last t back s i) ≤ suc i
      on true more = omega arith
      on false more = omega (arith, more)

  -- It is from there.
  pub last_from : (i : ℕ) → last t back s (suc i) ≡ suc i → from_end back (arc t i) ≡ s
  last_from i h = on (ℕ_discrete (from_end back (arc t i)) s)
    where
      on : Dec (from_end back (arc t i) ≡ s) → from_end back (arc t i) ≡ s
      on (yes e) = e
      on (no n) = absurd (omega (arith, last_stays i n, h, last_most i))

  pub last_last : (i : ℕ) → last t back s (last t back s i) ≡ last t back s i
  last_last zero = let none : last t back s 0 ≡ 0 = omega (arith, last_most 0) in ap (last t back s) none
  last_last (suc i) = on (ℕ_discrete (from_end back (arc t i)) s) (last_last i)
    where
      on : Dec (from_end back (arc t i) ≡ s) → last t back s (last t back s i) ≡ last t back s i → last t back s (last t back s (suc i)) ≡ last t back s (suc i)
      on (yes e) more = ap (last t back s) (last_next i e)
      on (no n) more = rw (last_stays i n) more

  -- None from there comes behind it.
  pub none_behind : (i j : ℕ) → last t back s i ≤ j → j < i → from_end back (arc t j) ≡ s → ⊥
  none_behind zero j l h e = omega arith
  none_behind (suc i) j l h e = on (ℕ_discrete (from_end back (arc t i)) s) (ℕ_discrete j i) (λ m k. none_behind i j m k e)
    where
      on : Dec (from_end back (arc t i) ≡ s) → Dec (j ≡ i) → (last t back s i ≤ j → j < i → ⊥) → ⊥
      on (yes q) d more = omega (arith, last_next i q)
      on (no n) (yes q) more = n (ap (λ (k : ℕ). from_end back (arc t k)) (sym q) ∙ e)
      on (no n) (no m) more = more (omega (arith, last_stays i n)) (omega arith)

-- Cells

pub cell_zero : (t : Transducer) (back : Bool) → cell t back 0 ≡ 0
unfolding cell
cell_zero t back = refl

pub cell_none : (t : Transducer) (back : Bool) (k : ℕ) → cell t back k ≡ 0 → k ≡ 0
unfolding cell
cell_none t back zero h = refl
cell_none t back (suc i) h = cell_some (to_end back (arc t i)) (suc i) h

pub cell_parts : (t : Transducer) (back : Bool) (i : ℕ) → suc i < links → Parts (to_end back (arc t i)) (suc i) (cell t back (suc i))
unfolding cell
cell_parts t back i h = parts_cell (to_end back (arc t i)) (suc i) h

pub cell_link : (t : Transducer) (back : Bool) (k : ℕ) → k < links → link_of (cell t back k) ≡ k
unfolding link_of
cell_link t back zero h = ap link_of (cell_zero t back)
cell_link t back (suc i) h = (cell_parts t back i h).link_is

-- Chaining

-- The first i arcs are in chains.
pub record Chaining (t : Transducer) (back : Bool) (i : ℕ) (heads next : List ℕ) : Type 0 where
  pub heads_long : length heads ≡ max_states
  pub next_long : length next ≡ max_arcs
  pub head_at : (s : ℕ) → s < max_states → get_or heads s 0 ≡ cell t back (last t back s i)
  pub next_at : (j : ℕ) → j < i → get_or next j 0 ≡ cell t back (last t back (from_end back (arc t j)) j)

pub chaining_first : (t : Transducer) (back : Bool) (next : List ℕ) → length next ≡ max_arcs → Chaining t back 0 (replicate max_states 0) next
unfolding last cell
chaining_first t back next h =
    record {
      heads_long = length-replicate {A = ℕ} max_states 0;
      next_long = h;
      head_at = λ s l. get_or-replicate {A = ℕ} max_states s 0 0 l;
      next_at = λ j l. absurd (omega arith);
    }

pub chaining_next : {t : Transducer} {back : Bool} {i : ℕ} {heads next : List ℕ} (from to : ℕ) → i < max_arcs → from < max_states
    → from ≡ from_end back (arc t i) → to ≡ to_end back (arc t i) → Chaining t back i heads next
    → Chaining t back (i + 1) (set heads from (cell_of to (i + 1))) (set next i (get_or heads from 0))
unfolding cell
chaining_next {t} {back} {i} {heads} {next} from to h l f g m =
    record {
      heads_long = length-set heads from (cell_of to (i + 1)) ∙ m.heads_long;
      next_long = length-set next i (get_or heads from 0) ∙ m.next_long;
      head_at = λ s k. rw add-one (head s k (ℕ_discrete s from));
      next_at = λ j k. put j k (ℕ_discrete j i);
    }
  where
    head : (s : ℕ) → s < max_states → Dec (s ≡ from) → get_or (set heads from (cell_of to (suc i))) s 0 ≡ cell t back (last t back s (suc i))
    head s k (yes e) =
        rw e (get_or-set_same heads from (cell_of to (suc i)) 0 (omega (arith, m.heads_long))
        ∙ ap (λ (u : ℕ). cell_of u (suc i)) g ∙ ap (cell t back) (sym (last_next t back from i (sym f))))
    head s k (no n) =
        get_or-set_other heads from s (cell_of to (suc i)) 0 n ∙ m.head_at s k ∙ ap (cell t back) (sym (last_stays t back s i (λ e. n (sym e ∙ sym f))))

    put : (j : ℕ) → j < i + 1 → Dec (j ≡ i) → get_or (set next i (get_or heads from 0)) j 0 ≡ cell t back (last t back (from_end back (arc t j)) j)
    put j k (yes e) =
        rw (e, ← f) (get_or-set_same next i (get_or heads from 0) 0 (omega (arith, m.next_long)) ∙ m.head_at from l)
    put j k (no n) = get_or-set_other next i j (get_or heads from 0) 0 n ∙ m.next_at j (omega arith)

pub chaining_stop : {t : Transducer} {back : Bool} {i : ℕ} {heads next : List ℕ} → i ≡ length t.arcs → Chaining t back i heads next
    → Chained t back heads next
chaining_stop {t} {back} e m =
    record {
      heads_long = m.heads_long;
      next_long = m.next_long;
      head_at = λ s l. m.head_at s l ∙ ap (λ (k : ℕ). cell t back (last t back s k)) e;
      next_at = λ j l. m.next_at j (omega arith);
    }

-- A walk along the chain of a state

-- A cell on the chain of a state: of its arcs those from number `link` on are passed.
pub record OnChain (t : Transducer) (back : Bool) (s link c : ℕ) : Type 0 where
  pub cell_is : c ≡ cell t back link
  pub last_is : last t back s link ≡ link
  pub link_most : link ≤ length t.arcs

pub chain_first : {t : Transducer} {back : Bool} {heads next : List ℕ} (s : ℕ) → s < max_states → Chained t back heads next
    → OnChain t back s (last t back s (length t.arcs)) (get_or heads s 0)
chain_first {t} {back} s h ch =
    record { cell_is = ch.head_at s h; last_is = last_last t back s (length t.arcs); link_most = last_most t back s (length t.arcs) }

-- The arc of a cell that is not 0, by the cell's parts.
pub record ArcHere (t : Transducer) (back : Bool) (s state part link : ℕ) : Type 0 where
  pub number : ℕ
  pub below : number < length t.arcs
  pub from : from_end back (arc t number) ≡ s
  pub to : state ≡ to_end back (arc t number)
  pub part_is : part ≡ suc number
  pub is : link ≡ suc number

module _ {t : Transducer} {back : Bool} {s link c u k : ℕ} (few : length t.arcs ≤ max_arcs) (w : OnChain t back s link c) (p : Parts u k c) where
  pub chain_arc : (c ≡ 0 → ⊥) → ArcHere t back s u k link
  chain_arc some = on link refl
    where
      on : (j : ℕ) → link ≡ j → ArcHere t back s u k link
      on zero e = absurd (some (w.cell_is ∙ ap (cell t back) e ∙ cell_zero t back))
      on (suc i) e =
          let c_is : c ≡ cell t back (suc i) = w.cell_is ∙ ap (cell t back) e in
          let low : suc i < links = omega (arith, e, w.link_most) in
          let here : last t back s (suc i) ≡ suc i = rw e at w.last_is in
          record {
            number = i;
            below = omega (arith, e, w.link_most);
            from = last_from t back s i here;
            to = sym p.state_is ∙ ap state_of c_is ∙ (cell_parts t back i low).state_is;
            part_is = sym p.link_is ∙ ap link_of c_is ∙ (cell_parts t back i low).link_is;
            is = e;
          }

  -- The next cell is that of the last arc before this one from the same state.
  pub chain_next : {heads next : List ℕ} → Chained t back heads next → (a : ArcHere t back s u k link)
      → OnChain t back s (last t back s a.number) (get_or next (k - 1) 0)
  chain_next {next = next} ch a =
      let at : k - 1 ≡ a.number = omega (arith, a.part_is) in
      record {
        cell_is = ap (λ (j : ℕ). get_or next j 0) at ∙ ch.next_at a.number a.below
            ∙ ap (λ (v : ℕ). cell t back (last t back v a.number)) a.from;
        last_is = last_last t back s a.number;
        link_most = omega (arith, last_most t back s a.number, a.below);
      }

  pub chain_link : (c ≡ 0 → ⊥) → (0 < k) × (k ≤ max_arcs)
  chain_link some = let a = chain_arc some in (omega (arith, a.part_is), omega (arith, a.part_is, a.below))

  -- The chain goes on to lower numbers.
  pub chain_less : {heads next : List ℕ} → Chained t back heads next → (c ≡ 0 → ⊥) → link_of (get_or next (k - 1) 0) < link_of c
  chain_less ch some =
      let a = chain_arc some in
      let n = chain_next ch a in
      let most = last_most t back s a.number in
      let link' = cell_link t back (last t back s a.number) (omega (arith, most, a.below)) in
      rw n.cell_is (omega (arith, link', most, a.part_is, p.link_is))

pub chain_end : {t : Transducer} {back : Bool} {s link c : ℕ} → OnChain t back s link c → c ≡ 0 → link ≡ 0
chain_end {t} {back} {link = link} w e = cell_none t back link (sym w.cell_is ∙ e)

-- Between an arc and the one that its chain goes on to none is from the same state.
pub none_between : (t : Transducer) (back : Bool) (s i j : ℕ) → from_end back (arc t j) ≡ s → (j ≡ i → ⊥) → last t back s i ≤ j → suc i ≤ j
none_between t back s i j f n h = on (ltb j i) refl
  where
    on : (b : Bool) → ltb j i ≡ b → suc i ≤ j
    on true l = absurd (none_behind t back s i j h (ltb-true j i l) f)
    on false l = omega (arith, ltb-false j i l, n)
