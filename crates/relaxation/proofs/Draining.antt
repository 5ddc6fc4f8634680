-- Draining the queue: all arcs from marked states are relaxed once, then those that lead to a state that comes off, until all is settled or a path has as many
-- arcs as there are states. These laws know of relaxing an arc only what `Relaxed` says. Assumes nothing.
use mathlib.Core.Path.{◌≡◌, refl, sym, ap, ◌∙◌}
use mathlib.Core.Bool.{Bool, true, false, ◌&&◌}
use mathlib.Core.Logic.{◌⊎◌, inl, inr}
use mathlib.Core.List.{List}
use Prim.Native.Nat.{ℕ, ◌+◌, ◌≤◌, ◌<◌}
use native.Mathlib.Omega.{arith}
use native.Mathlib.Decide.{ℕ_discrete}
use lib.Dec.{leb, ltb}
use lib.ListN.{length, get_or, set, replicate}
use borrow.Author.Tests.{eqb-true, eq-eqb, leb-true, le-leb, ltb-true, lt-ltb}
use Rattle.std.proofs.Common.{Ok}
use Rattle.wire.proofs.Bool.{clash, never, and-true, true_and}
use Rattle.transducer.specs.Format.{Transducer, max_states}
use Rattle.transducer.specs.Path.{arc}
use Rattle.transducer.specs.Weight.{Weight}
use Rattle.reach.proofs.Sized.{Sized}
use Rattle.reach.specs.Index.{leads_to, ByTarget}
use Rattle.reach.proofs.ByTarget.{Linked, ArcThere, link_first, link_all, link_next, link_rest}
use Rattle.relax.specs.Tentative.{Sizes, cost_at, by_state, Tentative, Cells, NoBetter, gained, Relaxed}
use Rattle.relax.specs.declared.relaxing.Change.{Change}
use Rattle.relax.specs.declared.relaxing.Change.TheVariants.{Kept, Better, TooLong}
use Rattle.relax.proofs.EmptyPaths.{cleared}
use Rattle.relaxation.specs.Queue.{waiting, NoneWaits, Inside, Joined, Joins, Draining, none, to_do, Drains, Drained}
use Rattle.relaxation.proofs.Waiting.{mark_here, mark_other}

-- An arc is relaxed, and its source joins the queue where it gets better.

module _ {t : Transducer} (m : ℕ → Bool) (z : Sized t) {cs : List Weight} {ls : Sizes} {waits : List Bool} {many : ℕ} (i : ℕ)
    (b : i < length t.arcs) (q : Inside t waits) {cs' : List Weight} {ls' : Sizes} {change : Change}
    (r : Relaxed t i cs ls cs' ls' change) (short : change ≡ TooLong → ⊥) where
  step : {waits' : List Bool} {many' : ℕ} → Inside t waits'
      → ((u : ℕ) → waiting waits u ≡ true → waiting waits' u ≡ true) → (change ≡ Better → waiting waits' (arc t i).source ≡ true)
      → many' ≤ many + gained change → Joined t m i cs ls waits many cs' ls' waits' many'
  unfolding to_do
  step {waits'} {many'} q' stays joins most =
      record { inside = q'; settles = λ x on old. settles x old; falls = omega (arith, r.falls, most) }
    where
      Now : ℕ → Type 0
      Now x = (waiting waits' (arc t x).target ≡ true) ⊎ NoBetter t cs' ls' x

      -- It leads to a state that waits, or not to what got better.
      on : (x : ℕ) → (x ≡ i) ⊎ NoBetter t cs ls x → (v : Bool) → waiting waits' (arc t x).target ≡ v → Now x
      on x old true w = inl w
      on x old false w = inr (r.settles x old short (λ v same. clash {b = waiting waits' (arc t x).target} (ap (waiting waits') same ∙ joins v) w))

      settles : (x : ℕ) → (x ≡ i) ⊎ ((waiting waits (arc t x).target ≡ true) ⊎ NoBetter t cs ls x) → Now x
      settles x (inl e) = on x (inl e) (waiting waits' (arc t x).target) refl
      settles x (inr (inl w)) = inl (stays (arc t x).target w)
      settles x (inr (inr w)) = on x (inr w) (waiting waits' (arc t x).target) refl

  pub joined_kept : change ≡ Kept → Joined t m i cs ls waits many cs' ls' waits many
  joined_kept e = step q (λ u w. w) (λ v. cc) (omega arith)

  -- The source as it was read.
  module _ (u : ℕ) (is : u ≡ (arc t i).source) where
    pub joined_waits : waiting waits u ≡ true → Joined t m i cs ls waits many cs' ls' waits many
    joined_waits w = step q (λ x v. v) (λ _. rw is at w) (omega arith)

    pub joined_pushed : {waits' : List Bool} {many' : ℕ} → change ≡ Better → u < length waits → waits' ≡ set waits u true → many' ≡ many + 1
        → Joined t m i cs ls waits many cs' ls' waits' many'
    joined_pushed v long f more =
        let here : waiting (set waits u true) u ≡ true = mark_here waits u true long in
        rw f (step inside stays (λ _. rw (← is) here) (rw v (omega (arith, more))))
      where
        inside : Inside t (set waits u true)
        inside x w = on (ℕ_discrete x u)
          where
            on : Dec (x ≡ u) → x < t.states
            on (yes e) = omega (arith, e, is, z.within.leaves i b)
            on (no n) = q x (sym (mark_other waits u x true n) ∙ w)

        stays : (x : ℕ) → waiting waits x ≡ true → waiting (set waits u true) x ≡ true
        stays x w = on (ℕ_discrete x u)
          where
            on : Dec (x ≡ u) → waiting (set waits u true) x ≡ true
            on (yes e) = rw e (mark_here waits u true long)
            on (no n) = mark_other waits u x true n ∙ w

-- What is left to relax is less by that arc.
pub draining_joined : {t : Transducer} {m left left' : ℕ → Bool} {cs : List Weight} {ls : Sizes} {waits : List Bool} {many : ℕ}
    → Draining t m left cs ls waits → (i : ℕ) {cs' : List Weight} {ls' : Sizes} {waits' : List Bool} {many' : ℕ}
    → Cells t.states cs' ls' → Tentative t (cost_at cs') (by_state ls') → Joined t m i cs ls waits many cs' ls' waits' many'
    → ((x : ℕ) → x < length t.arcs → left x ≡ true → (x ≡ i) ⊎ (left' x ≡ true))
    → Draining t m left' cs' ls' waits'
draining_joined {t} {m} {left} {left'} {cs} {ls} {waits = waits} k i {cs'} {ls'} {waits' = waits'} cells near j less =
    record { cells = cells; nearing = near; inside = j.inside; by_arc = λ x h o. on x h o (k.by_arc x h o) }
  where
    Now : ℕ → Type 0
    Now x = (left' x ≡ true) ⊎ ((waiting waits' (arc t x).target ≡ true) ⊎ NoBetter t cs' ls' x)

    one : (x : ℕ) → m (arc t x).source ≡ true → (x ≡ i) ⊎ (left' x ≡ true) → Now x
    one x o (inl e) = inr (j.settles x o (inl e))
    one x o (inr e) = inl e

    on : (x : ℕ) → x < length t.arcs → m (arc t x).source ≡ true → (left x ≡ true) ⊎ ((waiting waits (arc t x).target ≡ true) ⊎ NoBetter t cs ls x)
        → Now x
    on x h o (inl e) = one x o (less x h e)
    on x h o (inr w) = inr (j.settles x o (inr w))

-- All arcs in order, with an empty queue.

unfoldable pub from_on : (i : ℕ) → ℕ → Bool
from_on i x = leb i x

pub ordered_first : {t : Transducer} {m : ℕ → Bool} {cs : List Weight} {ls : Sizes} {waits : List Bool} → Cells t.states cs ls
    → Tentative t (cost_at cs) (by_state ls) → Inside t waits → Draining t m (from_on 0) cs ls waits
unfolding from_on
ordered_first cells near q = record { cells = cells; nearing = near; inside = q; by_arc = λ x h o. inl (le-leb 0 x (omega arith)) }

-- Nothing waits.
pub inside_none : (t : Transducer) {waits : List Bool} → waits ≡ replicate max_states false → Inside t waits
inside_none t e = λ s w. clash w (ap (λ (xs : List Bool). waiting xs s) e ∙ (cleared false 0 max_states (omega arith)).blank s)

pub ordered_next : (i x : ℕ) → from_on i x ≡ true → (x ≡ i) ⊎ (from_on (i + 1) x ≡ true)
unfolding from_on
ordered_next i x e = on (ℕ_discrete x i)
  where
    on : Dec (x ≡ i) → (x ≡ i) ⊎ (leb (i + 1) x ≡ true)
    on (yes q) = inl q
    on (no q) = inr (le-leb (i + 1) x (omega (arith, leb-true i x e)))

pub ordered_stop : {t : Transducer} {m : ℕ → Bool} {cs : List Weight} {ls : Sizes} {waits : List Bool} {i : ℕ}
    → Draining t m (from_on i) cs ls waits → length t.arcs ≤ i → Draining t m none cs ls waits
unfolding from_on
ordered_stop {t} {m} {cs} {ls} {waits = waits} {i = i} k e =
    record { cells = k.cells; nearing = k.nearing; inside = k.inside; by_arc = λ x h o. on x h (k.by_arc x h o) }
  where
    on : (x : ℕ) → x < length t.arcs → (leb i x ≡ true) ⊎ ((waiting waits (arc t x).target ≡ true) ⊎ NoBetter t cs ls x)
        → (none x ≡ true) ⊎ ((waiting waits (arc t x).target ≡ true) ⊎ NoBetter t cs ls x)
    on x h (inl q) = absurd (omega (arith, leb-true i x q))
    on x h (inr w) = inr w

-- A state comes off.

pub draining_popped : {t : Transducer} {m : ℕ → Bool} {cs : List Weight} {ls : Sizes} {waits waits' : List Bool} → Draining t m none cs ls waits → (s : ℕ)
    → waits' ≡ set waits s false → s < length waits → Draining t m (leads_to t s) cs ls waits'
unfolding leads_to
draining_popped {t} {m} {cs} {ls} {waits} k s e long =
    rw e (record {
      cells = k.cells;
      nearing = k.nearing;
      inside = λ u w. inside u w (ℕ_discrete u s);
      by_arc = λ i b o. on i (k.by_arc i b o) (ℕ_discrete (arc t i).target s);
    })
  where
    on : (i : ℕ) → (none i ≡ true) ⊎ ((waiting waits (arc t i).target ≡ true) ⊎ NoBetter t cs ls i) → Dec ((arc t i).target ≡ s)
        → (leads_to t s i ≡ true) ⊎ ((waiting (set waits s false) (arc t i).target ≡ true) ⊎ NoBetter t cs ls i)
    on i (inl q) d = never q
    on i (inr (inl w)) (yes q) = inl (eq-eqb (arc t i).target s q)
    on i (inr (inl w)) (no q) = inr (inl (mark_other waits s (arc t i).target false q ∙ w))
    on i (inr (inr w)) d = inr (inr w)

    inside : (u : ℕ) → waiting (set waits s false) u ≡ true → Dec (u ≡ s) → u < t.states
    inside u w (yes q) = clash {b = waiting (set waits s false) s} (rw q at w) (mark_here waits s false long)
    inside u w (no q) = k.inside u (sym (mark_other waits s u false q) ∙ w)

pub popped_less : (t : Transducer) (cs : List Weight) (ls : Sizes) (many left : ℕ) {next : ℕ} → left + 1 ≡ many → next ≤ to_do t cs ls left
    → next < to_do t cs ls many
unfolding to_do
popped_less t cs ls many left one le = omega arith

pub draining_stop : {t : Transducer} {m : ℕ → Bool} {cs : List Weight} {ls : Sizes} {waits : List Bool} → Sized t → Draining t m none cs ls waits → NoneWaits waits → Drained t m cs ls true
draining_stop {t} {m} {cs} {ls} {waits = waits} z k e =
    record { cells = k.cells; nearing = k.nearing; relaxed = λ _ i b o. on i b (k.by_arc i b o); stays = λ q. clash refl q }
  where
    on : (i : ℕ) → i < length t.arcs → (none i ≡ true) ⊎ ((waiting waits (arc t i).target ≡ true) ⊎ NoBetter t cs ls i) → NoBetter t cs ls i
    on i b (inl q) = never q
    on i b (inr (inl w)) = clash w (e (arc t i).target (omega (arith, z.within.arrives i b, z.states)))
    on i b (inr (inr w)) = w

-- The arcs that lead to a state, below a link of its chain.

unfoldable pub left_below : Transducer → (s link : ℕ) → (i : ℕ) → Bool
left_below t s link i = leads_to t s i && ltb i link

-- Those from the link on are relaxed.
pub record Relaxing (t : Transducer) (m : ℕ → Bool) (s link todo : ℕ) (cs : List Weight) (ls : Sizes) (waits : List Bool)
    (many : ℕ) : Type 0 where
  pub linked : Linked t s link
  pub settling : Draining t m (left_below t s link) cs ls waits
  pub falls : to_do t cs ls many ≤ todo

pub relaxing_stop : {t : Transducer} {m : ℕ → Bool} {s link todo : ℕ} {cs : List Weight} {ls : Sizes} {waits : List Bool} {many : ℕ}
    → Relaxing t m s link todo cs ls waits many → link ≤ 0 → Draining t m none cs ls waits
unfolding left_below
relaxing_stop {t} {m} {s} {link} {cs = cs} {ls = ls} {waits = waits} r e =
    record {
      cells = r.settling.cells;
      nearing = r.settling.nearing;
      inside = r.settling.inside;
      by_arc = λ i h o. on i (r.settling.by_arc i h o);
    }
  where
    on : (i : ℕ) → (left_below t s link i ≡ true) ⊎ ((waiting waits (arc t i).target ≡ true) ⊎ NoBetter t cs ls i)
        → (none i ≡ true) ⊎ ((waiting waits (arc t i).target ≡ true) ⊎ NoBetter t cs ls i)
    on i (inl q) = absurd (omega (arith, e, ltb-true i link (and-true (leads_to t s i) (ltb i link) q).1))
    on i (inr w) = inr w

module _ {t : Transducer} {heads links : List ℕ} (by : ByTarget t heads links) (s : ℕ) where
  pub relaxing_first : s < 1024 → {m : ℕ → Bool} {cs : List Weight} {ls : Sizes} {waits : List Bool} (many : ℕ)
      → Draining t m (leads_to t s) cs ls waits → Relaxing t m s (get_or heads s 0) (to_do t cs ls many) cs ls waits many
  unfolding left_below leads_to
  relaxing_first b {m} {cs} {ls} {waits} many k =
      record {
        linked = link_first by s b;
        settling = record { cells = k.cells; nearing = k.nearing; inside = k.inside; by_arc = λ i h o. on i h (k.by_arc i h o) };
        falls = omega arith;
      }
    where
      on : (i : ℕ) → i < length t.arcs → (leads_to t s i ≡ true) ⊎ ((waiting waits (arc t i).target ≡ true) ⊎ NoBetter t cs ls i)
          → (left_below t s (get_or heads s 0) i ≡ true) ⊎ ((waiting waits (arc t i).target ≡ true) ⊎ NoBetter t cs ls i)
      on i h (inl q) =
          inl (true_and (leads_to t s i) (ltb i (get_or heads s 0)) q
          (lt-ltb i (get_or heads s 0) (link_all by s b i h (eqb-true (arc t i).target s q))))
      on i h (inr w) = inr w

  pub relaxing_next : {m : ℕ → Bool} {link todo : ℕ} {cs : List Weight} {ls : Sizes} {waits : List Bool} {many : ℕ}
      → Relaxing t m s link todo cs ls waits many → (i : ℕ) → ArcThere t s link i
      → {cs' : List Weight} {ls' : Sizes} {waits' : List Bool} {many' : ℕ} → Cells t.states cs' ls'
      → Tentative t (cost_at cs') (by_state ls')
      → Joined t m i cs ls waits many cs' ls' waits' many' → Relaxing t m s (get_or links i 0) todo cs' ls' waits' many'
  unfolding left_below leads_to
  relaxing_next {m} {link} k i here cells near j =
      record {
        linked = link_next by s here;
        settling = draining_joined k.settling i cells near j less;
        falls = omega (arith, k.falls, j.falls);
      }
    where
      on : (x : ℕ) → leads_to t s x ≡ true → x < link → Dec (x ≡ i) → (x ≡ i) ⊎ (leads_to t s x && ltb x (get_or links i 0) ≡ true)
      on x to l (yes e) = inl e
      on x to l (no n) =
          inr (true_and (leads_to t s x) (ltb x (get_or links i 0)) to
          (lt-ltb x (get_or links i 0) (link_rest by s here x (omega (arith, l, n, here.is)) (eqb-true (arc t x).target s to))))

      less : (x : ℕ) → x < length t.arcs → leads_to t s x && ltb x link ≡ true → (x ≡ i) ⊎ (leads_to t s x && ltb x (get_or links i 0) ≡ true)
      less x h e =
          let both = and-true (leads_to t s x) (ltb x link) e in
          on x both.0 (ltb-true x link both.1) (ℕ_discrete x i)

-- What a call answers where it is done.

pub joins : {A E : Type 0} {v : A} {t : Transducer} {m : ℕ → Bool} {i : ℕ} {cs : List Weight} {ls : Sizes} {waits : List Bool} {many : ℕ} {cs' : List Weight}
    {ls' : Sizes} {waits' : List Bool} {many' : ℕ} → Cells t.states cs' ls' → Tentative t (cost_at cs') (by_state ls')
    → Joined t m i cs ls waits many cs' ls' waits' many' → Joins {A = A} {E = E} t m i cs ls waits many cs' ls' waits' many' (Ok v)
joins cells near j = record { cells = cells; nearing = near; joined = λ _. j; stays = λ e. never e }

pub drains : {A E : Type 0} {v : A} {t : Transducer} {m : ℕ → Bool} {todo : ℕ} {cs : List Weight} {ls : Sizes} {waits : List Bool} {many : ℕ}
    → Draining t m none cs ls waits → to_do t cs ls many ≤ todo → Drains {A = A} {E = E} t m todo cs ls waits many (Ok v)
drains d le = record { cells = d.cells; nearing = d.nearing; draining = λ _. d; falls = λ _. le; stays = λ e. never e }
