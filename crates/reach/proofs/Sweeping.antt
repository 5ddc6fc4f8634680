-- A sweep, arc by arc: what it has covered, and that no mark is left to spread where no arc waits, since arcs stand by their sources. Assumes
-- nothing.
use mathlib.Core.Path.{◌≡◌, refl, sym, subst}
use mathlib.Core.Bool.{Bool, true, false, ◌&&◌, not, cond}
use mathlib.Core.Logic.{◌⊎◌, inl, inr}
use mathlib.Core.List.{List}
use Prim.Native.Nat.{ℕ, ◌+◌, ◌-◌, ◌≤◌, ◌<◌}
use native.Mathlib.Decide.{ℕ_discrete}
use native.Mathlib.Omega.{arith}
use lib.Dec.{ltb}
use lib.ListN.{length, get_or}
use borrow.Author.Tests.{ltb-false}
use Rattle.wire.proofs.Bool.{never}
use Rattle.transducer.specs.declared.Arc.{Arc}
use Rattle.transducer.specs.Format.{Transducer}
use Rattle.transducer.specs.Path.{arc}
use Rattle.reach.specs.Marks.{Spread, from_end, to_end, Widened, waits, Swept}
use Rattle.reach.proofs.Spreading.{widened_none, widened_twice, widened_one}

-- Sources never fall.
abbrev pub Sourced : Transducer → Type 0
Sourced t = (j i : ℕ) → j ≤ i → i < length t.arcs → (arc t j).source ≤ (arc t i).source

-- Two states in the order of a sweep.
abbrev pub Ordered : (back : Bool) → (one next : ℕ) → Type 0
Ordered false a b = a ≤ b
Ordered true a b = b ≤ a

-- An arc along which no mark is left to spread: it has both, or it leads with the order.
pub data Tidy (ms : List Bool) (back : Bool) (from to : ℕ) : Type 0 where
  has_both : get_or ms from false ≡ true → get_or ms to false ≡ true → Tidy ms back from to
  ordered : Ordered back from to → (get_or ms from false ≡ true → get_or ms to false ≡ true) → Tidy ms back from to

tidy_passes : {ms : List Bool} {back : Bool} {from to : ℕ} → Tidy ms back from to → get_or ms from false ≡ true → get_or ms to false ≡ true
tidy_passes (has_both p q) h = q
tidy_passes (ordered o c) h = c h

not_waits : (ms : List Bool) (back : Bool) (from to : ℕ) → waits ms back from to ≡ false
    → Ordered back from to ⊎ ((get_or ms from false ≡ true) × (get_or ms to false ≡ true))
unfolding waits
not_waits ms back from to h = on back (cond back (ltb from to) (ltb to from)) refl h
  where
    all : (x y : Bool) → not (x && y) ≡ false → (x ≡ true) × (y ≡ true)
    all true true e = (refl, refl)
    all true false e = never (sym e)
    all false y e = never (sym e)

    on : (d b : Bool) → cond d (ltb from to) (ltb to from) ≡ b → b && not (get_or ms from false && get_or ms to false) ≡ false
        → Ordered d from to ⊎ ((get_or ms from false ≡ true) × (get_or ms to false ≡ true))
    on d true e g = inr (all (get_or ms from false) (get_or ms to false) g)
    on false false e g = inl (ltb-false to from e)
    on true false e g = inl (ltb-false from to e)

-- A new mark where an earlier arc begins: by the order of their sources both arcs stay at that state, or the earlier one does.
meet : (back : Bool) {f g f' g' : ℕ} → Ordered back f g → Ordered back f' g' → Ordered back (cond back g' f') (cond back g f) → f' ≡ g
    → (f' ≡ f) ⊎ (g' ≡ f')
meet false o o' b e = inl (omega arith)
meet true o o' b e = inr (omega arith)

-- An arc that is swept, and one that was swept before it.
module _ {mid end : List Bool} {back : Bool} {from to : ℕ} (sp : Spread mid from to end)
    (here : Ordered back from to ⊎ ((get_or mid from false ≡ true) × (get_or mid to false ≡ true))) where
  tidy_here : Tidy end back from to
  tidy_here = on here
    where
      passes : (get_or mid from false ≡ true) ⊎ ((from ≡ to) × (get_or mid from false ≡ true)) → get_or end to false ≡ true
      passes (inl e) = sp.covers e
      passes (inr b) = sp.covers b.1

      on : Ordered back from to ⊎ ((get_or mid from false ≡ true) × (get_or mid to false ≡ true)) → Tidy end back from to
      on (inl o) = ordered o (λ h. passes (sp.from_old from h))
      on (inr m) = has_both (sp.grows from m.0) (sp.grows to m.1)

  tidy_before : {from' to' : ℕ} → Ordered back (cond back to' from') (cond back to from) → Tidy mid back from' to' → Tidy end back from' to'
  tidy_before {from'} {to'} b (has_both p q) = has_both (sp.grows from' p) (sp.grows to' q)
  tidy_before {from'} {to'} b (ordered o c) = ordered o (λ h. on h (sp.from_old from' h) here)
    where
      met : get_or end from' false ≡ true → get_or mid from false ≡ true → (from' ≡ from) ⊎ (to' ≡ from') → get_or end to' false ≡ true
      met h m (inl e) = let m' : get_or mid from' false ≡ true = rw e m in sp.grows to' (c m')
      met h m (inr e) = rw e h

      on : get_or end from' false ≡ true → (get_or mid from' false ≡ true) ⊎ ((from' ≡ to) × (get_or mid from false ≡ true))
          → Ordered back from to ⊎ ((get_or mid from false ≡ true) × (get_or mid to false ≡ true)) → get_or end to' false ≡ true
      on h (inl e) k = sp.grows to' (c e)
      on h (inr r) (inr m) = let m' : get_or mid from' false ≡ true = rw r.0 m.1 in sp.grows to' (c m')
      on h (inr r) (inl q) = met h r.1 (meet back q o b r.0)

-- Marks have spread along the arcs numbered from `low` to below `high`, and none of these waits.
pub record Sweeping (t : Transducer) (back : Bool) (low high : ℕ) (ms ms' : List Bool) : Type 0 where
  pub wider : Widened t back ms ms'
  pub tidy : (i : ℕ) → low ≤ i → i < high → Tidy ms' back (from_end back (arc t i)) (to_end back (arc t i))

sweeping_none : (t : Transducer) (back : Bool) (low high : ℕ) (ms : List Bool) → high ≤ low → Sweeping t back low high ms ms
sweeping_none t back low high ms none = record { wider = widened_none t back ms; tidy = λ j l h. absurd (omega arith) }

by_sources : (back : Bool) (a b : Arc) → Ordered back a.source b.source
    → Ordered back (cond back (to_end back a) (from_end back a)) (cond back (to_end back b) (from_end back b))
by_sources false a b o = o
by_sources true a b o = o

-- The arcs that a sweep has taken before its turn `k`, in order or the last arc first: from the one to below the other.
abbrev pub low_at : (back : Bool) → (arcs k : ℕ) → ℕ
low_at back arcs k = cond back (arcs - k) 0

abbrev pub high_at : (back : Bool) → (arcs k : ℕ) → ℕ
high_at back arcs k = cond back arcs k

pub at_turn_below : (back : Bool) {arcs k i n : ℕ} → i ≡ cond back (arcs - (k + 1)) k → k < arcs → arcs ≡ n → i < n
at_turn_below false e l all = omega arith
at_turn_below true e l all = omega arith

module _ {t : Transducer} {ms mid end : List Bool} where
  sweeping_more : (back : Bool) {low high : ℕ} (low' high' i : ℕ) → i < length t.arcs
      → ((j : ℕ) → low' ≤ j → j < high' → (j ≡ i) ⊎ ((low ≤ j) × (j < high) × Ordered back (arc t j).source (arc t i).source))
      → waits mid back (from_end back (arc t i)) (to_end back (arc t i)) ≡ false
      → Sweeping t back low high ms mid → Spread mid (from_end back (arc t i)) (to_end back (arc t i)) end
      → Sweeping t back low' high' ms end
  sweeping_more back {low} {high} low' high' i below cases q w sp =
      record { wider = widened_twice w.wider (widened_one i below sp); tidy = λ j l h. neat j (cases j l h) }
    where
      neat : (j : ℕ) → (j ≡ i) ⊎ ((low ≤ j) × (j < high) × Ordered back (arc t j).source (arc t i).source)
          → Tidy end back (from_end back (arc t j)) (to_end back (arc t j))
      neat j (inl e) = rw e (tidy_here sp (not_waits mid back (from_end back (arc t i)) (to_end back (arc t i)) q))
      neat j (inr b) =
          tidy_before sp (not_waits mid back (from_end back (arc t i)) (to_end back (arc t i)) q)
          (by_sources back (arc t j) (arc t i) b.2) (w.tidy j b.0 b.1)

  sweeping_turn : (back : Bool) {arcs k : ℕ} (i : ℕ) → Sourced t → i ≡ cond back (arcs - (k + 1)) k → k < arcs → arcs ≡ length t.arcs
      → waits mid back (from_end back (arc t i)) (to_end back (arc t i)) ≡ false
      → Sweeping t back (low_at back arcs k) (high_at back arcs k) ms mid
      → Spread mid (from_end back (arc t i)) (to_end back (arc t i)) end
      → Sweeping t back (low_at back arcs (k + 1)) (high_at back arcs (k + 1)) ms end
  sweeping_turn false {arcs} {k} i order e l all q w sp =
      sweeping_more false 0 (k + 1) i (at_turn_below false e l all) (λ j m h. on j h (ℕ_discrete j i)) q w sp
    where
      on : (j : ℕ) → j < k + 1 → Dec (j ≡ i) → (j ≡ i) ⊎ ((0 ≤ j) × (j < k) × ((arc t j).source ≤ (arc t i).source))
      on j h (yes q) = inl q
      on j h (no n) = inr (omega arith, omega arith, order j i (omega arith) (at_turn_below false e l all))
  sweeping_turn true {arcs} {k} i order e l all q w sp =
      sweeping_more true (arcs - (k + 1)) arcs i (at_turn_below true e l all) (λ j m h. on j m h (ℕ_discrete j i)) q w sp
    where
      on : (j : ℕ) → arcs - (k + 1) ≤ j → j < arcs → Dec (j ≡ i) → (j ≡ i) ⊎ ((arcs - k ≤ j) × (j < arcs) × ((arc t i).source ≤ (arc t j).source))
      on j m h (yes q) = inl q
      on j m h (no n) = inr (omega arith, h, order i j (omega arith) (omega arith))

  -- One turn.
  pub sweeping_next : (back : Bool) {arcs k from to : ℕ} (i : ℕ) → Sourced t → i ≡ cond back (arcs - (k + 1)) k → k < arcs
      → arcs ≡ length t.arcs → from ≡ from_end back (arc t i) → to ≡ to_end back (arc t i) → waits mid back from to ≡ false
      → Sweeping t back (low_at back arcs k) (high_at back arcs k) ms mid → Spread mid from to end
      → Sweeping t back (low_at back arcs (k + 1)) (high_at back arcs (k + 1)) ms end
  sweeping_next back i order e l all f g q w sp = sweeping_turn back i order e l all (rw (f, g) at q) w (rw (f, g) at sp)

pub sweeping_first : (t : Transducer) (back : Bool) (arcs : ℕ) (ms : List Bool) → Sweeping t back (low_at back arcs 0) (high_at back arcs 0) ms ms
sweeping_first t false arcs ms = sweeping_none t false 0 0 ms (omega arith)
sweeping_first t true arcs ms = sweeping_none t true (arcs - 0) arcs ms (omega arith)

module _ {t : Transducer} {ms end : List Bool} where
  sweeping_all : (back : Bool) {arcs k : ℕ} → k ≡ arcs → Sweeping t back (low_at back arcs k) (high_at back arcs k) ms end
      → Sweeping t back 0 arcs ms end
  sweeping_all false e w = subst (λ (h : ℕ). Sweeping t false 0 h ms end) e w
  sweeping_all true {arcs} {k} e w =
      let none : arcs - k ≡ 0 = omega arith in subst (λ (l : ℕ). Sweeping t true l arcs ms end) none w

  pub sweeping_stop : (back : Bool) {arcs k : ℕ} → arcs ≡ length t.arcs → k ≡ arcs
      → Sweeping t back (low_at back arcs k) (high_at back arcs k) ms end → Swept t back ms end false
  sweeping_stop back {arcs} all e v =
      let w : Sweeping t back 0 arcs ms end = sweeping_all back e v in
      record { wider = w.wider; closed = λ _ i h m. tidy_passes (w.tidy i (omega arith) (omega arith)) m }

-- Where more may come only the marks are told.
pub swept_more : {t : Transducer} {back : Bool} {ms ms' : List Bool} → Widened t back ms ms' → Swept t back ms ms' true
swept_more w = record { wider = w; closed = λ e. never (sym e) }
