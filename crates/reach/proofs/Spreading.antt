-- Marks that spread along arcs: one mark (`Spread`), any number of them (`Widened`), and how many there are. Assumes nothing.
use mathlib.Core.Path.{◌≡◌, refl, sym, ◌∙◌}
use mathlib.Core.Bool.{Bool, true, false}
use mathlib.Core.Logic.{◌⊎◌, inl, inr}
use mathlib.Core.List.{List}
use Prim.Native.Nat.{ℕ, ◌+◌, ◌≤◌, ◌<◌}
use native.Mathlib.Decide.{ℕ_discrete}
use lib.ListN.{length, get_or, set, length-set}
use lib.Seq.{get_or-set_same, get_or-set_other}
use Rattle.wire.proofs.Bool.{clash}
use Rattle.transducer.specs.Format.{Transducer}
use Rattle.transducer.specs.Path.{arc}
use Rattle.reach.specs.Counted.{count}
use Rattle.reach.specs.Marks.{number, Spread, from_end, to_end, Passes, Widened, Closure}
use Rattle.reach.proofs.Counted.{count_most, count_rises, count_one_more}

pub number_most : (ms : List Bool) → number ms ≤ length ms
unfolding number
number_most ms = count_most (length ms) (λ s. get_or ms s false)

pub number_set : (ms : List Bool) (i : ℕ) → i < length ms → get_or ms i false ≡ false → number (set ms i true) ≡ number ms + 1
unfolding number
number_set ms i h e =
    rw (length-set ms i true)
    (count_one_more (length ms) i (λ s. get_or ms s false) (λ s. get_or (set ms i true) s false) h e (get_or-set_same ms i true false h)
    (λ j n. get_or-set_other ms i j true false n))

-- The marked states below a bound are no more than all.
pub number_below : (ms : List Bool) (s : ℕ) → s ≤ length ms → count s (λ r. get_or ms r false) ≤ number ms
unfolding number
number_below ms s h = count_rises (λ r. get_or ms r false) s (length ms) h

-- One mark more

pub set_kept : (ms : List Bool) (to s : ℕ) → to < length ms → get_or ms s false ≡ true → get_or (set ms to true) s false ≡ true
set_kept ms to s below h = on (ℕ_discrete s to)
  where
    on : Dec (s ≡ to) → get_or (set ms to true) s false ≡ true
    on (yes e) = rw e (get_or-set_same ms to true false below)
    on (no n) = get_or-set_other ms to s true false n ∙ h

pub spread_none : (ms : List Bool) (from to : ℕ) → get_or ms from false ≡ false → Spread ms from to ms
spread_none ms from to e =
    record { long = refl; grows = λ s h. h; covers = λ h. clash h e; from_old = λ s h. inl h }

pub spread_set : (ms : List Bool) (from to : ℕ) → to < length ms → get_or ms from false ≡ true → Spread ms from to (set ms to true)
spread_set ms from to below here =
    record {
      long = length-set ms to true;
      grows = λ s h. set_kept ms to s below h;
      covers = λ _. get_or-set_same ms to true false below;
      from_old = λ s h. old s h (ℕ_discrete s to);
    }
  where
    old : (s : ℕ) → get_or (set ms to true) s false ≡ true → Dec (s ≡ to) → (get_or ms s false ≡ true) ⊎ ((s ≡ to) × (get_or ms from false ≡ true))
    old s h (yes e) = inr (e, here)
    old s h (no n) = inl (sym (get_or-set_other ms to s true false n) ∙ h)

-- More marks by arcs

pub widened_none : (t : Transducer) (back : Bool) (ms : List Bool) → Widened t back ms ms
widened_none t back ms = record { long = refl; grows = λ s h. h; sound = λ p pass old s h. old s h }

pub widened_twice : {t : Transducer} {back : Bool} {ms mid last : List Bool} → Widened t back ms mid → Widened t back mid last → Widened t back ms last
widened_twice v w =
    record {
      long = w.long ∙ v.long;
      grows = λ s h. w.grows s (v.grows s h);
      sound = λ p pass old. w.sound p pass (v.sound p pass old);
    }

-- Marks that settle after more were set settle the first ones.
pub closure_after : {t : Transducer} {back : Bool} {ms mid last : List Bool} → Widened t back ms mid → Closure t back mid last → Closure t back ms last
closure_after v c = record { wider = widened_twice v c.wider; closed = c.closed }

pub widened_one : {t : Transducer} {back : Bool} {ms ms' : List Bool} (i : ℕ) → i < length t.arcs
    → Spread ms (from_end back (arc t i)) (to_end back (arc t i)) ms' → Widened t back ms ms'
widened_one {t} {back} {ms} {ms'} i below sp =
    record { long = sp.long; grows = sp.grows; sound = λ p pass old s h. on p pass old s (sp.from_old s h) }
  where
    on : (p : ℕ → Bool) → Passes t back p → ((s : ℕ) → get_or ms s false ≡ true → p s ≡ true) → (s : ℕ)
        → (get_or ms s false ≡ true) ⊎ ((s ≡ to_end back (arc t i)) × (get_or ms (from_end back (arc t i)) false ≡ true)) → p s ≡ true
    on p pass old s (inl e) = old s e
    on p pass old s (inr b) = rw b.0 (pass i below (old (from_end back (arc t i)) b.1))
