-- Marks that have settled: they hold only of what paths reach, with the first states among them and closed under arcs, so they are all
-- that paths reach. Assumes nothing.
use mathlib.Core.Path.{◌≡◌, refl, sym, ◌∙◌}
use mathlib.Core.Bool.{Bool, true, false}
use mathlib.Core.Logic.{◌⊎◌, inl, inr}
use mathlib.Core.List.{List, ◌∷◌}
use Prim.Native.Nat.{ℕ, zero, suc, ◌<◌}
use native.Mathlib.Decide.{ℕ_discrete}
use lib.ListN.{length, get_or, set, replicate, length-set, length-replicate}
use lib.Seq.{get_or-set_same, get_or-set_other}
use borrow.Author.Tests.{eqb-true}
use Rattle.wire.proofs.Bool.{clash, same_truth}
use Rattle.transducer.specs.Format.{max_states, Transducer}
use Rattle.transducer.specs.Path.{arc, is_final}
use Rattle.transducer.proofs.Runs.{cons_accepting, Within}
use Rattle.reach.specs.Reach.{accessible, coaccessible}
use Rattle.reach.specs.Marks.{Passes, Closure, Marked}
use Rattle.reach.proofs.Reach.{CameBy, came, accessible_start, accessible_path, path_snoc, path_accessible}
use Rattle.reach.proofs.Reach.{GoesBy, goes, coaccessible_final, coaccessible_path, path_coaccessible}

pub get_or_none : (n s : ℕ) → get_or (replicate n false) s false ≡ false
get_or_none zero s = refl
get_or_none (suc n) zero = refl
get_or_none (suc n) (suc s) = get_or_none n s

-- From the start

pub accessible_passes : (t : Transducer) → Within t → Passes t false (accessible t.states t)
accessible_passes t w i h e =
    let r = accessible_path t.states t (arc t i).source e in
    let q = path_snoc t (arc t i).target i h refl r.0 in
    path_accessible t w (arc t i).target q.0

pub record Begun (t : Transducer) (ms : List Bool) : Type 0 where
  pub long : length ms ≡ max_states
  pub starts : get_or ms t.start false ≡ true
  pub sound : (s : ℕ) → get_or ms s false ≡ true → accessible t.states t s ≡ true

pub accessible_begun : (t : Transducer) (start : ℕ) → start ≡ t.start → start < max_states → Begun t (set (replicate max_states false) start true)
accessible_begun t start is below =
    let room : start < length (replicate max_states false) = rw (length-replicate {A = Bool} max_states false) below in
    record {
      long = length-set (replicate max_states false) start true ∙ length-replicate {A = Bool} max_states false;
      starts = rw (← is) (get_or-set_same (replicate max_states false) start true false room);
      sound = λ s h. on s h (ℕ_discrete s start);
    }
  where
    on : (s : ℕ) → get_or (set (replicate max_states false) start true) s false ≡ true → Dec (s ≡ start) → accessible t.states t s ≡ true
    on s h (yes e) = rw (e, is) (accessible_start t.states t)
    on s h (no n) =
        clash h (get_or-set_other (replicate max_states false) start s true false n ∙ get_or_none max_states s)

pub accessible_closure : {t : Transducer} {ms ms' : List Bool} → Within t → Begun t ms → Closure t false ms ms' → Marked (accessible t.states t) ms'
unfolding accessible
accessible_closure {t} {ms} {ms'} w c z =
    record {
      long = z.wider.long ∙ c.long;
      at_state = λ s.
          same_truth (get_or ms' s false) (accessible t.states t s) (z.wider.sound (accessible t.states t) (accessible_passes t w) c.sound s)
          (complete t.states s);
    }
  where
    starts : get_or ms' t.start false ≡ true
    starts = z.wider.grows t.start c.starts

    complete : (k s : ℕ) → accessible k t s ≡ true → get_or ms' s false ≡ true
    complete zero s h = rw (eqb-true s t.start h) starts
    complete (suc k) s h = on (λ s' h'. complete k s' h') (came k t s h)
      where
        on : ((s' : ℕ) → accessible k t s' ≡ true → get_or ms' s' false ≡ true) → (s ≡ t.start) ⊎ CameBy k t s → get_or ms' s false ≡ true
        on more (inl e) = rw e starts
        on more (inr b) =
            let n : get_or ms' (arc t b.number).target false ≡ true = z.closed b.number b.below (more (arc t b.number).source b.from) in
            rw b.arrives at n

-- From the finals

coaccessible_passes : (t : Transducer) → Within t → Passes t true (coaccessible t.states t)
coaccessible_passes t w i h e =
    let r = coaccessible_path t.states t (arc t i).target e in
    path_coaccessible t w (arc t i).source (i ∷ r.0) (cons_accepting t (arc t i).source i r.0 (record { below = h; leaves = refl; rest = r.1 }))

pub coaccessible_closure : {t : Transducer} {ms ms' : List Bool} → Within t → Marked (is_final t.finals) ms → Closure t true ms ms'
    → Marked (coaccessible t.states t) ms'
unfolding coaccessible
coaccessible_closure {t} {ms} {ms'} w m z =
    record {
      long = z.wider.long ∙ m.long;
      at_state = λ s.
          same_truth (get_or ms' s false) (coaccessible t.states t s) (z.wider.sound (coaccessible t.states t) (coaccessible_passes t w) sound s)
          (complete t.states s);
    }
  where
    sound : (s : ℕ) → get_or ms s false ≡ true → coaccessible t.states t s ≡ true
    sound s h = coaccessible_final t.states t s (sym (m.at_state s) ∙ h)

    finals : (s : ℕ) → is_final t.finals s ≡ true → get_or ms' s false ≡ true
    finals s h = z.wider.grows s (m.at_state s ∙ h)

    complete : (k s : ℕ) → coaccessible k t s ≡ true → get_or ms' s false ≡ true
    complete zero s h = finals s h
    complete (suc k) s h = on (λ s' h'. complete k s' h') (goes k t s h)
      where
        on : ((s' : ℕ) → coaccessible k t s' ≡ true → get_or ms' s' false ≡ true) → (is_final t.finals s ≡ true) ⊎ GoesBy k t s → get_or ms' s false ≡ true
        on more (inl e) = finals s e
        on more (inr b) =
            let n : get_or ms' (arc t b.number).source false ≡ true = z.closed b.number b.below (more (arc t b.number).target b.for) in
            rw b.leaves at n
