-- The new numbers, as a loop makes them, and what they say of a state's use. Assumes nothing.
use mathlib.Core.Path.{◌≡◌, refl, sym, ap, ap₂, ◌∙◌}
use mathlib.Core.Bool.{Bool, true, false, ◌&&◌, cond}
use mathlib.Core.List.{List}
use Prim.Native.Nat.{ℕ, zero, suc, ◌+◌, ◌≤◌, ◌<◌}
use native.Mathlib.Numerals.{add-one}
use native.Mathlib.Decide.{ℕ_discrete}
use native.Mathlib.Omega.{arith}
use lib.ListN.{length, get_or, set, replicate, length-set, length-replicate, get_or-replicate}
use lib.Seq.{get_or-set_same, get_or-set_other}
use Rattle.std.specs.Int.{from_bool}
use Rattle.wire.proofs.Bool.{is_true, is_false}
use Rattle.transducer.specs.declared.Arc.{Arc}
use Rattle.transducer.specs.declared.Final.{Final}
use Rattle.transducer.specs.Format.{Transducer, max_states}
use Rattle.trim.specs.Trim.{useful, renumbered, moved}
use Rattle.trim.specs.Parts.{Renumbered}
use Rattle.reach.specs.Counted.{count}
use Rattle.reach.proofs.Counted.{count_most}
use Rattle.trim.proofs.Kept.{renumbered_count}
use Rattle.trim.proofs.TrimmedGood.{moved_final}

-- A property is that of two marks.
unfoldable pub has_both : (one other : List Bool) → ℕ → Bool
has_both a b s = get_or a s false && get_or b s false

-- Up to `s` the numbers are as they shall be, and `next` is the last.
pub record Running (f : ℕ → Bool) (s next : ℕ) (index : List ℕ) : Type 0 where
  pub long : length index ≡ max_states + 1
  pub next_is : next ≡ count s f
  pub so_far : (r : ℕ) → r ≤ s → get_or index r 0 ≡ count r f

pub running_first : (f : ℕ → Bool) → Running f 0 0 (replicate (max_states + 1) 0)
unfolding count
running_first f =
    record {
      long = length-replicate {A = ℕ} (max_states + 1) 0;
      next_is = refl;
      so_far = λ r h. let e : r ≡ 0 = omega arith in rw e (get_or-replicate {A = ℕ} (max_states + 1) 0 0 0 (omega arith));
    }

pub running_few : {f : ℕ → Bool} {s next : ℕ} {index : List ℕ} → Running f s next index → next ≤ s
running_few {f} {s} r = omega (arith, r.next_is, count_most s f)

-- A truth as a number is 1 or 0.
pub from_bool_is : (b : Bool) → from_bool b ≡ cond b 1 0
from_bool_is true = refl
from_bool_is false = refl

pub one_more : (f : ℕ → Bool) (s step : ℕ) → step ≡ cond (f s) 1 0 → step ≤ 1
one_more f s step e = on (f s) e
  where
    on : (b : Bool) → step ≡ cond b 1 0 → step ≤ 1
    on true e = omega arith
    on false e = omega arith

pub running_next : {f : ℕ → Bool} {s next : ℕ} {index : List ℕ} (step : ℕ) → s < max_states → step ≡ cond (f s) 1 0 → Running f s next index
    → Running f (s + 1) (next + step) (set index (s + 1) (next + step))
unfolding count
running_next {f} {s} {next} {index} step h e m =
    record { long = length-set index (s + 1) (next + step) ∙ m.long; next_is = top; so_far = λ r l. on r l (ℕ_discrete r (s + 1)) }
  where
    top : next + step ≡ count (s + 1) f
    top = ap₂ ◌+◌ m.next_is e ∙ ap (λ (k : ℕ). count k f) (sym (add-one s))

    on : (r : ℕ) → r ≤ s + 1 → Dec (r ≡ s + 1) → get_or (set index (s + 1) (next + step)) r 0 ≡ count r f
    on r l (yes q) = rw q (get_or-set_same index (s + 1) (next + step) 0 (omega (arith, m.long)) ∙ top)
    on r l (no n) = get_or-set_other index (s + 1) r (next + step) 0 n ∙ m.so_far r (omega arith)

count_same_property : (f g : ℕ → Bool) (most : ℕ) → ((s : ℕ) → s < most → f s ≡ g s) → (n : ℕ) → n ≤ most → count n f ≡ count n g
unfolding count
count_same_property f g most e zero l = refl
count_same_property f g most e (suc n) l = ap₂ ◌+◌ (count_same_property f g most e n (omega arith)) (ap (λ (b : Bool). cond b 1 0) (e n l))

pub running_stop : {f : ℕ → Bool} {s next : ℕ} {index : List ℕ} (t : Transducer) → t.states ≤ s
    → ((s : ℕ) → s < t.states → f s ≡ useful t s) → Running f s next index
    → Renumbered t index
running_stop {f} t h e m =
    record {
      long = m.long;
      at_state = λ r l. m.so_far r (omega arith) ∙ count_same_property f (useful t) t.states e r l ∙ sym (renumbered_count t r);
    }

-- A state is useful where the number behind its own is another.

renumbered_step : (t : Transducer) (s : ℕ) → renumbered t (s + 1) ≡ renumbered t s + cond (useful t s) 1 0
unfolding renumbered
renumbered_step t s = ap (renumbered t) (add-one s)

module _ {t : Transducer} {index : List ℕ} (r : Renumbered t index) (s : ℕ) (below : s < t.states) where
  index_step : get_or index (s + 1) 0 ≡ get_or index s 0 + cond (useful t s) 1 0
  index_step = r.at_state (s + 1) (omega arith) ∙ renumbered_step t s ∙ ap (λ (k : ℕ). k + cond (useful t s) 1 0) (sym (r.at_state s (omega arith)))

  pub index_no : get_or index s 0 ≡ get_or index (s + 1) 0 → useful t s ≡ false
  index_no h = is_false (useful t s) (λ e. let q : get_or index (s + 1) 0 ≡ get_or index s 0 + 1 = index_step ∙ rw e in omega arith)

  pub index_yes : (get_or index s 0 ≡ get_or index (s + 1) 0 → ⊥) → useful t s ≡ true
  index_yes h = is_true (useful t s) (λ e. let q : get_or index (s + 1) 0 ≡ get_or index s 0 + 0 = index_step ∙ rw e in h (omega arith))

-- A final and an arc with the new numbers.

pub index_final : {t : Transducer} {index : List ℕ} → Renumbered t index → (f : Final) → f.state < t.states
    → record { state = get_or index f.state 0; weight = f.weight } ≡ moved_final t f
unfolding moved_final
index_final {t} r f h = ap (λ (s : ℕ). record { state = s; weight = f.weight }) (r.at_state f.state (omega arith))

pub index_arc : {t : Transducer} {index : List ℕ} → Renumbered t index → (a : Arc) → a.source < t.states → a.target < t.states
    → record { source = get_or index a.source 0; input = a.input; output = a.output; target = get_or index a.target 0; weight = a.weight } ≡ moved t a
unfolding moved
index_arc {t} r a h k = rw (r.at_state a.source (omega arith), r.at_state a.target (omega arith))
