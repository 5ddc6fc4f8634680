-- Trimming keeps exactly the states and arcs that lie on an accepting path, in their order. Assumes nothing.
use mathlib.Core.Path.{◌≡◌, refl, ◌∙◌}
use mathlib.Core.Bool.{Bool, true, false}
use mathlib.Core.List.{List, [], ◌∷◌, ◌++◌}
use Prim.Native.Nat.{ℕ, ◌<◌}
use native.Mathlib.Nat.{not-suc-le-zero, zero-add}
use lib.ListN.{length, get_or}
use Rattle.wire.proofs.Bool.{is_false}
use Rattle.transducer.specs.Format.{Transducer}
use Rattle.transducer.specs.Path.{arc, accepts, is_final, final_weight}
use Rattle.transducer.proofs.Runs.{Within, ends_below}
use Rattle.trim.specs.Trim.{useful, arc_useful, renumbered, moved, kept_numbers, trimmed, origins_kept}
use Rattle.reach.proofs.Counted.{CountedAt, count_onto}
use Rattle.trim.proofs.Useful.{OnPath, useful_on_path, on_path_useful, on_path_accepts, ArcOnPath, arc_useful_on_path, arc_on_path_useful, start_useful}
use Rattle.trim.proofs.Passing.{length_passing, PassedTo, passed_to, passing_rise}
use Rattle.trim.proofs.Kept.{renumbered_count, renumbered_before, kept_is_final, kept_final_weight}
use Rattle.trim.proofs.Trimmed.{kept, lone, trimmed_kept, trimmed_lone, origins_some, origins_none, KeptArc, kept_arc}

-- Arcs

pub length_origins : (t : Transducer) → length (origins_kept t) ≡ length (trimmed t).arcs
unfolding kept lone
length_origins t = on (useful t t.start) refl
  where
    on : (b : Bool) → useful t t.start ≡ b → length (origins_kept t) ≡ length (trimmed t).arcs
    on true u = rw (trimmed_kept t u, origins_some t u) (length_passing (arc_useful t) (moved t) 0 t.arcs)
    on false u = rw (trimmed_lone t u, origins_none t u)

pub origins_rise : (t : Transducer) (j j' : ℕ) → j < j' → j' < length (origins_kept t) → get_or (origins_kept t) j 0 < get_or (origins_kept t) j' 0
origins_rise t j j' h h' = on (useful t t.start) refl
  where
    on : (b : Bool) → useful t t.start ≡ b → get_or (origins_kept t) j 0 < get_or (origins_kept t) j' 0
    on true u = rw (origins_some t u) (passing_rise (arc_useful t) 0 t.arcs j j' h (rw (origins_some t u) at h'))
    on false u = absurd (not-suc-le-zero (rw (origins_none t u) at h'))

-- An arc of the trimmed transducer, and the arc on an accepting path that it comes from.
pub record Origin (t z : Transducer) (j i : ℕ) : Type 0 where
  pub below : i < length t.arcs
  pub on_path : ArcOnPath t i
  pub arc_is : arc z j ≡ moved t (arc t i)

pub trimmed_arc : (t : Transducer) (j : ℕ) → j < length (trimmed t).arcs → Origin t (trimmed t) j (get_or (origins_kept t) j 0)
unfolding kept lone
trimmed_arc t j h = on (useful t t.start) refl
  where
    on : (b : Bool) → useful t t.start ≡ b → Origin t (trimmed t) j (get_or (origins_kept t) j 0)
    on true u =
        let h' : j < length (kept t).arcs = rw (trimmed_kept t u) at h in
        let i : ℕ = get_or (kept_numbers t 0 t.arcs) j 0 in
        let k : KeptArc t j i = kept_arc t j h' in
        rw (trimmed_kept t u, origins_some t u)
        (record { below = k.below; on_path = arc_useful_on_path t i k.below k.used; arc_is = k.arc_is })
    on false u = absurd (not-suc-le-zero (rw (trimmed_lone t u) at h))

pub record KeptAs (z : Transducer) (os : List ℕ) (i : ℕ) : Type 0 where
  pub number : ℕ
  pub below : number < length z.arcs
  pub origin : get_or os number 0 ≡ i

pub on_path_kept : (t : Transducer) → Within t → (i : ℕ) → ArcOnPath t i → KeptAs (trimmed t) (origins_kept t) i
unfolding kept arc
on_path_kept t w i r =
    let u : useful t t.start ≡ true = start_useful t w (r.before ++ i ∷ r.after) r.accepting in
    let a : (i < length t.arcs) × (arc_useful t (arc t i) ≡ true) = arc_on_path_useful t w i r in
    let k : PassedTo (arc_useful t) (moved t) 0 t.arcs i = passed_to (arc_useful t) (moved t) 0 t.arcs i a.0 a.1 in
    rw (trimmed_kept t u, origins_some t u) (record { number = k.place; below = k.below; origin = k.number ∙ zero-add i })

-- States

pub on_path_below : (t : Transducer) → Within t → (s : ℕ) → OnPath t s → s < t.states
on_path_below t w s r = rw r.here at (ends_below t w t.start r.before w.starts r.comes)

pub state_kept : (t : Transducer) → Within t → (s : ℕ) → OnPath t s → renumbered t s < (trimmed t).states
unfolding kept
state_kept t w s r =
    let u : useful t t.start ≡ true = start_useful t w (r.before ++ r.after) (on_path_accepts t s r) in
    rw (trimmed_kept t u) (renumbered_before t s t.states (on_path_below t w s r) (on_path_useful t w s r))

-- The state on an accepting path that a state of the trimmed transducer comes from.
pub record KeptState (t : Transducer) (k : ℕ) : Type 0 where
  pub state : ℕ
  pub below : state < t.states
  pub on_path : OnPath t state
  pub number : renumbered t state ≡ k

pub kept_state : (t : Transducer) → Within t → (p : List ℕ) → accepts t p ≡ true → (k : ℕ) → k < (trimmed t).states → KeptState t k
unfolding kept
kept_state t w p a k h =
    let u : useful t t.start ≡ true = start_useful t w p a in
    let h' : k < renumbered t t.states = rw (trimmed_kept t u) at h in
    let c : CountedAt (useful t) t.states k = count_onto (useful t) t.states k (rw renumbered_count at h') in
    record { state = c.place; below = c.below; on_path = useful_on_path t c.place c.has; number = renumbered_count t c.place ∙ c.before }

-- Final states and their weights stay.
pub trimmed_final : (t : Transducer) → Within t → (s : ℕ) → OnPath t s
    → (is_final (trimmed t).finals (renumbered t s) ≡ is_final t.finals s)
    × (final_weight (trimmed t).finals (renumbered t s) ≡ final_weight t.finals s)
unfolding kept
trimmed_final t w s r =
    let u : useful t t.start ≡ true = start_useful t w (r.before ++ r.after) (on_path_accepts t s r) in
    let v : useful t s ≡ true = on_path_useful t w s r in
    rw (trimmed_kept t u) (kept_is_final t t.finals s v, kept_final_weight t t.finals s v)

-- Where nothing accepts, the start alone remains

pub nothing_useful : (t : Transducer) → ((p : List ℕ) → accepts t p ≡ true → ⊥) → (s : ℕ) → useful t s ≡ false
nothing_useful t none s =
    is_false (useful t s) (λ u. let r : OnPath t s = useful_on_path t s u in none (r.before ++ r.after) (on_path_accepts t s r))

pub trimmed_nothing : (t : Transducer) → ((p : List ℕ) → accepts t p ≡ true → ⊥) → trimmed t ≡ lone
trimmed_nothing t none = trimmed_lone t (nothing_useful t none t.start)

pub origins_nothing : (t : Transducer) → ((p : List ℕ) → accepts t p ≡ true → ⊥) → origins_kept t ≡ []
origins_nothing t none = origins_none t (nothing_useful t none t.start)
