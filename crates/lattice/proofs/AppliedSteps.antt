-- The steps of a lattice state, one by one: each is made of an arc that reads nothing, or of one that fits the symbol at the position.
-- Assumes nothing.
use mathlib.Core.Path.{◌≡◌, refl, sym, ap, ◌∙◌}
use mathlib.Core.Bool.{Bool, true, false, ◌&&◌, cond}
use mathlib.Core.List.{List, [], ◌∷◌}
use mathlib.Core.List.Memᴰ.{eq_of_singleton as only}
use mathlib.Core.List.Memᴰ.{head as first}
use mathlib.Core.List.{Memᴰ as Mem}
use Prim.Native.Nat.{ℕ, ◌+◌, ◌<◌}
use native.Mathlib.Omega.{arith}
use lib.Dec.{ltb, leb, eqb}
use lib.ListN.{length, get_or}
use borrow.Author.Tests.{eqb-true, eqb-false, eq-eqb, ne_eqb, ltb-true, lt-ltb, leb-true}
use Rattle.wire.specs.Bytes.{every}
use Rattle.wire.proofs.Bool.{and-true}
use Rattle.wire.proofs.Places.{every_get_or}
use Rattle.transducer.specs.declared.Arc.{Arc}
use Rattle.transducer.specs.Format.{Transducer, barred, any, max_symbols, all_labels_good}
use Rattle.transducer.specs.Path.{arc}
use Rattle.transducer.specs.Each.{fits, passed}
use Rattle.transducer.proofs.Members.{in_cond, Distinct, distinct_one, distinct_cond}
use Rattle.transducer.proofs.Each.{FromArc, in_each_arc, each_arc_has, each_arc_distinct}
use Rattle.transducer.proofs.Fits.{passed_below}
use Rattle.transducer.proofs.Labels.{Unbarred, arc_short}
use Rattle.explore.specs.Explore.{Step}
use Rattle.lattice.specs.declared.State.{State}
use Rattle.lattice.specs.Apply.{string_good, step, arc_steps, steps}

-- The step by an arc that reads nothing, and by one that fits the symbol at the position.
unfoldable pub empty_step : State → (i : ℕ) → Arc → Step State ℕ
empty_step x i a = step x.position 0 (passed 0 a) i a

unfoldable pub symbol_step : List ℕ → State → (i : ℕ) → Arc → Step State ℕ
symbol_step cs x i a = step (x.position + 1) (get_or cs x.position 0) (passed (get_or cs x.position 0) a) i a

-- What comes of one arc.
pub data OfArc (cs : List ℕ) (t : Transducer) (x : State) (i : ℕ) (a : Arc) (s : Step State ℕ) : Type 0 where
  of_empty : a.input ≡ 0 → s ≡ empty_step x i a → OfArc cs t x i a s
  of_symbol : (a.input ≡ 0 → ⊥) → x.position < length cs → fits t (get_or cs x.position 0) a ≡ true → s ≡ symbol_step cs x i a → OfArc cs t x i a s

pub in_arc_steps : (cs : List ℕ) (t : Transducer) (x : State) (i : ℕ) (a : Arc) (s : Step State ℕ) → Mem s (arc_steps cs t x i a) → OfArc cs t x i a s
unfolding arc_steps empty_step symbol_step
in_arc_steps cs t x i a s m = on (eqb a.input 0) refl m
  where
    symbol : ℕ
    symbol = get_or cs x.position 0

    here : Bool
    here = ltb x.position (length cs) && fits t symbol a

    made : List (Step State ℕ)
    made = step (x.position + 1) symbol (passed symbol a) i a ∷ []

    on : (b : Bool) → eqb a.input 0 ≡ b → Mem s (cond b (step x.position 0 (passed 0 a) i a ∷ []) (cond here made [])) → OfArc cs t x i a s
    on true e m' = of_empty (eqb-true a.input 0 e) (only m')
    on false e m' =
        let p : (here ≡ true) × Mem s made = in_cond s here made m' in
        let q : (ltb x.position (length cs) ≡ true) × (fits t symbol a ≡ true) = and-true (ltb x.position (length cs)) (fits t symbol a) p.0 in
        of_symbol (eqb-false a.input 0 e) (ltb-true x.position (length cs) q.0) q.1 (only p.1)

pub arc_steps_has : (cs : List ℕ) (t : Transducer) (x : State) (i : ℕ) (a : Arc) (s : Step State ℕ) → OfArc cs t x i a s → Mem s (arc_steps cs t x i a)
unfolding arc_steps empty_step symbol_step
arc_steps_has cs t x i a s (of_empty e made) = rw (eq-eqb a.input 0 e) (first made)
arc_steps_has cs t x i a s (of_symbol h within fit made) =
    rw (ne_eqb a.input 0 h, lt-ltb x.position (length cs) within, fit) (first made)

-- A step of a lattice state, and the arc that it is made of.
pub record ArcStep (cs : List ℕ) (t : Transducer) (x : State) (s : Step State ℕ) : Type 0 where
  pub number : ℕ
  pub below : number < length t.arcs
  pub leaves : (arc t number).source ≡ x.state
  pub made : OfArc cs t x number (arc t number) s

pub step_move : (cs : List ℕ) (t : Transducer) (x : State) (s : Step State ℕ) → Mem s (steps cs t x) → ArcStep cs t x s
unfolding steps
step_move cs t x s m =
    let r : FromArc t x.state (arc_steps cs t x) s = in_each_arc t x.state (arc_steps cs t x) s m in
    record { number = r.number; below = r.below; leaves = r.leaves; made = in_arc_steps cs t x r.number (arc t r.number) s r.given }

pub move_step : (cs : List ℕ) (t : Transducer) (x : State) (s : Step State ℕ) → ArcStep cs t x s → Mem s (steps cs t x)
unfolding steps
move_step cs t x s m =
    each_arc_has t x.state (arc_steps cs t x) s m.number m.below m.leaves
    (arc_steps_has cs t x m.number (arc t m.number) s m.made)

pub made_origin : (cs : List ℕ) (t : Transducer) (x : State) (i : ℕ) (a : Arc) (s : Step State ℕ) → OfArc cs t x i a s → s.origin ≡ i
unfolding empty_step symbol_step step
made_origin cs t x i a s (of_empty e made) = ap (λ (s : Step State ℕ). s.origin) made
made_origin cs t x i a s (of_symbol h within reads made) = ap (λ (s : Step State ℕ). s.origin) made

-- No arc makes two steps.
pub made_same : (cs : List ℕ) (t : Transducer) (x : State) (i : ℕ) (a : Arc) (s s' : Step State ℕ) → OfArc cs t x i a s → OfArc cs t x i a s' → s ≡ s'
made_same cs t x i a s s' (of_empty e made) (of_empty e' made') = made ∙ sym made'
made_same cs t x i a s s' (of_empty e made) (of_symbol h' w' r' made') = absurd (h' e)
made_same cs t x i a s s' (of_symbol h w r made) (of_empty e' made') = absurd (h e')
made_same cs t x i a s s' (of_symbol h w r made) (of_symbol h' w' r' made') = made ∙ sym made'

pub same_origin : (cs : List ℕ) (t : Transducer) (x : State) (s s' : Step State ℕ) → Mem s (steps cs t x) → Mem s' (steps cs t x) → s.origin ≡ s'.origin
    → s ≡ s'
same_origin cs t x s s' m m' e =
    let r : ArcStep cs t x s = step_move cs t x s m in
    let r' : ArcStep cs t x s' = step_move cs t x s' m' in
    let o : s.origin ≡ r.number = made_origin cs t x r.number (arc t r.number) s r.made in
    let o' : s'.origin ≡ r'.number = made_origin cs t x r'.number (arc t r'.number) s' r'.made in
    let same : r'.number ≡ r.number = sym o' ∙ sym e ∙ o in
    made_same cs t x r.number (arc t r.number) s s' r.made (rw same at r'.made)

arc_steps_distinct : (cs : List ℕ) (t : Transducer) (x : State) (i : ℕ) (a : Arc) → Distinct (λ (s : Step State ℕ). s.origin) (arc_steps cs t x i a)
unfolding arc_steps
arc_steps_distinct cs t x i a = on (eqb a.input 0)
  where
    symbol : ℕ
    symbol = get_or cs x.position 0

    made : Step State ℕ
    made = step (x.position + 1) symbol (passed symbol a) i a

    here : Bool
    here = ltb x.position (length cs) && fits t symbol a

    on : (b : Bool) → Distinct (λ (s : Step State ℕ). s.origin) (cond b (step x.position 0 (passed 0 a) i a ∷ []) (cond here (made ∷ []) []))
    on true = distinct_one (λ (s : Step State ℕ). s.origin) (step x.position 0 (passed 0 a) i a)
    on false =
        distinct_cond (λ (s : Step State ℕ). s.origin) here (made ∷ []) (distinct_one (λ (s : Step State ℕ). s.origin) made)

-- No two places of the steps have the same arc.
pub steps_distinct : (cs : List ℕ) (t : Transducer) (x : State) → Distinct (λ (s : Step State ℕ). s.origin) (steps cs t x)
unfolding steps
steps_distinct cs t x =
    each_arc_distinct (λ (s : Step State ℕ). s.origin) (λ (n : ℕ). n) t x.state (arc_steps cs t x)
    (λ i a s m. made_origin cs t x i a s (in_arc_steps cs t x i a s m)) (arc_steps_distinct cs t x)

-- Labels: no step bears 65,535.

pub string_symbol : (cs : List ℕ) (k : ℕ) → string_good cs ≡ true → k < length cs → (0 < get_or cs k 0) × (get_or cs k 0 < barred)
unfolding string_good
string_symbol cs k good below =
    let c : ℕ = get_or cs k 0 in
    let p = and-true (leb (length cs) max_symbols) (every (λ c. leb 1 c && ltb c barred) cs) good in
    let q : leb 1 c && ltb c barred ≡ true = every_get_or (λ c. leb 1 c && ltb c barred) cs k 0 p.1 below in
    let r : (leb 1 c ≡ true) × (ltb c barred ≡ true) = and-true (leb 1 c) (ltb c barred) q in
    (leb-true 1 c r.0, ltb-true c barred r.1)

pub step_unbarred : (cs : List ℕ) (t : Transducer) (x : State) (s : Step State ℕ) → string_good cs ≡ true → all_labels_good t ≡ true → Mem s (steps cs t x)
    → Unbarred s.input s.output
unfolding empty_step symbol_step step
step_unbarred cs t x s string labels m = on r.made
  where
    r : ArcStep cs t x s
    r = step_move cs t x s m

    writes : (c : ℕ) → c < any → passed c (arc t r.number) < any
    writes c small = passed_below c (arc t r.number) small (arc_short t r.number labels r.below).written

    on : OfArc cs t x r.number (arc t r.number) s → Unbarred s.input s.output
    on (of_empty e made) = rw made (record { read = omega arith; written = writes 0 (omega arith) })
    on (of_symbol h within fit made) =
        let c = (string_symbol cs x.position string within).1 in
        rw made (record { read = c; written = writes (get_or cs x.position 0) c })
