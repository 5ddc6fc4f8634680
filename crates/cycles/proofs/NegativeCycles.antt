-- Refusal 19 as the relation in words: `negative_cycle` holds exactly where a cycle below zero lies on some accepting path, `negative_cycle_anywhere` exactly
-- where one
-- lies on some path from any state to a final one. Assumes nothing.
use mathlib.Core.Path.{◌≡◌, refl, sym, ap, ◌∙◌}
use mathlib.Core.Bool.{Bool, true, false, ◌&&◌, ◌||◌}
use mathlib.Core.Logic.{◌⊎◌, inl, inr, ◌↔◌}
use mathlib.Core.List.{List, [], ◌∷◌, ◌++◌}
use Prim.Native.Nat.{ℕ, zero, suc, ◌+◌, ◌≤◌, ◌<◌}
use native.Mathlib.Omega.{arith}
use native.Mathlib.Nat.{not-suc-le-zero, le_of_suc-le-suc}
use lib.Dec.{eqb, leb}
use lib.ListN.{length, get_or, length-append}
use borrow.Author.Tests.{eqb-true, eq-eqb, leb-true, leb-false}
use Rattle.wire.proofs.Bool.{never, is_false, and-true, true_and, or-true, or_left, or_right}
use Rattle.transducer.specs.declared.Arc.{Arc}
use Rattle.transducer.specs.Format.{Transducer}
use Rattle.transducer.specs.Path.{arc, no_arc, runs, ends, arcs_cost}
use Rattle.transducer.specs.Weight.{Weight, no_weight, plus, AtMost, Below, below}
use Rattle.transducer.proofs.Weights.{sums, either, sum as weight-sum, plus_assoc}
use Rattle.transducer.proofs.Paths.{Runs, runs_cons, cons_runs}
use Rattle.transducer.proofs.Runs.{Accepting, append_accepting, runs_append, ends_append, Within, ends_below}
use Rattle.transducer.proofs.Cycles.{Cycle, long_has_cycle}
use Rattle.reach.specs.Reach.{accessible, coaccessible}
use Rattle.reach.proofs.Counted.{last_or_below}
use Rattle.reach.specs.Marks.{Passes}
use Rattle.reach.proofs.Closure.{accessible_passes}
use Rattle.reach.proofs.Reach.{PathTo, accessible_start, accessible_path, coaccessible_path, path_coaccessible}
use Rattle.cycles.specs.Cycles.{NegativeCycleFrom, some_leaving, negative_run, negative_cycle_at, some_below}
use Rattle.cycles.specs.Cycles.{negative_cycle_among, negative_cycle, anywhere, negative_cycle_anywhere, SomeNegativeCycle, Leads, NegativeCycle}
use Rattle.cycles.proofs.Costs.{arcs_cost_append}
use Rattle.cycles.proofs.Cycles.{negative_cycle_rest, negative_cycle_behind}

-- Some arc that leaves a state, and some number below n.

record LeavingAt (l : List Arc) (s : ℕ) (f : Arc → Bool) : Type 0 where
  place : ℕ
  below : place < length l
  leaves : (get_or l place no_arc).source ≡ s
  for : f (get_or l place no_arc) ≡ true

leaving_at : (l : List Arc) (s : ℕ) (f : Arc → Bool) → some_leaving l s f ≡ true → LeavingAt l s f
unfolding some_leaving
leaving_at [] s f h = never h
leaving_at (a ∷ l) s f h = on (λ h'. leaving_at l s f h') (or-true (eqb a.source s && f a) (some_leaving l s f) h)
  where
    on : (some_leaving l s f ≡ true → LeavingAt l s f) → (eqb a.source s && f a ≡ true) ⊎ (some_leaving l s f ≡ true) → LeavingAt (a ∷ l) s f
    on more (inl e) =
        let p = and-true (eqb a.source s) (f a) e in
        record { place = 0; below = omega arith; leaves = eqb-true a.source s p.0; for = p.1 }
    on more (inr e) =
        let r : LeavingAt l s f = more e in
        let b : r.place < length l = r.below in
        record { place = suc r.place; below = omega arith; leaves = r.leaves; for = r.for }

at_leaving : (l : List Arc) (s : ℕ) (f : Arc → Bool) (i : ℕ) → i < length l → (get_or l i no_arc).source ≡ s → f (get_or l i no_arc) ≡ true
    → some_leaving l s f ≡ true
unfolding some_leaving
at_leaving [] s f i b e h = absurd (not-suc-le-zero b)
at_leaving (a ∷ l) s f zero b e h = or_left (eqb a.source s && f a) (some_leaving l s f) (true_and (eqb a.source s) (f a) (eq-eqb a.source s e) h)
at_leaving (a ∷ l) s f (suc i) b e h =
    or_right (eqb a.source s && f a) (some_leaving l s f) (at_leaving l s f i (le_of_suc-le-suc b) e h)

record FoundBelow (n : ℕ) (f : ℕ → Bool) : Type 0 where
  number : ℕ
  below : number < n
  for : f number ≡ true

some_below_has : (n : ℕ) (f : ℕ → Bool) → some_below n f ≡ true → FoundBelow n f
unfolding some_below
some_below_has zero f h = never h
some_below_has (suc n) f h = on (λ h'. some_below_has n f h') (or-true (f n) (some_below n f) h)
  where
    on : (some_below n f ≡ true → FoundBelow n f) → (f n ≡ true) ⊎ (some_below n f ≡ true) → FoundBelow (suc n) f
    on more (inl e) = record { number = n; below = omega arith; for = e }
    on more (inr e) =
        let r : FoundBelow n f = more e in
        let b : r.number < n = r.below in
        record { number = r.number; below = omega arith; for = r.for }

has_some_below : (n : ℕ) (f : ℕ → Bool) (s : ℕ) → s < n → f s ≡ true → some_below n f ≡ true
unfolding some_below
has_some_below zero f s b h = absurd (not-suc-le-zero b)
has_some_below (suc n) f s b h = on (λ l. has_some_below n f s l h) (last_or_below s n b)
  where
    on : (s < n → some_below n f ≡ true) → (s ≡ n) ⊎ (s < n) → f n || some_below n f ≡ true
    on more (inl e) = or_left (f n) (some_below n f) (rw e at h)
    on more (inr l) = or_right (f n) (some_below n f) (more l)

-- A path of at most so many arcs to a state that brings a cost below zero.
pub record FallsTo (most : ℕ) (t : Transducer) (s to : ℕ) (x : Weight) : Type 0 where
  pub path : List ℕ
  pub goes : runs t s path ≡ true
  pub there : ends t s path ≡ to
  pub few : length path ≤ most
  pub sum : Below (plus x (arcs_cost t path)) no_weight

nothing_more : (most : ℕ) (t : Transducer) (s to : ℕ) (x : Weight) → eqb s to && below x no_weight ≡ true → FallsTo most t s to x
unfolding runs ends arcs_cost
nothing_more most t s to x h =
    let p = and-true (eqb s to) (below x no_weight) h in
    record { path = []; goes = refl; there = eqb-true s to p.0; few = omega arith; sum = omega (arith, sums, p.1) }

pub negative_run_path : (most : ℕ) (t : Transducer) (s to : ℕ) (x : Weight) → negative_run most t s to x ≡ true → FallsTo most t s to x
unfolding negative_run arc ends arcs_cost
negative_run_path zero t s to x h = nothing_more 0 t s to x h
negative_run_path (suc most) t s to x h = on (λ u y. negative_run_path most t u to y) (or-true (eqb s to && below x no_weight) (some_leaving t.arcs s f) h)
  where
    f : Arc → Bool
    f a = negative_run most t a.target to (plus x a.weight)

    by : ((u : ℕ) (y : Weight) → negative_run most t u to y ≡ true → FallsTo most t u to y) → LeavingAt t.arcs s f → FallsTo (suc most) t s to x
    by more r =
        let i : ℕ = r.place in
        let a : Arc = arc t i in
        let g : FallsTo most t a.target to (plus x a.weight) = more a.target (plus x a.weight) r.for in
        let few : length g.path ≤ most = g.few in
        record {
          path = i ∷ g.path;
          goes = cons_runs t s i g.path (record { below = r.below; leaves = r.leaves; rest = g.goes });
          there = g.there;
          few = omega arith;
          sum = rw (sym (plus_assoc x a.weight (arcs_cost t g.path))) g.sum;
        }

    on : ((u : ℕ) (y : Weight) → negative_run most t u to y ≡ true → FallsTo most t u to y)
        → (eqb s to && below x no_weight ≡ true) ⊎ (some_leaving t.arcs s f ≡ true) → FallsTo (suc most) t s to x
    on more (inl e) = nothing_more (suc most) t s to x e
    on more (inr e) = by more (leaving_at t.arcs s f e)

pub path_falls_to : (most : ℕ) (t : Transducer) (s to : ℕ) (x : Weight) (p : List ℕ) → runs t s p ≡ true → ends t s p ≡ to → length p ≤ most
    → Below (plus x (arcs_cost t p)) no_weight → negative_run most t s to x ≡ true
unfolding negative_run arc ends arcs_cost
path_falls_to most t s to x [] h e l b = on most
  where
    here : eqb s to && below x no_weight ≡ true
    here = true_and (eqb s to) (below x no_weight) (eq-eqb s to e) (omega (arith, sums))

    on : (most : ℕ) → negative_run most t s to x ≡ true
    on zero = here
    on (suc most) = or_left (eqb s to && below x no_weight) (some_leaving t.arcs s (λ a. negative_run most t a.target to (plus x a.weight))) here
path_falls_to zero t s to x (i ∷ p) h e l b = absurd (omega arith)
path_falls_to (suc most) t s to x (i ∷ p) h e l b =
    let r : Runs t s i p = runs_cons t s i p h in
    let low : Below (plus (plus x (arc t i).weight) (arcs_cost t p)) no_weight = rw (plus_assoc x (arc t i).weight (arcs_cost t p)) b in
    or_right (eqb s to && below x no_weight) (some_leaving t.arcs s (λ a. negative_run most t a.target to (plus x a.weight)))
    (at_leaving t.arcs s (λ a. negative_run most t a.target to (plus x a.weight)) i r.below r.leaves
    (path_falls_to most t (arc t i).target to (plus x (arc t i).weight) p r.rest e (omega arith) low))

-- A cycle below zero of at most as many arcs as there are states: a longer one comes back to a state on its way, and what it goes round there or the rest of
-- it sums below zero.

record ThreeRuns (t : Transducer) (s : ℕ) (a b c : List ℕ) : Type 0 where
  there : runs t s a ≡ true
  around : runs t (ends t s a) b ≡ true
  on : runs t (ends t (ends t s a) b) c ≡ true

three_runs : (t : Transducer) (s : ℕ) (a b c : List ℕ) → runs t s (a ++ (b ++ c)) ≡ true → ThreeRuns t s a b c
three_runs t s a b c h =
    let u : ℕ = ends t s a in
    let one = and-true (runs t s a) (runs t u (b ++ c)) (sym (runs_append t s a (b ++ c)) ∙ h) in
    let two = and-true (runs t u b) (runs t (ends t u b) c) (sym (runs_append t u b c) ∙ one.1) in
    record { there = one.0; around = two.0; on = two.1 }

pub record ShortCycle (t : Transducer) (s : ℕ) : Type 0 where
  pub falls : NegativeCycleFrom t s
  pub few : length falls.cycle ≤ t.states

-- A shorter one.
record Less (t : Transducer) (s : ℕ) (most : ℕ) : Type 0 where
  falls : NegativeCycleFrom t s
  few : length falls.cycle < most

module _ (t : Transducer) (s : ℕ) (f : NegativeCycleFrom t s) (r : Cycle t (ends t s f.lead) f.cycle) (less : length r.cycle < length
    f.cycle) where
  u : ℕ
  u = ends t s f.lead

  v : ℕ
  v = ends t u r.lead

  whole : runs t u (r.lead ++ (r.cycle ++ r.rest)) ≡ true
  unfolding u
  whole = rw r.whole at f.around

  three : ThreeRuns t u r.lead r.cycle r.rest
  unfolding u
  three = three_runs t u r.lead r.cycle r.rest whole

  back : ends t v r.cycle ≡ v
  unfolding u v
  back = sym (ends_append t u r.lead r.cycle) ∙ r.back

  -- The end of the cycle without the part.
  home : ends t v r.rest ≡ u
  unfolding u v
  home =
      ap (λ (x : ℕ). ends t x r.rest) (sym back)
      ∙ (sym (ends_append t v r.cycle r.rest)
      ∙ (sym (ends_append t u r.lead (r.cycle ++ r.rest)) ∙ (ap (ends t u) (sym r.whole) ∙ f.back)))

  to : ends t s (f.lead ++ r.lead) ≡ v
  unfolding u v
  to = ends_append t s f.lead r.lead

  sum : arcs_cost t f.cycle ≡ plus (arcs_cost t r.lead) (plus (arcs_cost t r.cycle) (arcs_cost t r.rest))
  sum =
      ap (arcs_cost t) r.whole
      ∙ (arcs_cost_append t r.lead (r.cycle ++ r.rest)
      ∙ ap (λ (x : Weight). plus (arcs_cost t r.lead) x) (arcs_cost_append t r.cycle r.rest))

  part : Below (arcs_cost t r.cycle) no_weight → Less t s (length f.cycle)
  unfolding u v
  part low =
      let behind : Accepting t v (r.rest ++ f.rest) =
      append_accepting t v r.rest f.rest (rw back at three.on) (rw home (negative_cycle_rest t s f)) in
      record {
        falls =
            record {
              lead = f.lead ++ r.lead;
              cycle = r.cycle;
              rest = r.rest ++ f.rest;
              there = runs_append t s f.lead r.lead ∙ true_and (runs t s f.lead) (runs t u r.lead) f.there three.there;
              around = rw to three.around;
              back = rw to back;
              on = rw to behind.goes;
              final = rw to behind.final;
              sum = low;
            };
        few = less;
      }

  others : AtMost no_weight (arcs_cost t r.cycle) → Less t s (length f.cycle)
  unfolding u v
  others high =
      let c : List ℕ = r.lead ++ r.rest in
      let long : length f.cycle ≡ length r.lead + (length r.cycle + length r.rest) = ap length r.whole ∙ simp length-append in
      let short : length c ≡ length r.lead + length r.rest = length-append r.lead r.rest in
      let some : 0 < length r.cycle = r.some in
      let low : Below (plus (arcs_cost t r.lead) (plus (arcs_cost t r.cycle) (arcs_cost t r.rest))) no_weight = rw sum at f.sum in
      record {
        falls =
            record {
              lead = f.lead;
              cycle = c;
              rest = f.rest;
              there = f.there;
              around = runs_append t u r.lead r.rest ∙ true_and (runs t u r.lead) (runs t v r.rest) three.there (rw back at three.on);
              back = ends_append t u r.lead r.rest ∙ home;
              on = f.on;
              final = f.final;
              sum = rw (arcs_cost_append t r.lead r.rest) (less_by (arcs_cost t r.lead) (arcs_cost t r.cycle) (arcs_cost t r.rest) high low);
            };
        few = omega arith;
      }
    where
      less_by : (a b c : Weight) → AtMost no_weight b → Below (plus a (plus b c)) no_weight → Below (plus a c) no_weight
      less_by a b c p q = omega (arith, sums, weight-sum b c)

  shorter_cycle : Less t s (length f.cycle)
  shorter_cycle = on (either (arcs_cost t r.cycle) no_weight)
    where
      on : (AtMost no_weight (arcs_cost t r.cycle)) ⊎ (Below (arcs_cost t r.cycle) no_weight) → Less t s (length f.cycle)
      on (inl high) = others high
      on (inr low) = part low

-- A cycle of more arcs than there are states, from its second state on.
long_cycle : (t : Transducer) → Within t → (u : ℕ) (c : List ℕ) → runs t u c ≡ true → t.states < length c → (r : Cycle t u c) × (length r.cycle < length c)
unfolding ends
long_cycle t w u [] h l = absurd (omega arith)
long_cycle t w u (i ∷ c) h l =
    let r : Runs t u i c = runs_cons t u i c h in
    let o : Cycle t (arc t i).target c = long_has_cycle t w (arc t i).target c (w.arrives i r.below) r.rest (omega arith) in
    let all : length c ≡ length o.lead + (length o.cycle + length o.rest) = ap length o.whole ∙ simp length-append in (
      record { lead = i ∷ o.lead; cycle = o.cycle; rest = o.rest; whole = ap (λ (x : List ℕ). i ∷ x) o.whole; some = o.some; back = o.back },
      omega arith,
    )

short_by : (t : Transducer) → Within t → (s fuel : ℕ) (f : NegativeCycleFrom t s) → length f.cycle ≤ fuel → ShortCycle t s
short_by t w s zero f h = record { falls = f; few = omega arith }
short_by t w s (suc fuel) f h = on (λ g l. short_by t w s fuel g l) (leb (length f.cycle) t.states) refl
  where
    on : ((g : NegativeCycleFrom t s) → length g.cycle ≤ fuel → ShortCycle t s) → (b : Bool) → leb (length f.cycle) t.states ≡ b → ShortCycle t s
    on more true e = record { falls = f; few = leb-true (length f.cycle) t.states e }
    on more false e =
        let r = long_cycle t w (ends t s f.lead) f.cycle f.around (leb-false (length f.cycle) t.states e) in
        let g : Less t s (length f.cycle) = shorter_cycle t s f r.0 r.1 in
        more g.falls (omega (arith, g.few))

pub short_falling : (t : Transducer) → Within t → (s : ℕ) → NegativeCycleFrom t s → ShortCycle t s
short_falling t w s f = short_by t w s (length f.cycle) f (omega arith)

-- Both ways, whichever states count, as long as those count to which arcs lead from one that does.

-- The state itself is one of the transducer's.
pub negative_cycle_below : (t : Transducer) → Within t → (s : ℕ) → NegativeCycleFrom t s → s < t.states
unfolding ends arcs_cost
negative_cycle_below t w s f = on f.lead f.cycle f.there f.around f.sum
  where
    leaves : (i : ℕ) (p : List ℕ) → runs t s (i ∷ p) ≡ true → s < t.states
    leaves i p h = let r : Runs t s i p = runs_cons t s i p h in rw r.leaves at (w.leaves i r.below)

    on : (lead cycle : List ℕ) → runs t s lead ≡ true → runs t (ends t s lead) cycle ≡ true → Below (arcs_cost t cycle) no_weight → s < t.states
    on (i ∷ p) c h g low = leaves i p h
    on [] (i ∷ p) h g low = leaves i p g
    on [] [] h g low = absurd (omega (arith, sums, low))

module _ (t : Transducer) (counts : ℕ → Bool) where
  -- Marks go along with paths.
  pub passes_along : Passes t false counts → (s : ℕ) (p : List ℕ) → counts s ≡ true → runs t s p ≡ true → counts (ends t s p) ≡ true
  unfolding ends
  passes_along m s [] c h = c
  passes_along m s (i ∷ p) c h =
      let r : Runs t s i p = runs_cons t s i p h in
      passes_along m (arc t i).target p (m i r.below (rw r.leaves c)) r.rest

  pub falls_among : Within t → Passes t false counts → SomeNegativeCycle t counts → negative_cycle_among t counts ≡ true
  unfolding negative_cycle_among negative_cycle_at
  falls_among w m f =
      let g : ShortCycle t f.state = short_falling t w f.state f.negative_cycle in
      let o = g.falls in
      let n : ℕ = t.states in
      let s : ℕ = ends t f.state g.falls.lead in
      let a : counts s ≡ true = passes_along m f.state g.falls.lead f.marked o.there in
      let b : coaccessible n t s ≡ true = path_coaccessible t w s g.falls.rest (negative_cycle_rest t f.state o) in
      let c : negative_run n t s s no_weight ≡ true =
      path_falls_to n t s s no_weight g.falls.cycle o.around o.back g.few (omega (arith, sums, g.falls.sum)) in
      has_some_below n (λ s. counts s && (coaccessible n t s && negative_run n t s s no_weight)) s
      (ends_below t w f.state g.falls.lead (negative_cycle_below t w f.state f.negative_cycle) o.there)
      (true_and (counts s) (coaccessible n t s && negative_run n t s s no_weight) a (true_and (coaccessible n t s) (negative_run n t s s no_weight) b c))

  pub among_falls : negative_cycle_among t counts ≡ true → SomeNegativeCycle t counts
  unfolding negative_cycle_among negative_cycle_at runs ends
  among_falls h =
      let n : ℕ = t.states in
      let r : FoundBelow n (λ s. counts s && (coaccessible n t s && negative_run n t s s no_weight)) =
      some_below_has n (λ s. counts s && (coaccessible n t s && negative_run n t s s no_weight)) h in
      let s : ℕ = r.number in
      let one = and-true (counts s) (coaccessible n t s && negative_run n t s s no_weight) r.for in
      let two = and-true (coaccessible n t s) (negative_run n t s s no_weight) one.1 in
      let rest = coaccessible_path n t s two.0 in
      let round : FallsTo n t s s no_weight = negative_run_path n t s s no_weight two.1 in
      record {
        state = s;
        marked = one.0;
        negative_cycle =
            record {
              lead = [];
              cycle = round.path;
              rest = rest.0;
              there = refl;
              around = round.goes;
              back = round.there;
              on = rest.1.goes;
              final = rest.1.final;
              sum = omega (arith, sums, round.sum);
            };
      }

  pub negative_cycle_among_is : Within t → Passes t false counts → (negative_cycle_among t counts ≡ true) ↔ SomeNegativeCycle t counts
  negative_cycle_among_is w m = (among_falls, falls_among w m)

-- Where those count that the start reaches, it is a cycle on an accepting path.

pub falls_start : (t : Transducer) → SomeNegativeCycle t (accessible t.states t) → NegativeCycleFrom t t.start
falls_start t f =
    let to : PathTo t f.state = (accessible_path t.states t f.state f.marked).0 in
    let there : ends t t.start to.path ≡ f.state = to.there in
    negative_cycle_behind t t.start to.path to.goes (rw there f.negative_cycle)

pub negative_cycle_true : (t : Transducer) → Within t → NegativeCycleFrom t t.start → negative_cycle t ≡ true
unfolding negative_cycle
negative_cycle_true t w f =
    falls_among t (accessible t.states t) w (accessible_passes t w)
    (record { state = t.start; marked = accessible_start t.states t; negative_cycle = f })

pub true_falling : (t : Transducer) → negative_cycle t ≡ true → NegativeCycleFrom t t.start
unfolding negative_cycle
true_falling t h = falls_start t (among_falls t (accessible t.states t) h)

pub negative_cycle_is : (t : Transducer) → Within t → (negative_cycle t ≡ true) ↔ NegativeCycleFrom t t.start
negative_cycle_is t w = (true_falling t, negative_cycle_true t w)

-- Where all count, it may be a cycle that the start does not reach.

pub anywhere_true : (t : Transducer) → Within t → SomeNegativeCycle t anywhere → negative_cycle_anywhere t ≡ true
unfolding negative_cycle_anywhere
anywhere_true t w f = falls_among t anywhere w (λ i b c. refl) f

pub true_anywhere : (t : Transducer) → negative_cycle_anywhere t ≡ true → SomeNegativeCycle t anywhere
unfolding negative_cycle_anywhere
true_anywhere t h = among_falls t anywhere h

pub negative_cycle_anywhere_is : (t : Transducer) → Within t → (negative_cycle_anywhere t ≡ true) ↔ SomeNegativeCycle t anywhere
negative_cycle_anywhere_is t w = (true_anywhere t, anywhere_true t w)

-- If there is no cycle below zero at all, there is none on such a path.
pub rises_anywhere : (t : Transducer) → (NegativeCycle t → ⊥) → negative_cycle_anywhere t ≡ false
rises_anywhere t none =
    is_false (negative_cycle_anywhere t)
    (λ h.
    let f : NegativeCycleFrom t (true_anywhere t h).state = (true_anywhere t h).negative_cycle in
    none (record {
      state = ends t (true_anywhere t h).state f.lead;
      cycle = f.cycle;
      around = record { goes = f.around; there = f.back };
      sum = f.sum;
    }))

-- A cycle on an accepting path is one of them.
pub negative_cycle_some : (t : Transducer) → Within t → negative_cycle t ≡ true → negative_cycle_anywhere t ≡ true
negative_cycle_some t w h = anywhere_true t w (record { state = t.start; marked = refl; negative_cycle = true_falling t h })
