-- One pass over the arcs, the last one first (`Passed`): sources never fall, so that where each arc leads to a higher number the counts where it
-- leads stay as they are. In the end each count is the sum of those where the arcs lead, and no path is longer than there are states. Assumes nothing.
use mathlib.Core.Path.{◌≡◌, refl, sym, ap, ◌∙◌}
use mathlib.Core.Bool.{Bool, true, false, ◌||◌, cond}
use mathlib.Core.List.{List, [], ◌∷◌, ◌++◌}
use Prim.Native.Nat.{ℕ, zero, suc, ◌+◌, ◌*◌, ◌≤◌, ◌<◌, min}
use native.Mathlib.Omega.{arith}
use native.Mathlib.Decide.{ℕ_discrete}
use native.Mathlib.Numerals.{add-one}
use lib.Dec.{eqb}
use lib.ListN.{length, get_or, set, take, drop, replicate, length-set, length-replicate, length-drop}
use lib.Seq.{drop-cons, drop-length, get_or-drop, take-suc, take-length}
use borrow.Author.Tests.{eqb-true, eqb-false, eq-eqb, ne_eqb}
use Rattle.wire.proofs.Bool.{clash, is_false}
use Rattle.transducer.specs.declared.Final.{Final}
use Rattle.wire.specs.Bytes.{Bytes}
use Rattle.transducer.specs.Format.{Transducer, decode, refusal, head_finals, final_at}
use Rattle.transducer.specs.Path.{arc, no_arc, is_final}
use Rattle.transducer.specs.Accepted.{FinalsByState}
use Rattle.transducer.proofs.Good.{sources_stay_good, final_state_below}
use Rattle.transducer.proofs.Offsets.{decode_states, length_finals, final_offset, accepted_within, accepted_good}
use Rattle.transducer.proofs.Index.{stay_rises}
use Rattle.transducer.proofs.Finals.{is_final_append}
use Rattle.capped.specs.declared.Count.{Count}
use Rattle.reach.specs.Reach.{some_arc}
use Rattle.reach.proofs.Reach.{SomeAt, some_arc_at}
use Rattle.paths.specs.Count.{goes_on, endless}
use Rattle.capped.specs.Capped.{add}
use Rattle.paths.specs.Tally.{own, tally}
use Rattle.paths.specs.Sweep.{at_state, Totalled}
use Rattle.paths.specs.TopSorted.{TopSorted, EmptyPaths}
use Rattle.paths.proofs.Tally.{sum_arcs, sum_arcs_monotone, add_all_sum, add_all_same, own_small}
use Rattle.paths.proofs.Sweep.{finite_tally}
use Rattle.paths.proofs.Ready.{Sized, own_code}
use Rattle.paths.proofs.StoredCounts.{at_set_same, at_set_other, zeros}

-- The counts of the empty paths, by finals: of the first i.
pub record FindingFinals (t : Transducer) (i : ℕ) (cs : List Count) : Type 0 where
  pub long : length cs ≡ 1024
  pub counts : (s : ℕ) → at_state cs s ≡ cond (is_final (take i t.finals) s) 1 0

pub finals_first : (t : Transducer) → FindingFinals t 0 (replicate 1024 (record { value = 0 }))
unfolding is_final
finals_first t = record { long = length-replicate {A = Count} 1024 (record { value = 0 }); counts = λ s. zeros 1024 s }

pub finals_next : (t : Transducer) (i : ℕ) (cs : List Count) (f : Final) → i < length t.finals → get_or t.finals i f ≡ f → f.state < 1024
    → FindingFinals t i cs → FindingFinals t (i + 1) (set cs f.state (record { value = 1 }))
unfolding is_final
finals_next t i cs f b e room k =
    record {
      long = length-set cs f.state (record { value = 1 }) ∙ k.long;
      counts = λ s. rw (add-one, more, is_final_append (take i t.finals) (f ∷ []) s) (on s (ℕ_discrete f.state s));
    }
  where
    more : take (suc i) t.finals ≡ take i t.finals ++ (f ∷ [])
    more = take-suc t.finals i f b ∙ ap (λ (g : Final). take i t.finals ++ (g ∷ [])) e

    either : (a b : Bool) → b ≡ true → ◌≡◌ {A = ℕ} 1 (cond (a || (b || false)) 1 0)
    either true b q = refl
    either false b q = rw q

    neither : (a b : Bool) → b ≡ false → ◌≡◌ {A = ℕ} (cond a 1 0) (cond (a || (b || false)) 1 0)
    neither true b q = refl
    neither false b q = rw q

    on : (s : ℕ) → Dec (f.state ≡ s)
        → at_state (set cs f.state (record { value = 1 })) s ≡ cond (is_final (take i t.finals) s || (eqb f.state s || false)) 1 0
    on s (yes y) =
        rw (← y) (at_set_same cs f.state (record { value = 1 }) (omega (arith, k.long)) ∙ either (is_final (take i t.finals) f.state)
        (eqb f.state f.state) (eq-eqb f.state f.state refl))
    on s (no n) =
        at_set_other cs f.state (record { value = 1 }) s (λ q. n (sym q)) ∙
        (k.counts s ∙ neither (is_final (take i t.finals) s) (eqb f.state s) (ne_eqb f.state s n))

-- The final whose record is loaded.
pub final_loaded : (bs : List ℕ) → Bytes bs → refusal bs ≡ 0 → (i place : ℕ) (f : Final) → i < head_finals bs → place ≡ 12 + 10 * i → f ≡ final_at bs place
    → (get_or (decode bs).finals i f ≡ f) × (f.state < 1024)
final_loaded bs bytes ok i place f b at e =
    let inside : i < length (decode bs).finals = omega (arith, length_finals bs bytes ok) in
    let is : get_or (decode bs).finals i f ≡ f = final_offset bs bytes ok i f inside ∙ sym (e ∙ ap (final_at bs) at) in
    let state : (get_or (decode bs).finals i f).state ≡ f.state = ap (λ (g : Final). g.state) is in
    let below = final_state_below (decode bs) (accepted_good bs bytes ok) i f inside in
    (is, omega (arith, state, below, decode_states bs bytes ok, (accepted_within bs bytes ok).states))

pub finals_stop : (t : Transducer) (n i : ℕ) (cs : List Count) → i ≡ length t.finals → FindingFinals t i cs → EmptyPaths t n cs
unfolding own
finals_stop t n i cs e k =
    record {
      long = k.long;
      counts = λ s _. k.counts s ∙ ap (λ (l : List Final). cond (is_final l s) 1 0)
          (ap (λ (j : ℕ). take j t.finals) e ∙ take-length t.finals);
    }

-- The same by codes: of the states below s.
pub empty_first : (t : Transducer) → EmptyPaths t 0 (replicate 1024 (record { value = 0 }))
empty_first t = record { long = length-replicate {A = Count} 1024 (record { value = 0 }); counts = λ s h. absurd (omega arith) }

pub empty_stop : (t : Transducer) (n s : ℕ) (cs : List Count) → n ≤ s → EmptyPaths t s cs → EmptyPaths t n cs
empty_stop t n s cs h k = record { long = k.long; counts = λ u l. k.counts u (omega arith) }

pub empty_next : (t : Transducer) (codes : List ℕ) (s : ℕ) (cs : List Count) (x : Count) → FinalsByState t codes → s < 1024
    → x.value ≡ cond (eqb (get_or codes s 0) 0) 0 1
    → EmptyPaths t s cs → EmptyPaths t (s + 1) (set cs s x)
empty_next t codes s cs x f room e k = record { long = length-set cs s x ∙ k.long; counts = λ u l. on u l (ℕ_discrete u s) }
  where
    on : (u : ℕ) → u < s + 1 → Dec (u ≡ s) → at_state (set cs s x) u ≡ own t u
    on u l (yes y) = rw y (at_set_same cs s x (omega (arith, k.long)) ∙ (e ∙ own_code t codes s (get_or codes s 0) f room refl))
    on u l (no n) = at_set_other cs s x u n ∙ k.counts u (omega arith)

-- The pass, before it comes to arc i - 1.
pub record Passed (t : Transducer) (i : ℕ) (cs : List Count) : Type 0 where
  pub long : length cs ≡ 1024
  pub within : i ≤ length t.arcs
  pub sorted : TopSorted t i
  pub sums : (s : ℕ) → s < t.states → at_state cs s ≡ min 99 (own t s + sum_arcs (drop i t.arcs) s (at_state cs))

pub passed_first : (t : Transducer) (i : ℕ) (cs : List Count) → i ≡ length t.arcs → EmptyPaths t t.states cs → Passed t i cs
unfolding sum_arcs
passed_first t i cs e k =
    record {
      long = k.long;
      within = omega arith;
      sorted = λ j a b. absurd (omega arith);
      sums = λ s b. rw (e, drop-length t.arcs) (omega (arith, k.counts s b, own_small t s));
    }

pub passed_next : (t : Transducer) → Sized t → (last i : ℕ) (cs : List Count) (s u : ℕ) (x : Count) → suc i ≡ last → Passed t last cs → s ≡ (arc t i).source
    → u ≡ (arc t i).target → s < u → x.value ≡ add (at_state cs s) (at_state cs u) → Passed t i (set cs s x)
unfolding sum_arcs add arc
passed_next t z last i cs s u x e k es eu up ex =
    record {
      long = length-set cs s x ∙ p.long;
      within = omega (arith, b);
      sorted = λ j l m. above j l m (ℕ_discrete j i);
      sums = λ v l. rw (drop-cons t.arcs i no_arc b) (on v l (eqb (arc t i).source v) refl);
    }
  where
    p : Passed t (suc i) cs
    p = rw e k

    b : i < length t.arcs
    b = omega (arith, p.within)

    new : ℕ → ℕ
    new = at_state (set cs s x)

    above : (j : ℕ) → i ≤ j → j < length t.arcs → Dec (j ≡ i) → (arc t j).source < (arc t j).target
    above j l m (yes y) = rw y (omega (arith, es, eu, up))
    above j l m (no n) = p.sorted j (omega arith) m

    -- Behind arc i no arc leads to its source.
    apart : (j : ℕ) → suc i ≤ j → j < length t.arcs → (arc t j).target ≡ s → ⊥
    apart j l m q = omega (arith, p.sorted j l m, stay_rises 0 t.arcs i j (sources_stay_good t z.content) (omega arith) m, es)

    behind : (k : ℕ) → k < length (drop (suc i) t.arcs)
        → new (get_or (drop (suc i) t.arcs) k no_arc).target ≡ at_state cs (get_or (drop (suc i) t.arcs) k no_arc).target
    behind k l =
        let g : get_or (drop (suc i) t.arcs) k no_arc ≡ get_or t.arcs (suc i + k) no_arc = get_or-drop (suc i) t.arcs k no_arc in
        rw g (at_set_other cs s x (arc t (suc i + k)).target (apart (suc i + k) (omega arith) (omega (arith, length-drop (suc i) t.arcs, l))))

    rest : (v : ℕ) → sum_arcs (drop (suc i) t.arcs) v new ≡ sum_arcs (drop (suc i) t.arcs) v (at_state cs)
    rest v =
        let less = sum_arcs_monotone (drop (suc i) t.arcs) v new (at_state cs) (λ k l _. omega (arith, behind k l)) in
        let more = sum_arcs_monotone (drop (suc i) t.arcs) v (at_state cs) new (λ k l _. omega (arith, behind k l)) in
        omega (arith, less, more)

    there : new (arc t i).target ≡ at_state cs u
    there = rw (← eu) (at_set_other cs s x u (λ q. omega arith))

    on : (v : ℕ) → v < t.states → (c : Bool) → eqb (arc t i).source v ≡ c
        → new v ≡ min 99 (own t v + (cond c (new (arc t i).target) 0 + sum_arcs (drop (suc i) t.arcs) v new))
    on v l true q =
        let same : v ≡ s = sym (eqb-true (arc t i).source v q) ∙ sym es in
        let here : new v ≡ x.value = ap new same ∙ at_set_same cs s x (omega (arith, l, same, p.long, z.states)) in
        let sum : at_state cs s ≡ min 99 (own t v + sum_arcs (drop (suc i) t.arcs) v (at_state cs)) = ap (at_state cs) (sym same) ∙ p.sums v l in
        omega (arith, here, ex, sum, there, rest v)
    on v l false q =
        let other : new v ≡ at_state cs v = at_set_other cs s x v (λ y. eqb-false (arc t i).source v q (sym (y ∙ es))) in
        omega (arith, other, p.sums v l, rest v)

-- A count at its most stays.
pub passed_most : (t : Transducer) (last i : ℕ) (cs : List Count) (s u : ℕ) → suc i ≡ last → Passed t last cs → s ≡ (arc t i).source → u ≡ (arc t i).target
    → s < u
    → at_state cs s ≡ 99 → Passed t i cs
unfolding sum_arcs arc
passed_most t last i cs s u e k es eu up most =
    record {
      long = k.long;
      within = omega (arith, p.within);
      sorted = λ j l m. above j l m (ℕ_discrete j i);
      sums = λ v l. rw (drop-cons t.arcs i no_arc (omega (arith, p.within))) (on v l (eqb (arc t i).source v) refl);
    }
  where
    p : Passed t (suc i) cs
    p = rw e k

    above : (j : ℕ) → i ≤ j → j < length t.arcs → Dec (j ≡ i) → (arc t j).source < (arc t j).target
    above j l m (yes y) = rw y (omega (arith, es, eu, up))
    above j l m (no n) = p.sorted j (omega arith) m

    on : (v : ℕ) → v < t.states → (c : Bool) → eqb (arc t i).source v ≡ c
        → at_state cs v ≡ min 99 (own t v + (cond c (at_state cs (arc t i).target) 0 + sum_arcs (drop (suc i) t.arcs) v (at_state cs)))
    on v l true q =
        let same : v ≡ s = sym (eqb-true (arc t i).source v q) ∙ sym es in
        let full : at_state cs v ≡ 99 = ap (at_state cs) same ∙ most in
        omega (arith, full, p.sums v l)
    on v l false q = omega (arith, p.sums v l)

-- All arcs passed.
module _ (t : Transducer) (z : Sized t) (cs : List Count) (p : Passed t 0 cs) where
  higher : (i : ℕ) → i < length t.arcs → (arc t i).source < (arc t i).target
  higher i b = p.sorted i (omega arith) b

  -- So many arcs do not lead on from a state that close to the last.
  stops : (k s : ℕ) → s < t.states → t.states ≤ s + k → goes_on k t s ≡ false
  unfolding goes_on arc
  stops zero s b h = absurd (omega arith)
  stops (suc k) s b h = is_false (some_arc t.arcs s (goes_on k t)) (λ q. found (λ u l m. stops k u l m) (some_arc_at t.arcs s (goes_on k t) q))
    where
      found : ((u : ℕ) → u < t.states → t.states ≤ u + k → goes_on k t u ≡ false) → SomeAt t.arcs s (goes_on k t) → ⊥
      found below a =
          let u : ℕ = (arc t a.place).target in
          let up : s < u = omega (arith, higher a.place a.below, a.leaves) in
          clash a.for (below u (z.within.arrives a.place a.below) (omega arith))

  is_tally : (k s : ℕ) → s < t.states → t.states ≤ s + k → at_state cs s ≡ tally k t s
  unfolding tally
  is_tally zero s b h = absurd (omega arith)
  is_tally (suc k) s b h =
      p.sums s b ∙ (sym (add_all_sum t (at_state cs) s) ∙ add_all_same t (at_state cs) (tally k t) s
      (λ i l e. is_tally k (arc t i).target (z.within.arrives i l) (omega (arith, higher i l, e))))

  pub passed_all : Totalled t cs
  unfolding endless
  passed_all =
      record {
        finite = stops t.states t.start z.within.starts (omega arith);
        settled = record {
          long = p.long;
          counts = λ s b f. is_tally t.states s b (omega arith) ∙ finite_tally t z.within s (record { below = b; stops = f }) t.states (omega arith);
        };
      }
