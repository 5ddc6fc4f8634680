-- The walk along an arc for each state, with the arc numbers put into a buffer: what is walked, then the path from the state reached, is the path sought.
-- Assumes nothing.
use mathlib.Core.Path.{◌≡◌, refl, sym, ap, ◌∙◌}
use mathlib.Core.Bool.{true}
use mathlib.Core.List.{List, [], ◌∷◌, ◌++◌, append_assoc, append-nil}
use Prim.Native.Nat.{ℕ, suc, ◌+◌, ◌-◌, ◌≤◌, ◌<◌}
use native.Mathlib.Omega.{arith}
use lib.ListN.{length, set, take, length-set}
use lib.Seq.{length-take-le, take-suc-set}
use Rattle.wire.specs.Bytes.{cleared, filled}
use Rattle.transducer.specs.declared.Arc.{Arc}
use Rattle.transducer.specs.Format.{Transducer}
use Rattle.transducer.specs.Path.{arc, runs}
use Rattle.transducer.proofs.Paths.{Runs, runs_cons}
use Rattle.transducer.proofs.Runs.{Within}
use Rattle.transducer.specs.Weight.{Weight}
use Rattle.transducer.proofs.Index.{arcs_of_state}
use Rattle.reach.proofs.Sized.{Sized}
use Rattle.relax.specs.Size.{Size}
use Rattle.shortest.specs.Tight.{follow, first_giving, first_tight, HasArcs}
use Rattle.shortest.proofs.Tight.{giving_tight_on}

-- At a state: n arcs are walked.
pub record WalkedAlong (t : Transducer) (v : ℕ → ℕ) (start len room : ℕ) (out : List ℕ) (s n : ℕ) : Type 0 where
  pub few : n ≤ len
  pub enough : len ≤ room
  pub long : length out ≡ room
  pub inside : s < t.states
  pub rest : runs t s (follow (len - n) t v s) ≡ true
  pub whole : take n out ++ follow (len - n) t v s ≡ follow len t v start

pub walked_first : (t : Transducer) (v : ℕ → ℕ) (start len : ℕ) (out : List ℕ) → len ≤ length out → start < t.states
    → runs t start (follow len t v start) ≡ true
    → WalkedAlong t v start len (length out) out start 0
walked_first t v start len out h b r =
    let z : len - 0 ≡ len = omega arith in
    record { few = omega arith; enough = h; long = refl; inside = b; rest = rw z r; whole = rw z refl }

module _ (t : Transducer) (w : Within t) (v : ℕ → ℕ) (start len room : ℕ) (out : List ℕ) (s n : ℕ)
    (k : WalkedAlong t v start len room out s n) (h : n < len) where
  abbrev left : ℕ
  left = len - (n + 1)

  more : len - n ≡ suc left
  more = omega arith

  pub walked_arc : Runs t s (v s) (follow left t v (arc t (v s)).target)
  unfolding follow
  walked_arc = runs_cons t s (v s) (follow left t v (arc t (v s)).target) (rw more at k.rest)

  pub walked_next : (i : ℕ) (a : Arc) → i ≡ v s → a ≡ arc t i → WalkedAlong t v start len room (set out n i) a.target (n + 1)
  unfolding follow
  walked_next i a along is =
      let u : ℕ = (arc t (v s)).target in
      let one : n + 1 ≡ suc n = omega arith in
      let put : take (suc n) (set out n (v s)) ≡ take n out ++ (v s ∷ []) = take-suc-set out n (v s) (omega (arith, k.long, k.enough)) in
      let all : take n out ++ (v s ∷ follow left t v u) ≡ follow len t v start = rw more at k.whole in
      let next : take (suc n) (set out n (v s)) ++ follow left t v u ≡ follow len t v start =
      ap (λ (x : List ℕ). x ++ follow left t v u) put ∙ (append_assoc (take n out) (v s ∷ []) (follow left t v u) ∙ all) in
      rw (is, along) (record {
        few = omega arith;
        enough = k.enough;
        long = length-set out n (v s) ∙ k.long;
        inside = w.arrives (v s) walked_arc.below;
        rest = walked_arc.rest;
        whole = ap (λ (x : ℕ). take x (set out n (v s)) ++ follow left t v u) one ∙ next;
      })

-- The first arc from where the arcs of the state begin that gives its cost and size is its first tight arc.
pub arc_sought : (t : Transducer) → Sized t → (c : ℕ → Weight) (l : ℕ → Size) {start len room : ℕ} {out : List ℕ} {s n from to i : ℕ}
    → WalkedAlong t (first_tight t c l) start len room out s n → n < len → HasArcs t s from to → i ≡ first_giving (to - from) t c l s from
    → (i ≡ first_tight t c l s) × (i < length t.arcs)
arc_sought t z c l {start} {len} {room} {out} {s} {n} {from} {to} {i} k h has found =
    let there = walked_arc t z.within (first_tight t c l) start len room out s n k h in
    let own = (arcs_of_state t (first_tight t c l s) s z.content there.below there.leaves).1 in
    let is : i ≡ first_tight t c l s = giving_tight_on t c l s from to i has own found in
    (is, omega (arith, there.below))

pub walked_done : (t : Transducer) (v : ℕ → ℕ) (start len room : ℕ) (out : List ℕ) (s n : ℕ) → WalkedAlong t v start len room out s n → len ≤ n
    → cleared n out ≡ filled room (follow len t v start)
unfolding cleared filled follow
walked_done t v start len room out s n k h =
    let none : len - n ≡ 0 = omega (arith, k.few) in
    let done : take n out ++ [] ≡ follow len t v start = rw none at k.whole in
    let is : follow len t v start ≡ take n out = sym done ∙ append-nil (take n out) in
    let long : length (take n out) ≡ n = length-take-le n out (omega (arith, k.few, k.enough, k.long)) in
    rw (is, long, k.long)
