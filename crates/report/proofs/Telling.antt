-- A path told arc by arc: the arcs from i on cost and write what is left (`Telling`). Assumes nothing.
use mathlib.Core.Path.{◌≡◌, refl, sym, ap, ◌∙◌}
use mathlib.Core.Bool.{true, false}
use mathlib.Core.List.{List, [], ◌∷◌, ◌++◌, append_assoc, append-nil}
use Prim.Native.Nat.{ℕ, suc, ◌+◌, ◌*◌, ◌≤◌, ◌<◌}
use native.Mathlib.Omega.{arith}
use borrow.Author.Tests.{eqb-false}
use lib.Dec.{eqb}
use lib.ListN.{length, get_or, set, take, drop, length-set, drop_of_length-le}
use lib.Seq.{drop-cons, length-take-le, take-suc-set}
use Rattle.wire.specs.Bytes.{cleared, filled}
use Rattle.transducer.specs.declared.Arc.{Arc}
use Rattle.transducer.specs.Format.{Transducer, weight_good}
use Rattle.transducer.specs.Weight.{Weight, no_weight, plus, magnitude, weight_of}
use Rattle.transducer.specs.Path.{arc, no_arc, is_final, final_weight, ends, accepts, written_by, arcs_cost, path_cost}
use Rattle.transducer.specs.Entry.{unless, cost_unless, left_in}
use Rattle.transducer.specs.Accepted.{final_code, max_code, FinalsByState}
use Rattle.transducer.proofs.Good.{arc_light, finals_light}
use Rattle.transducer.proofs.Finals.{final_code_some, weight_final_code}
use Rattle.transducer.proofs.Weights.{none_plus, plus_none, plus_assoc, magnitude_plus, good_size}
use Rattle.transducer.proofs.Paths.{empty_passed, symbol_kept}
use Rattle.transducer.proofs.Runs.{Accepting, AcceptingBy, accepts_accepting, accepting_cons}
use Rattle.report.specs.declared.PathEnd.{PathEnd}
use Rattle.report.specs.Tell.{LabelsPut, Tells}
use Rattle.reach.proofs.Sized.{Sized}

pub record Telling (t : Transducer) (p : List ℕ) (room : ℕ) (labels : List ℕ) (s : ℕ) (cost : Weight) (m i : ℕ) : Type 0 where
  pub below : i ≤ length p
  pub inside : s < t.states
  pub short : length p ≤ 1023
  pub enough : 1023 ≤ room
  pub rest : Accepting t s (drop i p)
  pub costs : plus cost (arcs_cost t (drop i p)) ≡ arcs_cost t p
  pub low : magnitude cost ≤ 1000000 * i
  pub end : ends t s (drop i p) ≡ ends t t.start p
  pub writes : written_by t p ≡ take m labels ++ written_by t (drop i p)
  pub few : m ≤ i
  pub long : length labels ≡ room

pub telling_first : {t : Transducer} → Sized t → (p : List ℕ) {room : ℕ} {labels : List ℕ} {start : ℕ} → start ≡ t.start → accepts t p ≡ true
    → length p ≤ 1023 → 1023 ≤ room → length labels ≡ room → Telling t p room labels start no_weight 0 0
telling_first {t} z p e h short enough long =
    rw e (record {
      below = omega arith;
      inside = z.within.starts;
      short = short;
      enough = enough;
      rest = accepts_accepting t p h;
      costs = none_plus (arcs_cost t p);
      low = omega arith;
      end = refl;
      writes = refl;
      few = omega arith;
      long = long;
    })

-- The arc at hand.
pub telling_arc : {t : Transducer} {p : List ℕ} {room : ℕ} {labels : List ℕ} {s : ℕ} {cost : Weight} {m i j : ℕ} → Telling t p room labels s cost m i
    → i < length p → j ≡ get_or p i 0 → AcceptingBy t s j (drop (suc i) p)
telling_arc {t} {p} {s = s} {i = i} k h e =
    rw e (accepting_cons t s (get_or p i 0) (drop (suc i) p) (rw (drop-cons p i 0 h) at k.rest))

module _ {t : Transducer} (z : Sized t) {p : List ℕ} {room : ℕ} {labels : List ℕ} {s : ℕ} {cost : Weight} {m i j : ℕ}
    (k : Telling t p room labels s cost m i) (h : i < length p) (e : j ≡ get_or p i 0) where
  at_hand : drop i p ≡ j ∷ drop (suc i) p
  at_hand = rw e (drop-cons p i 0 h)

  pub telling_weight : weight_good (arc t j).weight ≡ true
  unfolding arc
  telling_weight = arc_light t z.content j no_arc (telling_arc k h e).below

  -- What the labels hold after this arc decides the rest.
  step : (labels' : List ℕ) (m' : ℕ) → length labels' ≡ room → m' ≤ i + 1
      → take m labels ++ written_by t (j ∷ drop (suc i) p) ≡ take m' labels' ++ written_by t (drop (suc i) p)
      → Telling t p room labels' (arc t j).target (plus cost (arc t j).weight) m' (i + 1)
  unfolding arcs_cost ends
  step labels' m' long few writes =
      let one : i + 1 ≡ suc i = omega arith in
      let costs : plus cost (arcs_cost t (j ∷ drop (suc i) p)) ≡ arcs_cost t p = rw at_hand at k.costs in
      let end : ends t s (j ∷ drop (suc i) p) ≡ ends t t.start p = rw at_hand at k.end in
      record {
        below = omega arith;
        inside = z.within.arrives j (telling_arc k h e).below;
        short = k.short;
        enough = k.enough;
        rest = rw one (telling_arc k h e).rest;
        costs = rw one (plus_assoc cost (arc t j).weight (arcs_cost t (drop (suc i) p)) ∙ costs);
        low = omega (arith, k.low, magnitude_plus cost (arc t j).weight, good_size (arc t j).weight telling_weight);
        end = rw one end;
        writes = rw one (k.writes ∙ (ap (λ (q : List ℕ). take m labels ++ written_by t q) at_hand ∙ writes));
        few = few;
        long = long;
      }

  pub telling_silent : (arc t j).output ≡ 0 → Telling t p room labels (arc t j).target (plus cost (arc t j).weight) m (i + 1)
  unfolding written_by
  telling_silent q =
      step labels m k.long (omega (arith, k.few))
      (ap (λ (x : List ℕ). take m labels ++ x) (empty_passed (arc t j).output (written_by t (drop (suc i) p)) q))

  pub telling_room : m < 1023
  telling_room = omega (arith, k.few, k.short)

  pub telling_symbol : ((arc t j).output ≡ 0 → ⊥)
      → Telling t p room (set labels m (arc t j).output) (arc t j).target (plus cost (arc t j).weight) (m + 1) (i + 1)
  unfolding written_by
  telling_symbol q =
      let one : m + 1 ≡ suc m = omega arith in
      let more : List ℕ = written_by t (drop (suc i) p) in
      let stored : take (suc m) (set labels m (arc t j).output) ≡ take m labels ++ ((arc t j).output ∷ []) =
      take-suc-set labels m (arc t j).output (omega (arith, telling_room, k.enough, k.long)) in
      step (set labels m (arc t j).output) (m + 1) (length-set labels m (arc t j).output ∙ k.long) (omega (arith, k.few))
      (ap (λ (x : List ℕ). take m labels ++ x) (symbol_kept (arc t j).output more q)
      ∙ (sym (append_assoc (take m labels) ((arc t j).output ∷ []) more) ∙ rw (one, stored)))

  -- The same of the arc as it was read.
  pub telling_past : (a : Arc) → a ≡ arc t j → a.output ≡ 0 → Telling t p room labels a.target (plus cost a.weight) m (i + 1)
  telling_past a is q = rw is (telling_silent (rw is at q))

  pub telling_put : (a : Arc) → a ≡ arc t j → (a.output ≡ 0 → ⊥)
      → Telling t p room (set labels m a.output) a.target (plus cost a.weight) (m + 1) (i + 1)
  telling_put a is q = rw is (telling_symbol (rw is at q))

-- All arcs are passed.
pub telling_stop : {t : Transducer} → Sized t → {p labels labels' old : List ℕ} {s : ℕ} {cost : Weight} {m i : ℕ} → Telling t p (length old) labels s cost m i → length p ≤ i → labels' ≡ cleared m labels
    → LabelsPut t p (record { state = s; cost = cost; labels = m }) old labels'
unfolding arcs_cost written_by ends cleared filled
telling_stop {t} z {p} {labels} {s = s} {cost = cost} {m = m} {i = i} k h e =
    let none : drop i p ≡ [] = drop_of_length-le p h in
    let costs : plus cost no_weight ≡ arcs_cost t p = rw none at k.costs in
    let end : ends t s [] ≡ ends t t.start p = rw none at k.end in
    let writes : written_by t p ≡ take m labels = (rw none at k.writes) ∙ append-nil (take m labels) in
    let long : length (take m labels) ≡ m = length-take-le m labels (omega (arith, k.few, k.below, k.short, k.enough, k.long)) in
    record {
      labels = e ∙ rw (writes, long, k.long);
      labels_is = rw (writes, long);
      few = omega (arith, k.few, k.below, k.short);
      cost_is = sym (plus_none cost) ∙ costs;
      low = omega (arith, k.low, k.below, k.short);
      state_is = end;
      inside = omega (arith, k.inside, z.states);
    }

-- A code that is not 0 is one of a weight.
some_code : (code : ℕ) → eqb code 0 ≡ false → 1 ≤ code
some_code code e = omega (arith, eqb-false code 0 e)

-- The final code of the last state.
pub record LastCode (t : Transducer) (p : List ℕ) (cost : Weight) (code : ℕ) : Type 0 where
  pub some : 1 ≤ code
  pub low : code ≤ max_code
  pub costs : plus cost (weight_of code) ≡ path_cost t p

pub last_code : (t : Transducer) → Sized t → (p codes : List ℕ) {r : PathEnd} {b b' : List ℕ} → accepts t p ≡ true → LabelsPut t p r b b'
    → FinalsByState t codes → LastCode t p r.cost (get_or codes r.state 0)
unfolding path_cost
last_code t z p codes {r} h k f =
    let s : ℕ = r.state in
    let final : is_final t.finals s ≡ true = rw k.state_is (accepts_accepting t p h).final in
    let coded : get_or codes s 0 ≡ final_code t.finals s = f.at_state s k.inside in
    let is : weight_of (get_or codes s 0) ≡ final_weight t.finals s =
    rw coded (weight_final_code t.finals s (finals_light t z.content) final) in
    record {
      some = some_code (get_or codes s 0) (rw coded (rw final at (final_code_some t.finals s)));
      low = f.small s k.inside;
      costs = rw (is, k.cost_is, k.state_is);
    }

-- What is told of a path of which the cost is known.
pub tells_by : (t : Transducer) (p : List ℕ) {r : PathEnd} {old labels' : List ℕ} (cost : Weight) (len : ℕ) → cost ≡ path_cost t p → len ≡ length p
    → LabelsPut t p r old labels' → Tells t p (record { refusal = 0; cost = cost; arcs = len; labels = r.labels }) old labels'
unfolding unless cost_unless left_in
tells_by t p cost len c l k =
    record { refusal_is = refl; cost_is = c; arcs_is = l; labels_is = k.labels_is; arcs = refl; labels = k.labels }
