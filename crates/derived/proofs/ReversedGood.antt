-- A reversed transducer can be written if the transducer can. Assumes nothing.
use mathlib.Core.Path.{◌≡◌, refl, ◌∙◌}
use mathlib.Core.Bool.{Bool, true, ◌&&◌}
use mathlib.Core.List.{List, [], ◌∷◌, ◌++◌, map}
use Prim.Native.Nat.{ℕ, zero, suc, ◌≤◌, ◌<◌}
use native.Mathlib.Omega.{arith}
use lib.Dec.{ltb, leb, eqb}
use lib.ListN.{length, get_or, length-map}
use borrow.Author.Tests.{ltb-true, lt-ltb, le-leb, eqb-true}
use Rattle.wire.specs.Bytes.{every}
use Rattle.wire.proofs.Bool.{and-true, true_and}
use Rattle.wire.proofs.Places.{every_get_or, get_or_every}
use Rattle.transducer.specs.declared.Arc.{Arc}
use Rattle.transducer.specs.Format.{Transducer, states_good, finals_rise, sources_stay, order_good}
use Rattle.transducer.specs.Format.{labels_good, all_labels_good, weight_good, weights_good, Good}
use Rattle.transducer.specs.Path.{arc, no_arc}
use Rattle.transducer.specs.Weight.{no_weight}
use Rattle.transducer.proofs.Good.{Content, good_tests, tests_good, HeadRange, arcs_inside, arcs_light}
use Rattle.transducer.proofs.RoundTrip.{good_range}
use Rattle.transducer.proofs.Runs.{Within, good_within}
use Rattle.transducer.proofs.Weights.{none_good}
use Rattle.derived.specs.Reversed.{reversed_arc, arcs_into, arcs_by_target, origins_reversed, reversed}
use Rattle.derived.proofs.ReversedOrder.{length_origins, origin_below, into_leads, by_target_leads}

abbrev all_reversed : Transducer → List ℕ → List Arc
all_reversed t l = map (λ i. reversed_arc (arc t i)) l

-- The sources never fall

stay_same : (t : Transducer) (floor n m : ℕ) (l : List ℕ) → floor ≤ n → every (λ i. ltb i m && eqb (arc t i).target n) l ≡ true
    → sources_stay floor (all_reversed t l) ≡ true
unfolding every sources_stay reversed_arc
stay_same t floor n m [] h e = refl
stay_same t floor n m (i ∷ l) h e =
    let p = and-true (ltb i m && eqb (arc t i).target n) (every (λ i. ltb i m && eqb (arc t i).target n) l) e in
    let q = and-true (ltb i m) (eqb (arc t i).target n) p.0 in
    let same : (arc t i).target ≡ n = eqb-true (arc t i).target n q.1 in
    true_and (leb floor (arc t i).target) (sources_stay (arc t i).target (all_reversed t l)) (le-leb floor (arc t i).target (omega arith))
    (stay_same t (arc t i).target n m l (omega arith) p.1)

stay_append : (t : Transducer) (floor n m : ℕ) (l r : List ℕ) → floor ≤ n → sources_stay floor (all_reversed t l) ≡ true
    → every (λ i. ltb i m && ltb (arc t i).target n) l ≡ true → every (λ i. ltb i m && eqb (arc t i).target n) r ≡ true
    → sources_stay floor (all_reversed t (l ++ r)) ≡ true
unfolding every sources_stay reversed_arc
stay_append t floor n m [] r h s e f = stay_same t floor n m r h f
stay_append t floor n m (i ∷ l) r h s e f =
    let p = and-true (leb floor (arc t i).target) (sources_stay (arc t i).target (all_reversed t l)) s in
    let q = and-true (ltb i m && ltb (arc t i).target n) (every (λ i. ltb i m && ltb (arc t i).target n) l) e in
    let b : (arc t i).target < n = ltb-true (arc t i).target n (and-true (ltb i m) (ltb (arc t i).target n) q.0).1 in
    true_and (leb floor (arc t i).target) (sources_stay (arc t i).target (all_reversed t (l ++ r))) p.0
    (stay_append t (arc t i).target n m l r (omega arith) p.1 q.1 f)

stays : (t : Transducer) (n : ℕ) → sources_stay 0 (all_reversed t (arcs_by_target t n)) ≡ true
unfolding arcs_by_target sources_stay
stays t zero = refl
stays t (suc n) =
    let m : ℕ = length t.arcs in
    stay_append t 0 n m (arcs_by_target t n) (arcs_into t n m) (omega arith) (stays t n) (by_target_leads t n) (into_leads t n m)

-- The arc of a number.
pub arc_reversed : (t : Transducer) (s j : ℕ) → j < length (origins_reversed t) → arc (reversed t s) j ≡ reversed_arc (arc t (get_or (origins_reversed t) j 0))
unfolding reversed arc
arc_reversed t s j h = at (origins_reversed t) j h
  where
    at : (l : List ℕ) (j : ℕ) → j < length l → get_or (all_reversed t l) j no_arc ≡ reversed_arc (arc t (get_or l j 0))
    at [] j h = absurd (omega arith)
    at (i ∷ l) zero h = refl
    at (i ∷ l) (suc j) h = at l j (omega arith)

pub length_reversed : (t : Transducer) (s : ℕ) → Within t → length (reversed t s).arcs ≡ length t.arcs
unfolding reversed
length_reversed t s w = length-map (origins_reversed t) (λ i. reversed_arc (arc t i)) ∙ length_origins t w

-- What a test of each arc shows of each reversed arc.
every_reversed : (t : Transducer) (s : ℕ) (p q : Arc → Bool) → ((a : Arc) → p a ≡ true → q (reversed_arc a) ≡ true) → every p t.arcs ≡ true
    → every q (reversed t s).arcs ≡ true
unfolding reversed arc
every_reversed t s p q so h =
    get_or_every q (reversed t s).arcs no_arc
    (λ j l.
    let b : j < length (origins_reversed t) = omega (arith, l, length-map (origins_reversed t) (λ i. reversed_arc (arc t i))) in
    let i : ℕ = get_or (origins_reversed t) j 0 in
    rw (arc_reversed t s j b) (so (arc t i) (every_get_or p t.arcs i no_arc h (origin_below t j b))))

module _ (t : Transducer) (s : ℕ) (g : Good t) (b : s < t.states) where
  c : Content t
  c = good_tests t g

  states_are : states_good (reversed t s) ≡ true
  unfolding states_good every reversed_arc reversed
  states_are =
      let n : ℕ = t.states in
      true_and (ltb s n && true) (every (λ a. ltb a.source n && ltb a.target n) (reversed t s).arcs) (true_and (ltb s n) true (lt-ltb s n b) refl)
      (every_reversed t s (λ a. ltb a.source n && ltb a.target n) (λ a. ltb a.source n && ltb a.target n)
      (λ a h. let e = and-true (ltb a.source n) (ltb a.target n) h in true_and (ltb a.target n) (ltb a.source n) e.1 e.0)
      (arcs_inside t c))

  order_is : order_good (reversed t s) ≡ true
  unfolding order_good finals_rise reversed origins_reversed
  order_is =
      true_and (leb 0 s && true) (sources_stay 0 (all_reversed t (arcs_by_target t t.states)))
      (true_and (leb 0 s) true (le-leb 0 s (omega arith)) refl) (stays t t.states)

  labels_are : all_labels_good (reversed t s) ≡ true
  unfolding all_labels_good reversed_arc
  labels_are = every_reversed t s (λ a. labels_good a.input a.output) (λ a. labels_good a.input a.output) (λ a h. h) c.labels

  weights_are : weights_good (reversed t s) ≡ true
  unfolding weights_good every reversed_arc reversed
  weights_are =
      true_and (weight_good no_weight && true) (every (λ a. weight_good a.weight) (reversed t s).arcs)
      (true_and (weight_good no_weight) true none_good refl)
      (every_reversed t s (λ a. weight_good a.weight) (λ a. weight_good a.weight) (λ a h. h) (arcs_light t c))

  pub reversed_good : Good (reversed t s)
  unfolding reversed
  reversed_good =
      let r : HeadRange t.states (length t.arcs) (length t.finals) t.start = good_range t g in
      tests_good (reversed t s)
      (record {
        some = r.some;
        states = r.states;
        arcs = omega (arith, r.arcs, length_reversed t s (good_within t g));
        finals = omega (arith, r.some);
        start = r.start;
      })
      (record { states = states_are; order = order_is; labels = labels_are; weights = weights_are })
