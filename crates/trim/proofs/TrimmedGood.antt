-- What is trimmed can be written where what it comes from can. Assumes nothing.
use mathlib.Core.Path.{◌≡◌, refl, ap, ◌∙◌}
use mathlib.Core.Bool.{Bool, true, false, ◌&&◌, cond}
use mathlib.Core.List.{List, [], ◌∷◌}
use Prim.Native.Nat.{ℕ, ◌+◌, ◌≤◌, ◌<◌}
use native.Mathlib.Numerals.{add-one}
use native.Mathlib.Omega.{arith}
use lib.Dec.{ltb, leb}
use lib.ListN.{length}
use borrow.Author.Tests.{ltb-true, lt-ltb, leb-true, le-leb}
use Rattle.wire.specs.Bytes.{every}
use Rattle.wire.proofs.Bool.{and-true, true_and}
use Rattle.transducer.specs.declared.Arc.{Arc}
use Rattle.transducer.specs.declared.Final.{Final}
use Rattle.transducer.specs.Format.{Transducer, head_good, states_good, finals_rise, sources_stay, order_good}
use Rattle.transducer.specs.Format.{any, labels_good, all_labels_good, weight_good, weights_good}
use Rattle.transducer.specs.Each.{plain}
use Rattle.transducer.specs.Format.{first_of, content_refusal, Good}
use Rattle.transducer.proofs.Good.{Content, good_tests, tests_good}
use Rattle.transducer.proofs.RoundTrip.{good_range}
use Rattle.trim.specs.Trim.{useful, arc_useful, renumbered, moved, kept_arcs, kept_finals, trimmed}
use Rattle.reach.proofs.Counted.{count_most}
use Rattle.trim.proofs.Kept.{renumbered_count, renumbered_rises, renumbered_before, renumbered_next}
use Rattle.trim.proofs.Passing.{passing_few, every_passing, passing_stay}
use Rattle.trim.proofs.Trimmed.{kept, lone, trimmed_kept, trimmed_lone}

unfoldable pub moved_final : Transducer → Final → Final
moved_final t f = record { state = renumbered t f.state; weight = f.weight }

-- A test of each final that is kept.
pub every_kept_final : (t : Transducer) (p q : Final → Bool) (l : List Final)
    → ((f : Final) → useful t f.state ≡ true → p f ≡ true → q (moved_final t f) ≡ true) → every p l ≡ true → every q (kept_finals t l) ≡ true
unfolding every kept_finals moved_final
every_kept_final t p q [] turn h = refl
every_kept_final t p q (f ∷ l) turn h = on (useful t f.state) refl (every_kept_final t p q l turn (and-true (p f) (every p l) h).1)
  where
    on : (b : Bool) → useful t f.state ≡ b → every q (kept_finals t l) ≡ true
        → every q (cond b (moved_final t f ∷ kept_finals t l) (kept_finals t l)) ≡ true
    on true u more = true_and (q (moved_final t f)) (every q (kept_finals t l)) (turn f u (and-true (p f) (every p l) h).0) more
    on false u more = more

-- Order

pub rise_lower : (floor floor' : ℕ) (fs : List Final) → floor' ≤ floor → finals_rise floor fs ≡ true → finals_rise floor' fs ≡ true
unfolding finals_rise
rise_lower floor floor' [] l h = refl
rise_lower floor floor' (f ∷ fs) l h =
    let e = and-true (leb floor f.state) (finals_rise (f.state + 1) fs) h in
    true_and (leb floor' f.state) (finals_rise (f.state + 1) fs) (le-leb floor' f.state (omega (arith, leb-true floor f.state e.0))) e.1

pub kept_finals_rise : (t : Transducer) (floor : ℕ) (fs : List Final) → finals_rise floor fs ≡ true → finals_rise (renumbered t floor) (kept_finals t fs) ≡ true
unfolding finals_rise kept_finals moved_final
kept_finals_rise t floor [] h = refl
kept_finals_rise t floor (f ∷ fs) h = on (useful t f.state) refl (kept_finals_rise t (f.state + 1) fs e.1)
  where
    e : (leb floor f.state ≡ true) × (finals_rise (f.state + 1) fs ≡ true)
    e = and-true (leb floor f.state) (finals_rise (f.state + 1) fs) h

    up : renumbered t floor ≤ renumbered t f.state
    up = renumbered_rises t floor f.state (leb-true floor f.state e.0)

    on : (b : Bool) → useful t f.state ≡ b → finals_rise (renumbered t (f.state + 1)) (kept_finals t fs) ≡ true
        → finals_rise (renumbered t floor) (cond b (moved_final t f ∷ kept_finals t fs) (kept_finals t fs)) ≡ true
    on true u more =
        let next : renumbered t (f.state + 1) ≡ renumbered t f.state + 1 = ap (renumbered t) (add-one f.state) ∙ renumbered_next t f.state u in
        true_and (leb (renumbered t floor) (renumbered t f.state)) (finals_rise (renumbered t f.state + 1) (kept_finals t fs))
        (le-leb (renumbered t floor) (renumbered t f.state) up) (rw next at more)
    on false u more =
        rise_lower (renumbered t (f.state + 1)) (renumbered t floor) (kept_finals t fs)
        (omega (arith, up, renumbered_rises t f.state (f.state + 1) (omega arith))) more

kept_sources_stay : (t : Transducer) (floor : ℕ) (l : List Arc) → sources_stay floor l ≡ true → sources_stay (renumbered t floor) (kept_arcs t l) ≡ true
unfolding moved
kept_sources_stay t floor l h = passing_stay (arc_useful t) (moved t) (renumbered t) (renumbered_rises t) (λ a. refl) floor l h

-- Final states that rise below a bound are no more than it.
pub length_rise : (floor n : ℕ) (fs : List Final) → floor ≤ n → finals_rise floor fs ≡ true → every (λ f. ltb f.state n) fs ≡ true → floor + length fs ≤ n
unfolding finals_rise every
length_rise floor n [] l h b = omega arith
length_rise floor n (f ∷ fs) l h b =
    let e = and-true (leb floor f.state) (finals_rise (f.state + 1) fs) h in
    let d = and-true (ltb f.state n) (every (λ f. ltb f.state n) fs) b in
    let low : floor ≤ f.state = leb-true floor f.state e.0 in
    let high : f.state < n = ltb-true f.state n d.0 in
    omega (arith, length_rise (f.state + 1) n fs (omega arith) e.1 d.1)

pub few_finals : (t : Transducer) → states_good t ≡ true → order_good t ≡ true → length t.finals ≤ t.states
unfolding states_good order_good
few_finals t h o =
    let n : ℕ = t.states in
    let e = and-true (every (λ f. ltb f.state n) t.finals) (every (λ a. ltb a.source n && ltb a.target n) t.arcs) h in
    let r = and-true (finals_rise 0 t.finals) (sources_stay 0 t.arcs) o in
    omega (arith, length_rise 0 n t.finals (omega arith) r.0 e.0)

-- All of it

kept_states_good : (t : Transducer) → states_good t ≡ true → states_good (kept t) ≡ true
unfolding states_good kept moved moved_final arc_useful
kept_states_good t h =
    let n : ℕ = t.states in
    let n' : ℕ = renumbered t t.states in
    let below : (s : ℕ) → useful t s ≡ true → ltb s n ≡ true → ltb (renumbered t s) n' ≡ true =
    λ s u l. lt-ltb (renumbered t s) n' (renumbered_before t s n (ltb-true s n l) u) in
    let both : (a : Arc) → arc_useful t a ≡ true → ltb a.source n && ltb a.target n ≡ true
    → ltb (renumbered t a.source) n' && ltb (renumbered t a.target) n' ≡ true =
    λ a u l. let v = and-true (useful t a.source) (useful t a.target) u in
    let m = and-true (ltb a.source n) (ltb a.target n) l in
    true_and (ltb (renumbered t a.source) n') (ltb (renumbered t a.target) n') (below a.source v.0 m.0) (below a.target v.1 m.1) in
    let e = and-true (every (λ f. ltb f.state n) t.finals) (every (λ a. ltb a.source n && ltb a.target n) t.arcs) h in
    true_and (every (λ f. ltb f.state n') (kept_finals t t.finals))
    (every (λ a. ltb a.source n' && ltb a.target n') (kept_arcs t t.arcs))
    (every_kept_final t (λ f. ltb f.state n) (λ f. ltb f.state n') t.finals (λ f. below f.state) e.0)
    (every_passing (arc_useful t) (moved t) (λ a. ltb a.source n && ltb a.target n) (λ a. ltb a.source n' && ltb a.target n') t.arcs both e.1)

kept_order_good : (t : Transducer) → order_good t ≡ true → order_good (kept t) ≡ true
unfolding order_good kept renumbered
kept_order_good t h =
    let e = and-true (finals_rise 0 t.finals) (sources_stay 0 t.arcs) h in
    true_and (finals_rise 0 (kept_finals t t.finals)) (sources_stay 0 (kept_arcs t t.arcs)) (kept_finals_rise t 0 t.finals e.0)
    (kept_sources_stay t 0 t.arcs e.1)

kept_labels_good : (t : Transducer) → all_labels_good t ≡ true → all_labels_good (kept t) ≡ true
unfolding all_labels_good kept moved
kept_labels_good t h =
    every_passing (arc_useful t) (moved t) (λ a. labels_good a.input a.output) (λ a. labels_good a.input a.output) t.arcs (λ a u g. g) h

kept_plain : (t : Transducer) → plain t ≡ true → plain (kept t) ≡ true
unfolding plain kept moved
kept_plain t h =
    let p : Arc → Bool = λ a. ltb a.input any && ltb a.output any in
    every_passing (arc_useful t) (moved t) p p t.arcs (λ a u g. g) h

kept_weights_good : (t : Transducer) → weights_good t ≡ true → weights_good (kept t) ≡ true
unfolding weights_good kept moved moved_final
kept_weights_good t h =
    let e = and-true (every (λ f. weight_good f.weight) t.finals) (every (λ a. weight_good a.weight) t.arcs) h in
    true_and (every (λ f. weight_good f.weight) (kept_finals t t.finals)) (every (λ a. weight_good a.weight) (kept_arcs t t.arcs))
    (every_kept_final t (λ f. weight_good f.weight) (λ f. weight_good f.weight) t.finals (λ f u g. g) e.0)
    (every_passing (arc_useful t) (moved t) (λ a. weight_good a.weight) (λ a. weight_good a.weight) t.arcs (λ a u g. g) e.1)

pub kept_good : (t : Transducer) → useful t t.start ≡ true → Good t → Good (kept t)
unfolding kept
kept_good t u g =
    let p : Content t = good_tests t g in
    let r = good_range t g in
    let first : renumbered t t.start < renumbered t t.states = renumbered_before t t.start t.states r.start u in
    let most : renumbered t t.states ≤ t.states = rw renumbered_count (count_most t.states (useful t)) in
    let states : states_good (kept t) ≡ true = kept_states_good t p.states in
    let order : order_good (kept t) ≡ true = kept_order_good t p.order in
    tests_good (kept t)
    (record {
      some = omega arith;
      states = omega (arith, r.states);
      arcs = omega (arith, r.arcs, passing_few (arc_useful t) (moved t) t.arcs);
      finals = few_finals (kept t) states order;
      start = first;
    })
    (record { states = states; order = order; labels = kept_labels_good t p.labels; weights = kept_weights_good t p.weights })

lone_good : Good lone
unfolding lone head_good content_refusal first_of states_good order_good all_labels_good weights_good every finals_rise sources_stay
lone_good = record { head = refl; content = refl }

pub trimmed_good : (t : Transducer) → Good t → Good (trimmed t)
trimmed_good t g = on (useful t t.start) refl
  where
    on : (b : Bool) → useful t t.start ≡ b → Good (trimmed t)
    on true u = rw (trimmed_kept t u) (kept_good t u g)
    on false u = rw (trimmed_lone t u) lone_good

lone_plain : plain lone ≡ true
unfolding lone plain every
lone_plain = refl

-- Trimming brings no 65,535 in.
pub trimmed_plain : (t : Transducer) → plain t ≡ true → plain (trimmed t) ≡ true
trimmed_plain t h = on (useful t t.start) refl
  where
    on : (b : Bool) → useful t t.start ≡ b → plain (trimmed t) ≡ true
    on true u = rw (trimmed_kept t u) (kept_plain t h)
    on false u = rw (trimmed_lone t u) lone_plain
