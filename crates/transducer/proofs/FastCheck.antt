-- The fast check of arcs: their fields gathered (`Fields`), their weights by one comparison.
--     good_up_to                                          the bounds of the fast check; the only law here that knows which labels are good
--     weight_within                                       the one comparison of a weight's bits
--     arc_passes, arcs_checked_snoc                       an arc that passes each test, and one more arc at the end
--     under_none, under_next                              no target is below that of the gathered fields
--     fast_checked_first, fast_checked_next, fast_checked_stop           the loop
--     fast_checked_lower                                       a lower weight than any before
-- Assumes nothing.
use Rattle.std.proofs.Common.{◌≡◌, ℕ, zero, suc, ◌+◌, ◌-◌, ◌*◌, ◌%◌, ◌^◌, ◌<◌, ◌≤◌, Bool, true, false, eqb, ltb, List, Some, None, pos, sym, refl, ap, ◌∙◌, add-zero, mul-zero, mul-suc, add-one, arith, w32, to_z, ltb-false, ltb-true, lt-ltb, eq-eqb, eqb-true, le-leb}
use mathlib.Core.Bool.{and-true}
use lib.Bits.{bit_or, bit_and}
use mir.Facts.{to_z_pos}
use borrow.Author.Tests.{eqb-false}
use Rattle.wire.specs.Bytes.{Bytes, two, four}
use Rattle.wire.proofs.Bool.{by_test, clash}
use Rattle.wire.proofs.Ints.{sums, minus}
use Rattle.wire.proofs.Signed.{upper_is}
use Rattle.transducer.specs.declared.Arc.{Arc}
use Rattle.transducer.specs.declared.Checks.{Checks}
use Rattle.transducer.specs.declared.check.FastCheck.{FastCheck}
use Rattle.transducer.specs.Format.{weight_limit, barred, arc_bytes, min_weight, max_weight, weight_good, weight_at, labels_good, arc_at}
use Rattle.transducer.specs.Check.{arc_checked, arcs_checked, with_floor, arc_word, eight, input_of, output_of, target_of}
use Rattle.transducer.specs.Check.{GoodUpTo, GoodFields, Rows, Between, Passing, NoneUnder, FastChecked, GoesOn, NoneBelow, EachUp}
use Rattle.transducer.specs.Check.{EachWrites, EachNamed, FastCheckSays}
use Rattle.transducer.specs.Weight.{Weight, rebate, AtMost}
use Rattle.transducer.proofs.Labels.{unbarred_good}
use Rattle.transducer.proofs.Weights.{good_range, range_good, most_trans}
use Rattle.transducer.proofs.Fields.{or_input_l, or_input_r, or_output_l, or_output_r, or_target_l, or_target_r, and_target_l, and_target_r}
use Rattle.transducer.proofs.Fields.{and_output_l, and_output_r}
use Rattle.transducer.proofs.Fields.{eight_input, eight_output, eight_target}

-- What is good up to bounds

pub good_up_to : (any : ℕ) → input_of any < barred → output_of any < barred → GoodUpTo any
good_up_to any low high =
    record {
      labels_are = λ input output p q. unbarred_good input output (record { read = omega (arith, p, low); written = omega (arith, q, high) });
      no_any = low;
    }

good_before : {n : ℕ} {each : Bool} (any x : ℕ) → GoodFields (bit_or any x) n each → GoodFields any n each
good_before any x g =
    record {
      labels = record {
        labels_are = λ input output p q. g.labels.labels_are input output (omega (arith, p, or_input_l any x)) (omega (arith, q, or_output_l any x));
        no_any = omega (arith, g.labels.no_any, or_input_l any x);
      };
      targets = λ e. omega (arith, g.targets e, or_target_l any x);
    }

-- Bits are those of a weight from -below on and not too high: their sum with `below`, modulo 2^32, is small.
pub weight_within : (bits below : ℕ) → bits < 2 ^ 32 → below ≤ weight_limit → (bits + below) % 2 ^ 32 ≤ weight_limit + below →
    Between (rebate below) (to_z w32 bits) max_weight
weight_within bits below fits small h =
    by_test (ltb (bits + below) 4294967296)
    (λ e.
    let l : bits + below < 4294967296 = ltb-true (bits + below) 4294967296 e in
    let low : bits < 2 ^ 31 = omega (arith, h, l, small) in
    rw (to_z_pos w32 low)
    (record { not_below = omega (arith, sums, minus (pos below)); not_above = omega (arith, sums, h, l) }))
    (λ e.
    let l : 4294967296 ≤ bits + below = ltb-false (bits + below) 4294967296 e in
    rw (upper_is bits fits (omega (arith, l, small)))
    (record { not_below = omega (arith, sums, minus (pos below), l, fits); not_above = omega (arith, sums) }))

-- Arcs

pub arc_passes : (n word last : ℕ) (a : Arc) (c : Checks) → word ≡ arc_word → a.source < n → a.target < n → last ≤ a.source →
    labels_good a.input a.output ≡ true → weight_good a.weight ≡ true → arc_checked n word a (with_floor last c) ≡ with_floor a.source c
unfolding arc_checked with_floor
arc_passes n word last a c head source target order labels weight =
    rw (
      eq-eqb word arc_word head,
      lt-ltb a.source n source,
      lt-ltb a.target n target,
      le-leb last a.source order,
      labels,
      weight,
      and-true c.heads,
      and-true c.states,
      and-true c.order,
      and-true c.labels,
      and-true c.weights,
    )

pub arcs_checked_snoc : (k at s n : ℕ) (word : ℕ → ℕ) (arc : ℕ → Arc) (c : Checks) →
    arcs_checked (suc k) at s n word arc c ≡ arc_checked n (word (at + s * k)) (arc (at + s * k)) (arcs_checked k at s n word arc c)
unfolding arcs_checked
arcs_checked_snoc zero at s n word arc c =
    ap (λ (p : ℕ). arc_checked n (word p) (arc p) c) (sym (ap (λ (m : ℕ). at + m) (mul-zero s) ∙ add-zero at))
arcs_checked_snoc (suc k) at s n word arc c =
    let d = arc_checked n (word at) (arc at) c in
    let e : at + s + s * k ≡ at + s * suc k = omega (arith, mul-suc s k) in
    arcs_checked_snoc k (at + s) s n word arc d ∙ ap (λ (p : ℕ). arc_checked n (word p) (arc p) (arcs_checked k (at + s) s n word arc d)) e

-- The loop

pub none_below_good : (bs : List ℕ) (at count : ℕ) → NoneBelow bs at count min_weight
none_below_good bs at count = record { light = λ k h good. (good_range (arc_at bs (at + arc_bytes * k)).weight good).low }

pub says_unsure : (bs : List ℕ) (at count n floor : ℕ) (g : FastCheck) → g.last ≡ None → g.least ≡ min_weight → g.top_sorted ≡ false →
    g.no_output_epsilon ≡ false → FastCheckSays bs at count n floor g
says_unsure bs at count n floor g e f not-up not-writes =
    record {
      plain = record { all_pass = λ last h c s. cc };
      light = rw f (none_below_good bs at count);
      top_sorted = λ u. clash u not-up;
      no_output_epsilon = λ u. clash u not-writes;
      has_no_any_input = λ h. clash h (rw e refl);
    }

-- No target and no output is below that of fields gathered by bit_and.

pub under_none : (bs : List ℕ) (at all : ℕ) → NoneUnder bs at all at
under_none bs at all = record { leads = λ k h. absurd (omega (arith, h)); outputs = λ k h. absurd (omega (arith, h)) }

pub under_next : {bs : List ℕ} {at all place : ℕ} (arcs : ℕ) → Bytes bs → place ≡ at + arc_bytes * arcs → NoneUnder bs at all place →
    NoneUnder bs at (bit_and all (eight bs (place + 4))) (place + 16)
unfolding arc_at
under_next {bs} {at} {all} {place} arcs b there under =
    record {
      leads = λ k h. by_test (eqb k arcs) (this k) (before k h);
      outputs = λ k h. by_test (eqb k arcs) (this_output k) (before_output k h);
    }
  where
    x : ℕ
    x = eight bs (place + 4)

    this : (k : ℕ) → eqb k arcs ≡ true → target_of (bit_and all x) ≤ two bs (at + arc_bytes * k + 10)
    this k e =
        let same : at + arc_bytes * k + 10 ≡ place + 4 + 6 = omega (arith, eqb-true k arcs e, there) in
        rw (same, ← eight_target bs (place + 4) b) (and_target_r all x)

    before : (k : ℕ) → at + arc_bytes * k < place + 16 → eqb k arcs ≡ false → target_of (bit_and all x) ≤ two bs (at + arc_bytes * k + 10)
    before k h e =
        omega (arith, under.leads k (omega (arith, h, there, eqb-false k arcs e)), and_target_l all x)

    this_output : (k : ℕ) → eqb k arcs ≡ true → output_of (bit_and all x) ≤ two bs (at + arc_bytes * k + 8)
    this_output k e =
        let same : at + arc_bytes * k + 8 ≡ place + 4 + 4 = omega (arith, eqb-true k arcs e, there) in
        rw (same, ← eight_output bs (place + 4) b) (and_output_r all x)

    before_output : (k : ℕ) → at + arc_bytes * k < place + 16 → eqb k arcs ≡ false → output_of (bit_and all x) ≤ two bs (at + arc_bytes * k + 8)
    before_output k h e =
        omega (arith, under.outputs k (omega (arith, h, there, eqb-false k arcs e)), and_output_l all x)

-- The loop

pub fast_checked_first : (bs : List ℕ) (at count n : ℕ) (each : Bool) (floor any all : ℕ) (least : Weight) →
    FastChecked bs at count n each floor floor any all least at
unfolding arcs_checked with_floor
fast_checked_first bs at count n each floor any all least =
    record {
      arcs = 0;
      within = omega arith;
      there = omega arith;
      passing = λ _ _ c e. rw (sym e);
      light = λ k h. absurd (omega arith);
      steps = λ k h. absurd (omega arith);
      inputs = λ k h. absurd (omega arith);
      under = under_none bs at all;
    }

module _ {bs : List ℕ} {at count n : ℕ} {each : Bool} {floor last any all place : ℕ} {least : Weight}
    (g : FastChecked bs at count n each floor last any all least place) where
  passing_more : (source : ℕ) → Bytes bs → four bs place ≡ arc_word → source ≡ two bs (place + 4) → last ≤ source →
      (each ≡ true → two bs (place + 10) < n) → weight_good (weight_at bs (place + 12)) ≡ true → source < n →
      GoodFields (bit_or any (eight bs (place + 4))) n each → (c : Checks) → c.floor ≡ floor →
      arcs_checked (g.arcs + 1) at 16 n (four bs) (arc_at bs) c ≡ with_floor source c
  unfolding arc_at
  passing_more source b word from order tested weight below good c e =
      let x : ℕ = eight bs (place + 4) in
      let i : ℕ = g.arcs in
      let earlier : arcs_checked i at 16 n (four bs) (arc_at bs) c ≡ with_floor last c =
      g.passing (omega (arith, order, below)) (good_before any x good) c e in
      let input : two bs (place + 6) ≤ input_of (bit_or any x) =
      let at_input : place + 4 + 2 ≡ place + 6 = omega arith in
      rw (← at_input, ← eight_input bs (place + 4) b) (or_input_r any x) in
      let output : two bs (place + 8) ≤ output_of (bit_or any x) =
      let at_output : place + 4 + 4 ≡ place + 8 = omega arith in
      rw (← at_output, ← eight_output bs (place + 4) b) (or_output_r any x) in
      let reached : two bs (place + 10) ≤ target_of (bit_or any x) =
      let at_target : place + 4 + 6 ≡ place + 10 = omega arith in
      rw (← at_target, ← eight_target bs (place + 4) b) (or_target_r any x) in
      let marks : labels_good (two bs (place + 6)) (two bs (place + 8)) ≡ true =
      good.labels.labels_are (two bs (place + 6)) (two bs (place + 8)) input output in
      let target : two bs (place + 10) < n = by_test each tested (λ f. omega (arith, reached, good.targets f)) in
      let this : arc_checked n (four bs place) (arc_at bs place) (with_floor last c) ≡ with_floor (two bs (place + 4)) c =
      arc_passes n (four bs place) last (arc_at bs place) c word (omega (arith, from, below)) target (omega (arith, from, order)) marks weight in
      rw (add-one i, arcs_checked_snoc i at 16 n (four bs) (arc_at bs) c, ← g.there, earlier, from) this

  light_more : AtMost least (weight_at bs (place + 12)) → (k : ℕ) → k < g.arcs + 1 → AtMost least (arc_at bs (at + arc_bytes * k)).weight
  unfolding arc_at
  light_more this k h = on (eqb k g.arcs) refl
    where
      on : (b : Bool) → eqb k g.arcs ≡ b → AtMost least (weight_at bs (at + arc_bytes * k + 12))
      on true e =
          let same : at + arc_bytes * k ≡ place = omega (arith, eqb-true k g.arcs e, g.there) in
          rw same this
      on false e = g.light k (omega (arith, h, eqb-false k g.arcs e))

  steps_more : (source : ℕ) → source ≡ two bs (place + 4) → last ≤ source → (k : ℕ) → k < g.arcs + 1 → (arc_at bs (at + arc_bytes * k)).source ≤ source
  unfolding arc_at
  steps_more source from order k h = on (eqb k g.arcs) refl
    where
      on : (b : Bool) → eqb k g.arcs ≡ b → two bs (at + arc_bytes * k + 4) ≤ source
      on true e =
          let same : at + arc_bytes * k ≡ place = omega (arith, eqb-true k g.arcs e, g.there) in
          rw same (omega (arith, from))
      on false e = omega (arith, order, g.steps k (omega (arith, h, eqb-false k g.arcs e)))

  inputs_more : Bytes bs → (k : ℕ) → k < g.arcs + 1 → (arc_at bs (at + arc_bytes * k)).input ≤ input_of (bit_or any (eight bs (place + 4)))
  unfolding arc_at
  inputs_more b k h = on (eqb k g.arcs) refl
    where
      x : ℕ
      x = eight bs (place + 4)

      on : (t : Bool) → eqb k g.arcs ≡ t → two bs (at + arc_bytes * k + 6) ≤ input_of (bit_or any x)
      on true e =
          let same : at + arc_bytes * k + 6 ≡ place + 4 + 2 = omega (arith, eqb-true k g.arcs e, g.there) in
          rw (same, ← eight_input bs (place + 4) b) (or_input_r any x)
      on false e = omega (arith, g.inputs k (omega (arith, h, eqb-false k g.arcs e)), or_input_l any x)

  -- One more arc.
  pub fast_checked_next : (source : ℕ) → Bytes bs → place < at + arc_bytes * count → AtMost min_weight least → Passing bs place n each last least source →
      FastChecked bs at count n each floor source (bit_or any (eight bs (place + 4))) (bit_and all (eight bs (place + 4))) least (place + 16)
  fast_checked_next source b h low p =
      let w : Weight = weight_at bs (place + 12) in
      let good : weight_good w ≡ true =
      range_good w (record { low = most_trans min_weight least w low p.weight.not_below; high = p.weight.not_above }) in
      record {
        arcs = g.arcs + 1;
        within = omega (arith, h, g.there);
        there = omega (arith, g.there);
        passing = passing_more source b p.head p.source_is p.order p.target good;
        light = light_more p.weight.not_below;
        steps = steps_more source p.source_is p.order;
        inputs = inputs_more b;
        under = under_next g.arcs b g.there g.under;
      }

  -- The arcs from here on.
  pub fast_checked_rest : Rows place (at + arc_bytes * count)
  fast_checked_rest = record { many = count - g.arcs; end_is = omega (arith, g.there, g.within) }

  pub fast_checked_lower : (lower : Weight) → AtMost lower least → FastChecked bs at count n each floor last any all lower place
  fast_checked_lower lower h =
      record {
        arcs = g.arcs;
        within = g.within;
        there = g.there;
        passing = g.passing;
        light = λ k l. most_trans lower least (arc_at bs (at + arc_bytes * k)).weight h (g.light k l);
        steps = g.steps;
        inputs = g.inputs;
        under = g.under;
      }

  -- All arcs are seen.
  module _ (h : at + arc_bytes * count ≤ place) where
    seen_all : g.arcs ≡ count
    seen_all = omega (arith, h, g.within, g.there)

    seen_light : NoneBelow bs at count least
    seen_light = record { light = λ k l _. g.light k (omega (arith, l, seen_all)) }

    seen_up : last < target_of all → EachUp bs at count
    seen_up u =
        record { rises = λ k l. omega (arith, g.steps k (omega (arith, l, seen_all)), u, g.under.leads k (omega (arith, l, seen_all, g.there))) }

    seen_writes : 0 < output_of all → EachWrites bs at count
    seen_writes u = record { some = λ k l. omega (arith, u, g.under.outputs k (omega (arith, l, seen_all, g.there))) }

    seen_named : input_of any < barred → EachNamed bs at count
    seen_named u = record { no_any = λ k l. omega (arith, u, g.inputs k (omega (arith, l, seen_all))) }

    pub fast_checked_stop : last < n → GoodFields any n each → (r : FastCheck) → r.last ≡ Some last → r.least ≡ least → (r.top_sorted ≡ true
        → last < target_of all) →
        (r.no_output_epsilon ≡ true → 0 < output_of all) → FastCheckSays bs at count n floor r
    fast_checked_stop below good r e f up writes =
        record {
          plain = record {
            all_pass = λ known h c s. let same : known ≡ last = cc in rw (same, ← seen_all) (g.passing below good c s);
          };
          light = rw f seen_light;
          top_sorted = λ u. seen_up (up u);
          no_output_epsilon = λ u. seen_writes (writes u);
          has_no_any_input = λ _. seen_named good.labels.no_any;
        }

    -- The least weight is known where the labels are not.
    pub fast_checked_unsure : (r : FastCheck) → r.last ≡ None → r.least ≡ least → r.top_sorted ≡ false → r.no_output_epsilon ≡ false
        → FastCheckSays bs at count n floor r
    fast_checked_unsure r e f not-up not-writes =
        record {
          plain = record { all_pass = λ known h c s. cc };
          light = rw f seen_light;
          top_sorted = λ u. clash u not-up;
          no_output_epsilon = λ u. clash u not-writes;
          has_no_any_input = λ h. clash h (rw e refl);
        }

-- A run, of which the arcs up to `place` are seen.
pub record RunSeen (bs : List ℕ) (from end n : ℕ) (each : Bool) (last any all : ℕ) (least : Weight) (before most lowest place : ℕ) : Type 0 where
  pub rows : Rows place end
  pub goes_on : GoesOn bs from end n each last any all least before most lowest place

pub running_first : {bs : List ℕ} {from end n : ℕ} {each : Bool} {last any all : ℕ} {least : Weight} → Rows from end →
    RunSeen bs from end n each last any all least last any all from
running_first rows = record { rows = rows; goes_on = λ at count floor e g. g }

module _ {bs : List ℕ} {from end n : ℕ} {each : Bool} {last any all : ℕ} {least : Weight} {before most lowest place : ℕ}
    (r : RunSeen bs from end n each last any all least before most lowest place) (h : place < end) where
  pub running_room : place + 16 ≤ end
  running_room = omega (arith, h, r.rows.end_is)

  pub running_next : (source : ℕ) → Bytes bs → AtMost min_weight least → Passing bs place n each before least source →
      RunSeen bs from end n each last any all least source (bit_or most (eight bs (place + 4))) (bit_and lowest (eight bs (place + 4))) (place + 16)
  running_next source b low p =
      record {
        rows = record { many = r.rows.many - 1; end_is = omega (arith, h, r.rows.end_is) };
        goes_on = λ at count floor e g. fast_checked_next (r.goes_on at count floor e g) source b (rw e at h) low p;
      }

-- A run behind a run.
pub running_on : {bs : List ℕ} {from end n : ℕ} {each : Bool} {last any all : ℕ} {least : Weight} {before most lowest place last' any' all' place' : ℕ} →
    RunSeen bs from end n each last any all least before most lowest place → GoesOn bs place end n each before most lowest least last' any' all' place' →
    GoesOn bs from end n each last any all least last' any' all' place'
running_on r more at count floor e g = more at count floor e (r.goes_on at count floor e g)

-- What is known between two runs: no weight is lower than `below` below zero.
pub record Looking (bs : List ℕ) (at count n : ℕ) (each : Bool) (floor last any all below place : ℕ) : Type 0 where
  pub glanced : FastChecked bs at count n each floor last any all (rebate below) place
  pub small : below ≤ weight_limit

pub rebate_lower : (a b : ℕ) → a ≤ b → AtMost (rebate b) (rebate a)
rebate_lower a b h = omega (arith, sums, minus (pos a), minus (pos b))

pub rebate_good : (a : ℕ) → a ≤ weight_limit → AtMost min_weight (rebate a)
rebate_good a h = rebate_lower a weight_limit h
