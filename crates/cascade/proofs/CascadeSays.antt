-- The answers of the call with the table: which refusal it is, and what is said and left behind; one law for each answer. Assumes nothing.
use mathlib.Core.Path.{◌≡◌, refl, sym, ap, ◌∙◌}
use mathlib.Core.Bool.{Bool, true, false, cond}
use mathlib.Core.List.{List, [], ◌∷◌}
use Prim.Native.Nat.{ℕ, ◌-◌, ◌*◌, ◌≤◌, ◌<◌}
use native.Mathlib.Omega.{arith}
use lib.Dec.{ltb, leb, eqb}
use lib.ListN.{length, take, replicate, length-append}
use lib.Seq.{sets}
use borrow.Author.Tests.{eqb-true, eqb-false, ne_eqb, lt-ltb, le-ltb, leb-true, leb-false, ltb-true, ltb-false}
use Rattle.wire.specs.Bytes.{Bytes, filled}
use Rattle.wire.proofs.Bool.{by_test}
use Rattle.wire.proofs.Places.{take_told}
use Rattle.transducer.specs.declared.Head.{Head}
use Rattle.transducer.specs.Answer.{Written}
use Rattle.transducer.specs.Format.{max_arcs, max_bytes, max_origins, max_states, head_bytes, Transducer, Good, refusal, decode}
use Rattle.transducer.specs.Encode.{encode}
use Rattle.transducer.specs.Accepted.{head_in}
use Rattle.transducer.specs.Each.{has_no_any_input, any_refusal}
use Rattle.transducer.specs.Entry.{or_else}
use Rattle.transducer.proofs.Answers.{some_or_else, none_or_else, unless_some}
use Rattle.transducer.proofs.Fits.{plain_named}
use Rattle.transducer.proofs.Headed.{headed, head_inside}
use Rattle.transducer.proofs.Most.{refusal_most}
use Rattle.transducer.proofs.RoundTrip.{accepted_good, bytes_encode}
use Rattle.explore.specs.Explore.{built_refusal, left_behind, BuiltSays}
use Rattle.explore.specs.Walk.{all_origins, RefusedWith}
use Rattle.explore.proofs.LeftBehind.{built_late, early_keeps, late_keeps, behind_written, says_kept, says_zeroed}
use Rattle.explore.proofs.Parts.{length_steps}
use Rattle.explore.specs.Explore.{Step}
use Rattle.steps.specs.declared.Origin.{Origin}
use Rattle.steps.specs.declared.State.{State}
use Rattle.steps.specs.Steps.{same_state, steps, first_state, origin_pair}
use Rattle.compose.specs.Compose.{final_state, state_weight, composed}
use Rattle.compose.specs.Entry.{origin_pairs, compose_room, compose_refusal, ComposeSays}
use Rattle.compose.specs.Composition.{Composition}
use Rattle.compose.proofs.Called.{composable, composed_bytes_are, composed_fits, composition_read, composition_accepted}
use Rattle.lattice.specs.Apply.{string_good, applied}
use Rattle.lattice.specs.ApplyEntry.{apply_room, apply_refusal, application_refusal}
use Rattle.lattice.specs.Application.{Application}
use Rattle.lattice.specs.Lattice.{lattice, lattice_origins}
use Rattle.lattice.proofs.Called.{AppliedCall, application_of, table_good, appliable, lattice_origins_are}
use Rattle.lattice.proofs.Called.{applied_fits, applied_read, applied_good, applied_accepted}
use Rattle.lattice.proofs.LatticeGood.{lattice_plain}
use Rattle.lattice.proofs.Tracing.{refilled}
use Rattle.cascade.specs.Entry.{cascade, cascade_origins, tables_refusal, cascade_refusal, CascadeSays}
use Rattle.cascade.specs.Tracing.{left_traced, Unapplied}
use Rattle.cascade.proofs.Tracing.{length_left_traced, left_traced_filled}

-- Why applying was refused

-- A refusal of what is built is 11, 12 or 13.
built_range : (t : Transducer) → (built_refusal t ≡ 0 → ⊥) → (10 < built_refusal t) × (built_refusal t < 14)
built_range t bad = (
  by_test (leb (built_refusal t) 10) (λ e. absurd (bad (built_late t (early_keeps (built_refusal t) (leb-true (built_refusal t) 10 e)))))
      (λ e. leb-false (built_refusal t) 10 e),
  by_test (ltb 13 (built_refusal t)) (λ e. absurd (bad (built_late t (late_keeps (built_refusal t) (ltb-true 13 (built_refusal t) e)))))
      (λ e. omega (arith, ltb-false 13 (built_refusal t) e)),
)

data Why (xs cs : List ℕ) (n : ℕ) : Type 0 where
  by_left : refusal xs ≡ n → (n ≡ 0 → ⊥) → Why xs cs n
  by_string : refusal xs ≡ 0 → string_good cs ≡ false → n ≡ 9 → Why xs cs n
  by_size : refusal xs ≡ 0 → string_good cs ≡ true → built_refusal (applied cs (decode xs)).result ≡ n → 10 < n → n < 14 → Why xs cs n

why : (xs cs : List ℕ) (n : ℕ) → Unapplied xs cs n → Why xs cs n
unfolding application_refusal
why xs cs n u = on (eqb (refusal xs) 0) refl (string_good cs) refl
  where
    behind : ℕ
    behind = built_refusal (applied cs (decode xs)).result

    on : (a : Bool) → eqb (refusal xs) 0 ≡ a → (b : Bool) → string_good cs ≡ b → Why xs cs n
    on false e b f =
        by_left (sym (u.is ∙ some_or_else (refusal xs) (or_else (cond (string_good cs) 0 9) behind) (eqb-false (refusal xs) 0 e))) u.some
    on true e false f =
        let ok : refusal xs ≡ 0 = eqb-true (refusal xs) 0 e in
        let first : n ≡ or_else (cond (string_good cs) 0 9) behind = u.is ∙ none_or_else (refusal xs) (or_else (cond (string_good cs) 0 9) behind) ok in
        by_string ok f (first ∙ ap (λ (b : Bool). or_else (cond b 0 9) behind) f ∙ some_or_else 9 behind (λ z. omega arith))
    on true e true f =
        let ok : refusal xs ≡ 0 = eqb-true (refusal xs) 0 e in
        let first : n ≡ or_else (cond (string_good cs) 0 9) behind = u.is ∙ none_or_else (refusal xs) (or_else (cond (string_good cs) 0 9) behind) ok in
        let last : n ≡ behind = first ∙ ap (λ (b : Bool). or_else (cond b 0 9) behind) f ∙ none_or_else 0 behind refl in
        let range = built_range (applied cs (decode xs)).result (λ z. u.some (last ∙ z)) in
        by_size ok f (sym last) (omega (arith, range.0)) (omega (arith, range.1))

module _ (xs ys cs a b c : List ℕ) (n : ℕ) (unapplied : Unapplied xs cs n) where
  abbrev number : ℕ
  number = cascade_refusal xs ys cs (length a) (length b) (length c)

  abbrev Refused : (k : ℕ) → Type 0
  Refused k = (r : Written) → r ≡ record { refusal = k; len = 0 } → CascadeSays xs ys cs number r a a b b c c

  kept : (k : ℕ) → number ≡ k → (k ≡ 0 → ⊥) → k ≤ 10 → Refused k
  kept k is bad small = says_kept (encode (cascade xs ys cs)) (cascade_origins xs ys cs) number k a b c is bad (early_keeps k small)

  -- A refusal of the two transducers is the answer.
  by_tables : (k : ℕ) → tables_refusal xs ys ≡ k → (k ≡ 0 → ⊥) → number ≡ k
  unfolding cascade_refusal
  by_tables k is bad =
      some_or_else (tables_refusal xs ys)
      (or_else (cond (string_good cs) 0 9) (or_else (compose_room (length a) (length b) (length c))
      (or_else (built_refusal (applied cs (decode xs)).result) (built_refusal (cascade xs ys cs)))))
      (λ z. bad (sym is ∙ z)) ∙ is

  pub says_left : n < 9 → Refused n
  unfolding tables_refusal
  says_left less = on (why xs cs n unapplied)
    where
      on : Why xs cs n → Refused n
      on (by_left is bad) = kept n (by_tables n (some_or_else (refusal xs) (refusal ys) (λ z. bad (sym is ∙ z)) ∙ is) bad) bad (omega arith)
      on (by_string ok wrong is) = absurd (omega arith)
      on (by_size ok good is high low) = absurd (omega arith)

  -- The left transducer was accepted.
  left_accepted : 9 ≤ n → refusal xs ≡ 0
  left_accepted more = on (why xs cs n unapplied)
    where
      on : Why xs cs n → refusal xs ≡ 0
      on (by_left is bad) = absurd (omega (arith, refusal_most xs))
      on (by_string ok wrong is) = ok
      on (by_size ok good is high low) = ok

  pub says_right : 9 ≤ n → (k : ℕ) → k ≡ refusal ys → (k ≡ 0 → ⊥) → Refused k
  unfolding tables_refusal
  says_right more k is bad =
      kept k (by_tables k (none_or_else (refusal xs) (refusal ys) (left_accepted more) ∙ sym is) bad) bad (omega (arith, refusal_most ys))

  module _ (more : 9 ≤ n) (right : refusal ys ≡ 0) where
    pub says_string : n ≡ 9 → Refused n
    unfolding cascade_refusal tables_refusal or_else
    says_string nine = on (why xs cs n unapplied)
      where
        on : Why xs cs n → Refused n
        on (by_left is bad) = absurd (omega (arith, refusal_most xs))
        on (by_string ok wrong is) = kept n (rw (ok, right, wrong) (sym is)) (λ z. omega arith) (omega arith)
        on (by_size ok good is high low) = absurd (omega arith)

    -- The lattice is too large.
    module _ (other : n ≡ 9 → ⊥) where
      record Large : Type 0 where
        ok : refusal xs ≡ 0
        good : string_good cs ≡ true
        is : built_refusal (applied cs (decode xs)).result ≡ n
        high : 10 < n
        low : n < 14

      large : Large
      large = on (why xs cs n unapplied)
        where
          on : Why xs cs n → Large
          on (by_left is bad) = absurd (omega (arith, refusal_most xs))
          on (by_string ok wrong is) = absurd (other is)
          on (by_size ok good is high low) = record { ok = ok; good = good; is = is; high = high; low = low }

      short : compose_room (length a) (length b) (length c) ≡ 10 → Refused 10
      unfolding cascade_refusal tables_refusal or_else
      short h = kept 10 (rw (large.ok, right, large.good, h)) (λ z. omega arith) (omega arith)

      pub says_table : length a < max_bytes → Refused 10
      unfolding compose_room
      says_table h = short (rw (lt-ltb (length a) max_bytes h))

      pub says_origins : max_bytes ≤ length a → length b < max_origins → Refused 10
      unfolding compose_room
      says_origins p h = short (rw (le-ltb (length a) max_bytes p, lt-ltb (length b) max_origins h))

      pub says_states : max_bytes ≤ length a → max_origins ≤ length b → length c < max_states → Refused 10
      unfolding compose_room
      says_states p q h = short (rw (le-ltb (length a) max_bytes p, le-ltb (length b) max_origins q, lt-ltb (length c) max_states h))

      pub says_large : max_bytes ≤ length a → max_origins ≤ length b → max_states ≤ length c → (r : Written) (a' b' c' : List ℕ)
          → RefusedWith n r a a' b b' c c' → CascadeSays xs ys cs number r a a' b b' c c'
      unfolding cascade_refusal tables_refusal or_else compose_room
      says_large p q s r a' b' c' cleared =
          let l : Large = large in
          let bad : n ≡ 0 → ⊥ = λ z. omega (arith, l.high) in
          let is : number ≡ n =
          rw (l.ok, right, l.good, le-ltb (length a) max_bytes p, le-ltb (length b) max_origins q, le-ltb (length c) max_states s, l.is, ne_eqb n 0 bad) in
          says_zeroed (encode (cascade xs ys cs)) (cascade_origins xs ys cs) number n r a a a' b b b' c c c' is l.high l.low refl refl refl cleared

-- What is not written does not matter to a refusal.
refused_alike : (bytes traced bytes' traced' : List ℕ) (n : ℕ) (r : Written) (a a' b b' c c' : List ℕ) → (n ≡ 0 → ⊥)
    → BuiltSays bytes traced n r a a' b b' c c' → BuiltSays bytes' traced' n r a a' b b' c c'
unfolding left_behind
refused_alike bytes traced bytes' traced' n r a a' b b' c c' bad says =
    record {
      refusal_is = says.refusal_is;
      len_is = says.len_is ∙ unless_some n (length bytes) bad ∙ sym (unless_some n (length bytes') bad);
      table = says.table ∙ rw (ne_eqb n 0 bad);
      origins = says.origins ∙ rw (ne_eqb n 0 bad);
      work = says.work;
    }

-- Two origins for each arc.
length_origin_pairs : (ss : List (Step State Origin)) → length (origin_pairs ss) ≡ 2 * length ss
unfolding origin_pairs all_origins origin_pair
length_origin_pairs [] = refl
length_origin_pairs (s ∷ ss) = omega (arith, length_origin_pairs ss)

pub length_composed_origins : (t u : Transducer) → length (origin_pairs (composed t u).steps) ≡ 2 * length (composed t u).result.arcs
unfolding composed
length_composed_origins t u =
    length_origin_pairs (composed t u).steps
    ∙ ap (λ (n : ℕ). 2 * n) (length_steps same_state (steps t u) (final_state t u) (state_weight t u) (first_state t u))

-- The calls, one after the other

module _ {xs cs : List ℕ} (bytes_xs : Bytes xs) {put : Written} {d d' e e' f f' : List ℕ}
    (applying : AppliedCall cs xs put d d' e e' f f') where
  put_number : put.refusal ≡ or_else (refusal xs) (application_refusal cs (decode xs))
  unfolding apply_refusal apply_room application_refusal or_else
  put_number =
      applying.says.refusal_is
      ∙ (rw (
        le-ltb (length d) max_bytes applying.lattice_room,
        le-ltb (length e) max_arcs applying.origins_room,
        le-ltb (length f) max_states applying.pairs_room,
      ))

  pub not_applied : (put.refusal ≡ 0 → ⊥) → Unapplied xs cs put.refusal
  not_applied bad = record { is = put_number; some = bad }

  module _ (fine : put.refusal ≡ 0) where
    abbrev ws : List ℕ
    ws = take put.len d'

    abbrev put_well : Application cs xs
    put_well = application_of applying fine

    pub put_fits : put.len ≤ length d'
    put_fits = applied_fits put_well

    good_xs : Good (decode xs)
    good_xs = accepted_good xs bytes_xs (table_good put_well)

    read : decode ws ≡ lattice cs (decode xs)
    read = applied_read good_xs put_well

    -- 18 never holds of a lattice.
    no_any_says : has_no_any_input (lattice cs (decode xs)) ≡ true
    no_any_says = plain_named (lattice cs (decode xs)) (lattice_plain cs (decode xs) good_xs (appliable put_well).string)

    module _ (ys : List ℕ) (bytes_ys : Bytes ys) {made : Written} {a a' b b' c c' : List ℕ}
        (composing : ComposeSays ws ys (compose_refusal ws ys (length a) (length b) (length c)) made a a' b b' c c') where
      abbrev told : ℕ
      told = cascade_refusal xs ys cs (length a) (length b) (length c)

      -- The refusals left are those of composing.
      same_number : compose_refusal ws ys (length a) (length b) (length c) ≡ told
      unfolding compose_refusal cascade_refusal tables_refusal any_refusal or_else
      same_number = rw (applied_accepted good_xs put_well, read, no_any_says, table_good put_well, (appliable put_well).string, (appliable put_well).fine)

      abbrev os : List ℕ
      os = origin_pairs (composed (lattice cs (decode xs)) (decode ys)).steps

      says : BuiltSays (encode (cascade xs ys cs)) os told made a a' b b' c c'
      says = rw (same_number, read) at composing

      pub says_uncomposed : (made.refusal ≡ 0 → ⊥) → CascadeSays xs ys cs told made a a' b b' c c'
      says_uncomposed bad =
          refused_alike (encode (cascade xs ys cs)) os (encode (cascade xs ys cs)) (cascade_origins xs ys cs) told made a a' b b' c c'
          (λ z. bad (says.refusal_is ∙ z)) says

      module _ (well : made.refusal ≡ 0) where
        abbrev zs : List ℕ
        zs = take made.len a'

        abbrev made_well : Composition ws ys
        made_well =
            record {
              answer = made;
              table = a;
              table_left = a';
              origins = b;
              origins_left = b';
              states = c;
              states_left = c';
              says = composing;
              well = well;
            }

        pub made_fits : made.len ≤ length a'
        made_fits = composed_fits made_well

        good_ys : Good (decode ys)
        good_ys = accepted_good ys bytes_ys (composable made_well).right_good

        accepted : refusal zs ≡ 0
        accepted = composition_accepted (applied_good good_xs put_well) good_ys made_well

        bytes_zs : Bytes zs
        bytes_zs = rw (composed_bytes_are made_well) (bytes_encode (composed (decode ws) (decode ys)).result)

        in_bytes : decode zs ≡ cascade xs ys cs
        in_bytes = composition_read (applied_good good_xs put_well) good_ys made_well ∙ ap (λ (t : Transducer). (composed t (decode ys)).result) read

        pub head_fits : head_bytes ≤ length zs
        head_fits = head_inside zs bytes_zs accepted

        -- The origins as composing left them.
        none : told ≡ 0
        none = sym says.refusal_is ∙ well

        left : b' ≡ filled (length b) os
        left = says.origins ∙ behind_written b os told none

        module _ (head : Head) (is : head ≡ head_in zs) where
          many : 2 * head.arcs ≡ length os
          many =
              ap (λ (n : ℕ). 2 * n) ((headed zs bytes_zs accepted head is).arcs_are ∙ ap (λ (t : Transducer). length t.arcs) in_bytes)
              ∙ sym (length_composed_origins (lattice cs (decode xs)) (decode ys))

          pub origins_fit : 2 * head.arcs ≤ length b'
          unfolding filled
          origins_fit = omega (arith, many, ap length left ∙ length-append os (replicate (length b - length os) 0))

          pub says_traced : (b'' : List ℕ) → b'' ≡ sets b' 0 (left_traced e' (take (2 * head.arcs) b')) → CascadeSays xs ys cs told made a a' b b'' c c'
          unfolding cascade_origins
          says_traced b'' traced =
              let ls : List ℕ = lattice_origins cs (decode xs) in
              let origins_are : b'' ≡ filled (length b) (left_traced ls os) =
              traced
              ∙ ap (λ (l : List ℕ). sets b' 0 (left_traced e' l)) (take_told (2 * head.arcs) (length b) os b' many left)
              ∙ ap (λ (l : List ℕ). sets b' 0 (left_traced l os)) (lattice_origins_are put_well)
              ∙ ap (λ (l : List ℕ). sets b' 0 l) (left_traced_filled (length e) ls os)
              ∙ ap (λ (l : List ℕ). sets l 0 (left_traced ls os)) left
              ∙ refilled (length b) os (left_traced ls os) (length_left_traced ls os) in
              record {
                refusal_is = says.refusal_is;
                len_is = says.len_is;
                table = says.table;
                origins = origins_are ∙ sym (behind_written b (left_traced ls os) told none);
                work = says.work;
              }
