-- The answers of the count: one law for each, in the order of the calls. Assumes nothing.
use mathlib.Core.Path.{◌≡◌, sym, ap, ◌∙◌}
use mathlib.Core.Bool.{true, cond}
use mathlib.Core.List.{List}
use Prim.Native.Nat.{ℕ, ◌≤◌}
use lib.ListN.{length, take}
use Rattle.wire.specs.Bytes.{Bytes}
use Rattle.transducer.specs.Answer.{Written}
use Rattle.transducer.specs.Format.{Transducer, Good, refusal, decode}
use Rattle.transducer.specs.Each.{has_no_any_input, any_refusal}
use Rattle.transducer.specs.Entry.{or_else}
use Rattle.transducer.proofs.Answers.{or_else_none, some_or_else, none_or_else, unless_some}
use Rattle.transducer.proofs.Fits.{plain_named}
use Rattle.transducer.proofs.RoundTrip.{accepted_good}
use Rattle.explore.specs.Explore.{built_refusal}
use Rattle.compose.specs.Compose.{composed}
use Rattle.compose.specs.Entry.{composition_refusal}
use Rattle.compose.specs.Composition.{Composition}
use Rattle.compose.proofs.Called.{ComposedCall, composed_number, composition_of, composed_fits, composition_read, composition_accepted}
use Rattle.lattice.specs.ApplyEntry.{application_refusal}
use Rattle.lattice.specs.Application.{Application}
use Rattle.lattice.specs.Lattice.{lattice}
use Rattle.lattice.proofs.Called.{AppliedCall, applied_number, application_of, appliable, applied_fits, applied_read, applied_good, applied_accepted}
use Rattle.lattice.proofs.LatticeGood.{lattice_plain}
use Rattle.paths.specs.Answer.{Counted}
use Rattle.paths.specs.Count.{endless, path_count}
use Rattle.paths.specs.Entry.{count_refusal, CountSays}
use Rattle.cascade.specs.Cascade.{TwoCalls}
use Rattle.cascade.specs.Entry.{cascade, tables_refusal, result_refusal, cascade_count_refusal, CascadeCountSays}
use Rattle.cascade.proofs.Cascaded.{two_calls_claim}

-- A refusal of the cascade is the answer.
says_refused : (xs ys cs : List ℕ) (n : ℕ) → result_refusal xs ys cs ≡ n → (n ≡ 0 → ⊥)
    → CascadeCountSays xs ys cs (record { refusal = n; count = 0 })
unfolding cascade_count_refusal
says_refused xs ys cs n is bad =
    let some : result_refusal xs ys cs ≡ 0 → ⊥ = λ none. bad (sym is ∙ none) in
    let number : cascade_count_refusal xs ys cs ≡ n = some_or_else (result_refusal xs ys cs) (cond (endless (cascade xs ys cs)) 14 0) some ∙ is in
    record {
      refusal_is = sym number;
      count_is = sym (unless_some (cascade_count_refusal xs ys cs) (path_count (cascade xs ys cs)) (λ none. bad (sym number ∙ none)));
      counts = λ none. absurd (some none);
    }

module _ (xs ys cs : List ℕ) where
  abbrev behind : ℕ
  behind = or_else (application_refusal cs (decode xs)) (built_refusal (cascade xs ys cs))

  -- The tables' answer

  pub says_unaccepted : (n : ℕ) → n ≡ tables_refusal xs ys → (n ≡ 0 → ⊥) → CascadeCountSays xs ys cs (record { refusal = n; count = 0 })
  unfolding result_refusal
  says_unaccepted n is bad =
      says_refused xs ys cs n (some_or_else (tables_refusal xs ys) behind (λ none. bad (is ∙ none)) ∙ sym is) bad

  module _ (bytes_xs : Bytes xs) (bytes_ys : Bytes ys) (none : tables_refusal xs ys ≡ 0) where
    both : (refusal xs ≡ 0) × (refusal ys ≡ 0)
    unfolding tables_refusal
    both = or_else_none (refusal xs) (refusal ys) none

    good_xs : Good (decode xs)
    good_xs = accepted_good xs bytes_xs both.0

    good_ys : Good (decode ys)
    good_ys = accepted_good ys bytes_ys both.1

    number_behind : result_refusal xs ys cs ≡ behind
    unfolding result_refusal
    number_behind = none_or_else (tables_refusal xs ys) behind none

    -- The application's answer

    module _ {put : Written} {d d' e e' f f' : List ℕ} (applying : AppliedCall cs xs put d d' e e' f f') where
      abbrev ws : List ℕ
      ws = take put.len d'

      put_number : put.refusal ≡ application_refusal cs (decode xs)
      put_number = applied_number applying both.0

      pub says_unapplied : (put.refusal ≡ 0 → ⊥) → CascadeCountSays xs ys cs (record { refusal = put.refusal; count = 0 })
      says_unapplied bad =
          says_refused xs ys cs put.refusal
          (number_behind
          ∙ some_or_else (application_refusal cs (decode xs)) (built_refusal (cascade xs ys cs)) (λ free. bad (put_number ∙ free)) ∙ sym put_number)
          bad

      module _ (fine : put.refusal ≡ 0) where
        abbrev put_well : Application cs xs
        put_well = application_of applying fine

        pub put_fits : put.len ≤ length d'
        put_fits = applied_fits put_well

        good_ws : Good (decode ws)
        good_ws = applied_good good_xs put_well

        read : decode ws ≡ lattice cs (decode xs)
        read = applied_read good_xs put_well

        -- 18 never holds of a lattice.
        no_any_says : has_no_any_input (lattice cs (decode xs)) ≡ true
        no_any_says = plain_named (lattice cs (decode xs)) (lattice_plain cs (decode xs) good_xs (appliable put_well).string)

        -- The composition's answer

        module _ {made : Written} {a a' b b' c c' : List ℕ} (composing : ComposedCall ws ys made a a' b b' c c') where
          made_number : made.refusal ≡ built_refusal (cascade xs ys cs)
          unfolding composition_refusal any_refusal or_else
          made_number =
              composed_number composing
              ∙ (rw (applied_accepted good_xs put_well, both.1, read, no_any_says)
              (ap (λ (t : Transducer). built_refusal (composed t (decode ys)).result) read))

          number_last : result_refusal xs ys cs ≡ built_refusal (cascade xs ys cs)
          number_last =
              number_behind ∙ none_or_else (application_refusal cs (decode xs)) (built_refusal (cascade xs ys cs)) (sym put_number ∙ fine)

          pub says_uncomposed : (made.refusal ≡ 0 → ⊥) → CascadeCountSays xs ys cs (record { refusal = made.refusal; count = 0 })
          says_uncomposed bad = says_refused xs ys cs made.refusal (number_last ∙ sym made_number) bad

          module _ (well : made.refusal ≡ 0) where
            abbrev made_well : Composition ws ys
            made_well = composition_of composing well

            pub made_fits : made.len ≤ length a'
            made_fits = composed_fits made_well

            -- The count's answer

            called : TwoCalls xs ys cs
            called = record { left_bytes = bytes_xs; right_bytes = bytes_ys; applying = put_well; composing = made_well }

            pub says_counted : (r : Counted) → CountSays (take made.len a') (count_refusal (take made.len a')) r → CascadeCountSays xs ys cs r
            unfolding count_refusal cascade_count_refusal called
            says_counted r counting =
                let zs : List ℕ = take made.len a' in
                let in_bytes : decode zs ≡ cascade xs ys cs =
                composition_read good_ws good_ys made_well ∙ ap (λ (t : Transducer). (composed t (decode ys)).result) read in
                let number : count_refusal zs ≡ cascade_count_refusal xs ys cs =
                none_or_else (refusal zs) (cond (endless (decode zs)) 14 0) (composition_accepted good_ws good_ys made_well)
                ∙ ap (λ (t : Transducer). cond (endless t) 14 0) in_bytes
                ∙ sym
                (none_or_else (result_refusal xs ys cs) (cond (endless (cascade xs ys cs)) 14 0) (number_last ∙ sym made_number ∙ well)) in
                record {
                  refusal_is = counting.refusal_is ∙ number;
                  count_is = counting.count_is ∙ (rw (number, in_bytes));
                  counts = λ _. (two_calls_claim called).holds.counts (record { answer = r; says = counting });
                }
