-- The answers of the one call: one law for each, in the order of its calls. Assumes nothing.
use mathlib.Core.Path.{◌≡◌, sym, ap, ◌∙◌}
use mathlib.Core.Bool.{true, cond}
use mathlib.Core.List.{List}
use Prim.Native.Nat.{ℕ, ◌≤◌}
use native.Mathlib.Omega.{arith}
use lib.ListN.{length, take, replicate, length-replicate}
use Rattle.wire.specs.Bytes.{Bytes}
use Rattle.transducer.specs.Answer.{Written}
use Rattle.transducer.specs.Format.{max_arcs, max_bytes, max_states, Transducer, Good, refusal, decode}
use Rattle.transducer.specs.Each.{has_no_any_input}
use Rattle.transducer.specs.Entry.{or_else}
use Rattle.transducer.proofs.Answers.{some_or_else, none_or_else, unless_some}
use Rattle.transducer.proofs.Fits.{plain_named}
use Rattle.transducer.proofs.RoundTrip.{accepted_good}
use Rattle.compose.specs.Entry.{composition, composition_refusal}
use Rattle.compose.specs.Composition.{Composition}
use Rattle.compose.proofs.Called.{ComposedCall, composed_number, composition_of, composed_fits, composable, composition_good, composition_plain}
use Rattle.lattice.specs.ApplyEntry.{application_refusal}
use Rattle.lattice.specs.Application.{Application}
use Rattle.lattice.proofs.Called.{Appliable, unrefused_appliable, lattice_bytes_are, some_application}
use Rattle.paths.specs.Answer.{Counted}
use Rattle.paths.specs.Count.{endless, path_count}
use Rattle.lookup.specs.Answer.{StringCount}
use Rattle.lookup.specs.Lookup.{count_string_refusal, CountStringSays}
use Rattle.lookup.proofs.CountString.{counts_lattice}
use Rattle.claim.specs.Entry.{composition_lattice, readings_refusal, ReadingsSays}
use Rattle.claim.specs.Kind.{Counts}
use Rattle.claim.specs.Claim.{Pairs}
use Rattle.claim.proofs.ChainCounted.{table_read, table_accepted, counts_pairs}

-- Which refusal it is

module _ (xs ys cs : List ℕ) where
  abbrev m : ℕ
  m = composition_refusal xs ys

  abbrev n : ℕ
  n = application_refusal cs (composition xs ys)

  abbrev last : ℕ
  last = cond (endless (composition_lattice xs ys cs)) 14 0

  number_first : (m ≡ 0 → ⊥) → readings_refusal xs ys cs ≡ m
  unfolding readings_refusal
  number_first bad = some_or_else m (or_else n last) bad

-- The composition's answer

module _ {xs ys : List ℕ} {made : Written} {a a' b b' c c' : List ℕ} (bytes_xs : Bytes xs) (bytes_ys : Bytes ys)
    (composing : ComposedCall xs ys made a a' b b' c c') where
  pub says_uncomposed : (cs : List ℕ) → (made.refusal ≡ 0 → ⊥) → ReadingsSays xs ys cs (record { refusal = made.refusal; count = 0 })
  says_uncomposed cs bad =
      let some : composition_refusal xs ys ≡ 0 → ⊥ = λ none. bad (composed_number composing ∙ none) in
      let is : readings_refusal xs ys cs ≡ composition_refusal xs ys = number_first xs ys cs some in
      record {
        refusal_is = composed_number composing ∙ sym is;
        count_is = sym (unless_some (readings_refusal xs ys cs) (path_count (composition_lattice xs ys cs)) (λ none. some (sym is ∙ none)));
        counts = λ none _. absurd (some none);
      }

  module _ (well : made.refusal ≡ 0) where
    abbrev table : Composition xs ys
    table = composition_of composing well

    abbrev bs : List ℕ
    bs = take made.len a'

    pub made_fits : made.len ≤ length a'
    made_fits = composed_fits table

    none : composition_refusal xs ys ≡ 0
    none = sym (composed_number composing) ∙ well

    read : decode bs ≡ composition xs ys
    read = table_read bytes_xs bytes_ys table

    pub made_accepted : refusal bs ≡ 0
    made_accepted = table_accepted bytes_xs bytes_ys table

    good_xs : Good (decode xs)
    good_xs = accepted_good xs bytes_xs (composable table).left_good

    good_ys : Good (decode ys)
    good_ys = accepted_good ys bytes_ys (composable table).right_good

    -- A composition has no arc for any symbol.
    pub made_named : has_no_any_input (decode bs) ≡ true
    made_named = plain_named (decode bs) (composition_plain good_xs good_ys table)

    -- The answer of applying and counting

    module _ {cs : List ℕ} {r : StringCount} {d' : List ℕ} (counting : CountStringSays cs (decode bs) r d') where
      abbrev answer : Counted
      answer = record { refusal = r.refusal; count = r.count }

      number : count_string_refusal cs (decode bs) ≡ readings_refusal xs ys cs
      unfolding count_string_refusal readings_refusal application_refusal
      number =
          ap (λ (t : Transducer). count_string_refusal cs t) read
          ∙ sym (none_or_else (m xs ys cs) (or_else (n xs ys cs) (last xs ys cs)) none)

      -- If applying is not refused, the answer is the count of what a call of `apply` would leave.
      counts_them : application_refusal cs (composition xs ys) ≡ 0 → Counts (Pairs xs ys cs) answer
      counts_them free =
          let free' : application_refusal cs (decode bs) ≡ 0 = ap (application_refusal cs) read ∙ free in
          let fine : Appliable cs (decode bs) = unrefused_appliable cs (decode bs) free' in
          let put : Application cs bs =
          some_application (replicate max_bytes 0) (replicate max_arcs 0) (replicate max_states 0) (omega (arith, length-replicate {A = ℕ} max_bytes 0))
          (omega (arith, length-replicate {A = ℕ} max_arcs 0)) (omega (arith, length-replicate {A = ℕ} max_states 0)) cs bs made_accepted free' in
          counts_pairs bytes_xs bytes_ys table put
          (record {
            answer = answer;
            says =
                rw (lattice_bytes_are put)
                (counts_lattice cs (decode bs) (composition_good good_xs good_ys table) fine.string fine.fine r d' counting);
          })

      pub says_counted : ReadingsSays xs ys cs answer
      says_counted =
          record {
            refusal_is = counting.refusal_is ∙ number;
            count_is = counting.count_is ∙ (rw (number, read));
            counts = λ _ free. counts_them free;
          }
