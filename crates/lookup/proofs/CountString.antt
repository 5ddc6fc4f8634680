-- What `count_string` answers: one law for each answer. Assumes nothing.
use mathlib.Core.Path.{◌≡◌, sym, ap, ◌∙◌}
use mathlib.Core.Bool.{true, false, cond}
use mathlib.Core.List.{List}
use Prim.Native.Nat.{ℕ, ◌≤◌}
use native.Mathlib.Omega.{arith}
use lib.ListN.{length, take, length-take}
use Rattle.wire.specs.Bytes.{Bytes}
use Rattle.wire.proofs.Bool.{passed_last, not_raised}
use Rattle.wire.proofs.Places.{take_told}
use Rattle.transducer.specs.Answer.{Written}
use Rattle.transducer.specs.Format.{Transducer, Good, refusal, decode}
use Rattle.transducer.specs.Encode.{encode}
use Rattle.transducer.specs.Entry.{or_else}
use Rattle.transducer.proofs.Answers.{or_else_none, some_or_else, none_or_else, unless_some, unless_none}
use Rattle.transducer.proofs.RoundTrip.{accepted_good}
use Rattle.explore.specs.Explore.{built_refusal}
use Rattle.explore.proofs.LeftBehind.{behind_written}
use Rattle.lattice.specs.Apply.{string_good, applied}
use Rattle.lattice.specs.ApplyEntry.{ApplySays}
use Rattle.lattice.specs.Lattice.{lattice}
use Rattle.lattice.proofs.LatticeGood.{refusal_lattice, decode_lattice}
use Rattle.paths.specs.Answer.{Counted}
use Rattle.paths.specs.Count.{endless, path_count}
use Rattle.paths.specs.Entry.{accepted_count_refusal, count_refusal, CountSays}
use Rattle.lookup.specs.Answer.{StringCount}
use Rattle.lookup.specs.Lookup.{count_string_refusal, CountStringSays}

module _ (cs : List ℕ) (t : Transducer) where
  abbrev z : Transducer
  z = lattice cs t

  abbrev built : ℕ
  built = built_refusal (applied cs t).result

  -- Which refusal it is

  number_9 : string_good cs ≡ false → count_string_refusal cs t ≡ 9
  unfolding count_string_refusal or_else
  number_9 bad = rw bad

  number_built : string_good cs ≡ true → count_string_refusal cs t ≡ or_else built (accepted_count_refusal z)
  unfolding count_string_refusal
  number_built good =
      ap (λ (n : ℕ). or_else n (accepted_count_refusal z)) (none_or_else (cond (string_good cs) 0 9) built (rw good))

  -- What is known if nothing is refused.
  pub record CountedWell : Type 0 where
    pub string : string_good cs ≡ true
    pub fine : built ≡ 0
    pub finite : endless z ≡ false

  pub counted_well : count_string_refusal cs t ≡ 0 → CountedWell
  unfolding count_string_refusal
  counted_well h =
      let one = or_else_none (or_else (cond (string_good cs) 0 9) built) (accepted_count_refusal z) h in
      let two = or_else_none (cond (string_good cs) 0 9) built one.0 in
      record { string = passed_last (string_good cs) 8 two.0; fine = two.1; finite = (not_raised (endless z) 13 0 one.1).0 }

  refused_says : (n : ℕ) → n ≡ count_string_refusal cs t → (n ≡ 0 → ⊥) → (r : StringCount) → r ≡ record { refusal = n; count = 0; len = 0 }
      → (a' : List ℕ) → CountStringSays cs t r a'
  refused_says n is bad r e a' =
      record {
        refusal_is = ap (λ (x : StringCount). x.refusal) e ∙ is;
        count_is = ap (λ (x : StringCount). x.count) e ∙ sym (unless_some (count_string_refusal cs t) (path_count z) (λ q. bad (is ∙ q)));
        bytes = λ h. absurd (bad (sym (ap (λ (x : StringCount). x.refusal) e) ∙ h));
        inside = λ h. absurd (bad (sym (ap (λ (x : StringCount). x.refusal) e) ∙ h));
      }

  -- 9
  pub bad_string_says : false ≡ string_good cs → (r : StringCount) → r ≡ record { refusal = 9; count = 0; len = 0 } → (a' : List ℕ)
      → CountStringSays cs t r a'
  bad_string_says bad r e a' = refused_says 9 (sym (number_9 (sym bad))) (λ q. omega arith) r e a'

  -- It is what counting answers on the lattice's bytes.
  pub counts_lattice : Good t → string_good cs ≡ true → built ≡ 0 → (r : StringCount) (a' : List ℕ) → CountStringSays cs t r a'
      → CountSays (encode z) (count_refusal (encode z)) (record { refusal = r.refusal; count = r.count })
  unfolding count_refusal
  counts_lattice good string fine r a' says =
      let decoded : decode (encode z) ≡ z = decode_lattice cs t good string fine in
      let is : count_refusal (encode z) ≡ count_string_refusal cs t =
      none_or_else (refusal (encode z)) (accepted_count_refusal (decode (encode z))) (refusal_lattice cs t good string fine)
      ∙ (ap (λ (x : Transducer). accepted_count_refusal x) decoded
      ∙ sym (number_built string ∙ none_or_else built (accepted_count_refusal z) fine)) in
      record { refusal_is = says.refusal_is ∙ sym is; count_is = says.count_is ∙ (rw (is, decoded)) }

-- A good string on accepted bytes, applied

module _ (cs bs : List ℕ) (bytes : Bytes bs) (ok : refusal bs ≡ 0) (string : true ≡ string_good cs) (r : Written) (a a' b b' c c' : List ℕ)
    (says : ApplySays cs bs (built_refusal (applied cs (decode bs)).result) r a a' b b' c c') where
  abbrev t : Transducer
  t = decode bs

  abbrev w : Transducer
  w = lattice cs t

  abbrev number : ℕ
  number = built_refusal (applied cs t).result

  -- 11 and 12
  pub unbuilt_says : (r.refusal ≡ 0 → ⊥) → (x : StringCount) → x ≡ record { refusal = r.refusal; count = 0; len = 0 } → CountStringSays cs t x a'
  unbuilt_says bad x e =
      let is : count_string_refusal cs t ≡ number =
      number_built cs t (sym string) ∙ some_or_else number (accepted_count_refusal w) (λ q. bad (says.refusal_is ∙ q)) in
      refused_says cs t r.refusal (says.refusal_is ∙ sym is) bad x e a'

  module _ (well : r.refusal ≡ 0) where
    none : number ≡ 0
    none = sym says.refusal_is ∙ well

    put_bytes : take r.len a' ≡ encode w
    put_bytes =
        take_told r.len (length a) (encode w) a' (says.len_is ∙ unless_none number (length (encode w)) none)
        (says.table ∙ behind_written a (encode w) number none)

    pub put_fits : r.len ≤ length a'
    put_fits =
        let l : r.len ≡ length (encode w) = says.len_is ∙ unless_none number (length (encode w)) none in
        omega (arith, l, length-take r.len a', ap length put_bytes)

    good : Good t
    good = accepted_good bs bytes ok

    pub put_accepted : refusal (take r.len a') ≡ 0
    put_accepted = ap refusal put_bytes ∙ refusal_lattice cs t good (sym string) none

    put_decoded : decode (take r.len a') ≡ w
    put_decoded = ap decode put_bytes ∙ decode_lattice cs t good (sym string) none

    module _ (k : Counted) (counting : CountSays (take r.len a') (accepted_count_refusal (decode (take r.len a'))) k) where
      count_number : accepted_count_refusal (decode (take r.len a')) ≡ count_string_refusal cs t
      count_number =
          ap (λ (x : Transducer). accepted_count_refusal x) put_decoded
          ∙ sym (number_built cs t (sym string) ∙ none_or_else number (accepted_count_refusal w) none)

      -- 14
      pub endless_says : (k.refusal ≡ 0 → ⊥) → (x : StringCount) → x ≡ record { refusal = k.refusal; count = 0; len = 0 } → CountStringSays cs t x a'
      endless_says bad x e = refused_says cs t k.refusal (counting.refusal_is ∙ count_number) bad x e a'

      pub counted_says : k.refusal ≡ 0 → CountStringSays cs t (record { refusal = 0; count = k.count; len = r.len }) a'
      counted_says fine =
          let is : count_string_refusal cs t ≡ 0 = sym count_number ∙ sym counting.refusal_is ∙ fine in
          record {
            refusal_is = sym is;
            count_is = counting.count_is ∙ (rw (count_number, put_decoded));
            bytes = λ _. put_bytes;
            inside = λ _. put_fits;
          }
