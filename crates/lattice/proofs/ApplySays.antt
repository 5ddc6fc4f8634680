-- The answers of applying: which refusal it is, and what is said and left behind; one law for each answer, in the order of the tests.
-- Assumes nothing.
use mathlib.Core.Path.{◌≡◌, sym, ◌∙◌}
use mathlib.Core.Bool.{true, false}
use mathlib.Core.List.{List, []}
use Prim.Native.Nat.{ℕ, ◌≤◌, ◌<◌}
use native.Mathlib.Omega.{arith}
use lib.ListN.{length}
use borrow.Author.Tests.{lt-ltb, le-ltb, ne_eqb}
use Rattle.wire.specs.Bytes.{filled}
use Rattle.transducer.specs.Answer.{Written}
use Rattle.transducer.specs.Format.{max_states, max_arcs, max_bytes, refusal, decode}
use Rattle.transducer.specs.Encode.{encode}
use Rattle.transducer.specs.Entry.{or_else, unless}
use Rattle.transducer.proofs.Most.{refusal_most}
use Rattle.explore.specs.Explore.{built_refusal}
use Rattle.explore.proofs.LeftBehind.{early_keeps, says_kept, behind_written}
use Rattle.lattice.specs.Apply.{string_good, applied}
use Rattle.lattice.specs.ApplyEntry.{apply_room, apply_refusal, ApplySays}
use Rattle.lattice.specs.Lattice.{lattice, lattice_origins}

-- ApplySays on success

module _ (cs bs : List ℕ) (number : ℕ) where
  abbrev bytes_left : List ℕ
  bytes_left = encode (lattice cs (decode bs))

  abbrev origins_left : List ℕ
  origins_left = lattice_origins cs (decode bs)

  pub says_written : (len : ℕ) (a a' b b' c c₀ c' : List ℕ) → number ≡ 0 → length c ≡ length c₀ → len ≡ length bytes_left
      → a' ≡ filled (length a) bytes_left → b' ≡ filled (length b) origins_left → c' ≡ filled (length c) []
      → ApplySays cs bs number (record { refusal = 0; len = len }) a a' b b' c₀ c'
  unfolding unless
  says_written len a a' b b' c c₀ c' is long l x y z =
      record {
        refusal_is = sym is;
        len_is = rw is l;
        table = x ∙ sym (behind_written a bytes_left number is);
        origins = y ∙ sym (behind_written b origins_left number is);
        work = z ∙ (rw long (sym (behind_written c₀ [] number is)));
      }

-- The answers before anything is written

module _ (cs bs a b c : List ℕ) where
  abbrev number : ℕ
  number = apply_refusal cs bs (length a) (length b) (length c)

  abbrev pub Refused : (k : ℕ) → Type 0
  Refused k = (r : Written) → r ≡ record { refusal = k; len = 0 } → ApplySays cs bs number r a a b b c c

  pub says_bytes : (k : ℕ) → k ≡ refusal bs → (k ≡ 0 → ⊥) → Refused k
  unfolding apply_refusal or_else
  says_bytes k is bad = says_kept _ _ number k a b c (rw (← is, ne_eqb k 0 bad)) bad (early_keeps k (omega (arith, refusal_most bs)))

  module _ (accepted : refusal bs ≡ 0) where
    pub says_string : false ≡ string_good cs → Refused 9
    unfolding apply_refusal or_else
    says_string bad = says_kept _ _ number 9 a b c (rw (accepted, ← bad)) (omega arith) (early_keeps 9 (omega arith))

    module _ (string : true ≡ string_good cs) where
      short : apply_room (length a) (length b) (length c) ≡ 10 → Refused 10
      unfolding apply_refusal or_else
      short h = says_kept _ _ number 10 a b c (rw (accepted, ← string, h)) (omega arith) (early_keeps 10 (omega arith))

      pub says_table : length a < max_bytes → Refused 10
      unfolding apply_room
      says_table h = short (rw (lt-ltb (length a) max_bytes h))

      pub says_origins : max_bytes ≤ length a → length b < max_arcs → Refused 10
      unfolding apply_room
      says_origins p h = short (rw (le-ltb (length a) max_bytes p, lt-ltb (length b) max_arcs h))

      pub says_pairs : max_bytes ≤ length a → max_arcs ≤ length b → length c < max_states → Refused 10
      unfolding apply_room
      says_pairs p q h = short (rw (le-ltb (length a) max_bytes p, le-ltb (length b) max_arcs q, lt-ltb (length c) max_states h))

      module _ (p : max_bytes ≤ length a) (q : max_arcs ≤ length b) (s : max_states ≤ length c) where
        into : number ≡ built_refusal (applied cs (decode bs)).result
        unfolding apply_refusal or_else apply_room
        into = rw (accepted, ← string, le-ltb (length a) max_bytes p, le-ltb (length b) max_arcs q, le-ltb (length c) max_states s)

        pub says_into : (r : Written) (a' b' c' : List ℕ)
            → ApplySays cs bs (built_refusal (applied cs (decode bs)).result) r a a' b b' c c' → ApplySays cs bs number r a a' b b' c c'
        says_into r a' b' c' h = rw into h
