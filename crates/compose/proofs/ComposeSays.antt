-- The answers of composing: which refusal it is, and what is said and left behind; one law for each answer, in the order of the tests. Assumes nothing.
use mathlib.Core.Path.{◌≡◌, refl, sym, ap, subst, ◌∙◌}
use mathlib.Core.Bool.{true, false}
use mathlib.Core.List.{List, []}
use Prim.Native.Nat.{ℕ, ◌+◌, ◌*◌, ◌≤◌, ◌<◌}
use native.Mathlib.Omega.{arith}
use lib.ListN.{length, get_or, take, drop}
use lib.Seq.{sets, length-sets}
use borrow.Author.Tests.{lt-ltb, le-ltb, ne_eqb}
use Rattle.std.proofs.Common.{Option, Some, None}
use Rattle.std.proofs.lemmas.Option.{IfSome_then}
use Rattle.wire.specs.Bytes.{cleared}
use Rattle.transducer.specs.declared.Final.{Final}
use Rattle.transducer.specs.Answer.{Written, Refusal, written}
use Rattle.std.specs.Prelude.{Result, is_ok}
use Rattle.transducer.specs.Format.{arcs_at, max_arcs, max_bytes, max_origins, max_states, Transducer, Good, refusal, decode}
use Rattle.transducer.specs.Encode.{head_record, final_records, encode}
use Rattle.transducer.specs.Each.{has_no_any_input, any_refusal}
use Rattle.transducer.specs.Entry.{or_else, unless}
use Rattle.transducer.specs.Accepted.{FinalsByState}
use Rattle.transducer.proofs.Most.{refusal_most}
use Rattle.explore.specs.declared.Walk.{Walk}
use Rattle.explore.specs.Explore.{built_refusal}
use Rattle.explore.specs.Walk.{WalkTold, FinalsStored, RefusedWith}
use Rattle.explore.proofs.EncodeStored.{filled_front}
use Rattle.explore.proofs.ExploredKeys.{Keying}
use Rattle.explore.proofs.PutFinals.{finals_good, finals_overflow}
use Rattle.explore.proofs.LeftBehind.{built_late, early_keeps, late_keeps, says_kept, says_zeroed, behind_written, behind_same}
use Rattle.explore.proofs.WalkTold.{
  told_11,
  told_key,
  told_key_finals,
  told_finals,
  told_12,
  told_13_arcs,
  told_13_finals,
  told_0,
  length_written,
  table_written,
  origins_written,
}
use Rattle.steps.specs.Steps.{same_state, steps, first_state, origin_pair}
use Rattle.compose.specs.Compose.{final_state, state_weight, composed}
use Rattle.compose.specs.Entry.{ComposeSays, compose_refusal, compose_room, origin_pairs}
use Rattle.compose.specs.Finished.{key_final, key_weight, key_finals, Finishable, Attempted}
use Rattle.steps.specs.Packing.{pack}
use Rattle.compose.specs.Walk.{key_steps, key_walk}
use Rattle.compose.proofs.Explored.{two_origins, composed_keying, key_bounded}
use Rattle.compose.proofs.KeyFinals.{pack_final, pack_weight}
use Rattle.steps.proofs.Within.{Within, within_bounded}

-- The answers before anything is written

module _ (xs ys a b c : List ℕ) where
  abbrev number : ℕ
  number = compose_refusal xs ys (length a) (length b) (length c)

  abbrev pub Refused : (k : ℕ) → Type 0
  Refused k = (r : Written) → r ≡ record { refusal = k; len = 0 } → ComposeSays xs ys number r a a b b c c

  pub says_left : (k : ℕ) → k ≡ refusal xs → (k ≡ 0 → ⊥) → Refused k
  unfolding compose_refusal or_else
  says_left k is bad =
      says_kept _ _ number k a b c (rw (← is, ne_eqb k 0 bad)) bad (early_keeps k (omega (arith, refusal_most xs)))

  module _ (lok : refusal xs ≡ 0) where
    pub says_any : has_no_any_input (decode xs) ≡ false → Refused 18
    unfolding compose_refusal or_else any_refusal
    says_any some = says_kept _ _ number 18 a b c (rw (lok, some)) (omega arith) (late_keeps 18 (omega arith))

    module _ (all : has_no_any_input (decode xs) ≡ true) where
      pub says_right : (j : ℕ) → j ≡ refusal ys → (j ≡ 0 → ⊥) → Refused j
      unfolding compose_refusal or_else any_refusal
      says_right j is bad =
          says_kept _ _ number j a b c (rw (lok, all, ← is, ne_eqb j 0 bad)) bad (early_keeps j (omega (arith, refusal_most ys)))

      module _ (rok : refusal ys ≡ 0) where
        short : compose_room (length a) (length b) (length c) ≡ 10 → Refused 10
        unfolding compose_refusal or_else any_refusal
        short h = says_kept _ _ number 10 a b c (rw (lok, all, rok, h)) (omega arith) (early_keeps 10 (omega arith))

        pub says_table : length a < max_bytes → Refused 10
        unfolding compose_room
        says_table h = short (rw (lt-ltb (length a) max_bytes h))

        pub says_origins : max_bytes ≤ length a → length b < max_origins → Refused 10
        unfolding compose_room
        says_origins p h = short (rw (le-ltb (length a) max_bytes p, lt-ltb (length b) max_origins h))

        pub says_states : max_bytes ≤ length a → max_origins ≤ length b → length c < max_states → Refused 10
        unfolding compose_room
        says_states p q h = short (rw (le-ltb (length a) max_bytes p, le-ltb (length b) max_origins q, lt-ltb (length c) max_states h))

        module _ (p : max_bytes ≤ length a) (q : max_origins ≤ length b) (s : max_states ≤ length c) where
          into : number ≡ built_refusal (composed (decode xs) (decode ys)).result
          unfolding compose_refusal or_else any_refusal compose_room
          into = rw (lok, all, rok, le-ltb (length a) max_bytes p, le-ltb (length b) max_origins q, le-ltb (length c) max_states s)

          pub says_into : (r : Written) (a' b' c' : List ℕ)
              → ComposeSays xs ys (built_refusal (composed (decode xs) (decode ys)).result) r a a' b b' c c' → ComposeSays xs ys number r a a' b b' c c'
          says_into r a' b' c' h = rw into h

-- The numbers that are written fit.
pub record Writable (w : Walk) (finals : ℕ) : Type 0 where
  pub finals_fit : finals ≤ max_states
  pub states : w.states ≤ max_states
  pub arcs : w.arcs ≤ max_arcs

-- The answers once the walk has begun, of accepted transducers

module _ (left right : List ℕ) (tg : Good (decode left)) (ug : Good (decode right)) where
  abbrev t : Transducer
  t = decode left

  abbrev u : Transducer
  u = decode right

  abbrev z : Transducer
  z = (composed (decode left) (decode right)).result

  keying : Keying same_state (steps t u) (first_state t u) pack origin_pair (key_steps t u) (Within t u)
  keying = composed_keying t u tg ug

  abbrev Says : Written → (a a' b b' c c' : List ℕ) → Type 0
  Says r a a' b b' c c' = ComposeSays left right (built_refusal (composed (decode left) (decode right)).result) r a a' b b' c c'

  pub says_11 : (r : Written) (a a₀ a' b b₀ b' c c₀ c' : List ℕ) → max_states < length (key_walk t u).keys
      → length a ≡ length a₀ → length b ≡ length b₀ → length c ≡ length c₀
      → RefusedWith 11 r a a' b b' c c' → Says r a₀ a' b₀ b' c₀ c'
  unfolding composed
  says_11 r a a₀ a' b b₀ b' c c₀ c' over la lb lc z' =
      says_zeroed _ _ (built_refusal z) 11 r a a₀ a' b b₀ b' c c₀ c' (told_11 keying (final_state t u) (state_weight t u) over) (omega arith)
      (omega arith) la lb lc z'

  pub says_same : (r : Written) (a a₀ a' b b₀ b' c c₀ c' : List ℕ) → length a ≡ length a₀ → length b ≡ length b₀ → length c ≡ length c₀
      → Says r a a' b b' c c' → Says r a₀ a' b₀ b' c₀ c'
  says_same r a a₀ a' b b₀ b' c c₀ c' la lb lc s =
      record {
        refusal_is = s.refusal_is;
        len_is = s.len_is;
        table = s.table ∙ behind_same a _ (built_refusal z) a₀ (built_late z) la;
        origins = s.origins ∙ behind_same b _ (built_refusal z) b₀ (built_late z) lb;
        work = s.work ∙ behind_same c _ (built_refusal z) c₀ (built_late z) lc;
      }

  -- An attempt that has given its answer, one that has not, and one whose buffers had changed but not their lengths.
  module _ {room : ℕ} where
    pub attempted : {answer : Result ℕ Refusal} {a a' b b' c c' : List ℕ} → Says (written answer) a a' b b' c c' → Attempted left right room (Some answer) a a' b b' c c'
    attempted s = record { says = s; enough = λ _. refl }

    pub attempted_again : {a a' b b' c c' : List ℕ} → room < max_states → Attempted left right room None a a' b b' c c'
    attempted_again less = record { says = tt; enough = λ h. absurd (omega arith) }

    pub attempted_same : (r : Option (Result ℕ Refusal)) (a a₀ a' b b₀ b' c c₀ c' : List ℕ) → length a ≡ length a₀ → length b ≡ length b₀ → length c ≡ length c₀
        → Attempted left right room r a a' b b' c c' → Attempted left right room r a₀ a' b₀ b' c₀ c'
    attempted_same r a a₀ a' b b₀ b' c c₀ c' la lb lc s =
        record { says = IfSome_then r s.says (λ w said. says_same (written w) a a₀ a' b b₀ b' c c₀ c' la lb lc said); enough = s.enough }

  -- The walk has been lent the part of the buffer from a place on.
  module _ (w : Walk) (held origins states : List ℕ) (told : WalkTold 2 (key_walk t u) w held origins states) (table : List ℕ) where
    pub says_12 : (r : Written) (a₀ a' b₀ b' c₀ c' : List ℕ) → max_arcs < w.arcs
        → length table ≡ length a₀ → length origins ≡ length b₀ → length states ≡ length c₀
        → RefusedWith 12 r table a' origins b' states c' → Says r a₀ a' b₀ b' c₀ c'
    unfolding composed
    says_12 r a₀ a' b₀ b' c₀ c' over la lb lc z' =
        says_zeroed _ _ (built_refusal z) 12 r table a₀ a' origins b₀ b' states c₀ c' (told_12 keying (final_state t u) (state_weight t u) told over)
        (omega arith) (omega arith) la lb lc z'

    module _ (few_arcs : w.arcs ≤ max_arcs) where
      says_13 : (r : Written) (a a' b' c' : List ℕ) → built_refusal z ≡ 13 → length a ≡ length table
          → RefusedWith 13 r a a' origins b' states c' → Says r table a' origins b' states c'
      says_13 r a a' b' c' is la z' =
          says_zeroed _ _ (built_refusal z) 13 r a table a' origins origins b' states states c' is (omega arith) (omega arith) la refl refl z'

      module _ (ls rs : List ℕ) (lby : FinalsByState t ls) (rby : FinalsByState u rs) where
        pub finishable : max_bytes ≤ length table → max_states ≤ length states → Finishable ls rs states w.states table
        finishable room long =
            let few : w.states ≤ max_states = omega (arith, told.states_are, told.few) in
            record {
              few = few;
              stored = omega arith;
              room = omega arith;
              keys = λ i l. key_bounded t u tg ug (get_or states i 0) (told_key keying (final_state t u) (state_weight t u) told i l);
              left = lby.small;
              right = rby.small;
            }

        finals_are : key_finals ls rs (take w.states states) ≡ z.finals
        unfolding composed
        finals_are =
            told_key_finals keying (final_state t u) (state_weight t u) told (key_final ls rs) (key_weight ls rs)
            (λ x h. pack_final t u ls rs lby rby x (within_bounded t u tg ug x h))
            (λ x h e. pack_weight t u ls rs lby rby tg ug x (within_bounded t u tg ug x h) e)

        module _ {A : Type 0} (finals : ℕ) (f : Result A Refusal) (t1 : List ℕ)
            (put : FinalsStored (key_finals ls rs (take w.states states)) finals f table t1) where
          finals_put : FinalsStored z.finals finals f table t1
          finals_put = subst (λ (fs : List Final). FinalsStored fs finals f table t1) finals_are put

          pub finals_kept : length t1 ≡ length table
          finals_kept = ap length finals_put.stored ∙ length-sets table 12 (final_records z.finals)

          pub says_13_arcs : (r : Written) (a' b' c' : List ℕ) → (w.overflow ≡ 0 → ⊥) → RefusedWith 13 r t1 a' origins b' states c'
              → Says r table a' origins b' states c'
          unfolding composed
          says_13_arcs r a' b' c' overflow z' =
              says_13 r t1 a' b' c' (told_13_arcs keying (final_state t u) (state_weight t u) told few_arcs overflow) finals_kept z'

          pub says_13_finals : (r : Written) (a' b' c' : List ℕ) → is_ok f ≡ false → RefusedWith 13 r t1 a' origins b' states c'
              → Says r table a' origins b' states c'
          unfolding composed
          says_13_finals r a' b' c' is z' =
              says_13 r t1 a' b' c'
              (told_13_finals keying (final_state t u) (state_weight t u) told few_arcs (finals_overflow finals_put is)) finals_kept z'

          pub writable : Writable w finals
          unfolding composed
          writable =
              record {
                finals_fit = omega (arith, finals_put.count_is, told_finals keying (final_state t u) (state_weight t u) told);
                states = omega (arith, told.states_are, told.few);
                arcs = few_arcs;
              }

          pub says_written : (from : ℕ) (t2 t3 t4 o1 s1 : List ℕ) → w.overflow ≡ 0 → is_ok f ≡ true → max_bytes ≤ length table
              → drop from table ≡ held → arcs_at finals ≤ from
              → t2 ≡ sets t1 (arcs_at finals) (take (16 * w.arcs) (drop from t1))
              → t3 ≡ sets t2 0 (head_record w.states w.arcs finals 0)
              → t4 ≡ cleared (arcs_at finals + 16 * w.arcs) t3
              → o1 ≡ cleared (2 * w.arcs) origins → s1 ≡ cleared 0 states
              → Says (record { refusal = 0; len = arcs_at finals + 16 * w.arcs }) table t4 origins o1 states s1
          unfolding composed unless origin_pairs
          says_written from t2 t3 t4 o1 s1 cheap light room lent front moved headed clear8 clear16 clear32 =
              let fits = writable in
              let no : built_refusal z ≡ 0 =
              told_0 keying (final_state t u) (state_weight t u) told few_arcs cheap (finals_good finals_put light) in
              record {
                refusal_is = sym no;
                len_is = rw no (sym (length_written keying (final_state t u) (state_weight t u) told few_arcs finals finals_put.count_is));
                table =
                    table_written keying (final_state t u) (state_weight t u) told few_arcs table from lent (omega (arith, finals_put.count_is)) finals
                    t1 t2 t3 t4 finals_put.count_is (omega (arith, fits.finals_fit, fits.arcs)) finals_put.stored moved headed clear8
                    ∙ sym (behind_written table (encode z) (built_refusal z) no);
                origins =
                    origins_written keying (final_state t u) (state_weight t u) told few_arcs two_origins o1 clear16
                    ∙ sym (behind_written origins (origin_pairs (composed t u).steps) (built_refusal z) no);
                work = filled_front [] states s1 0 refl refl clear32 ∙ sym (behind_written states [] (built_refusal z) no);
              }
