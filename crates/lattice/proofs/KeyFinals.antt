-- The finals of keys: the code of a key, its finals counted and written one key after the other, and that those of the keys met are the
-- lattice's. Assumes nothing.
use mathlib.Core.Path.{◌≡◌, refl, sym, ap, ◌∙◌}
use mathlib.Core.Bool.{Bool, true, false, ◌&&◌, not, cond}
use mathlib.Core.List.{List, [], ◌∷◌, ◌++◌}
use Prim.Native.Nat.{ℕ, suc, ◌+◌, ◌≤◌, ◌<◌}
use native.Mathlib.Numerals.{add-one}
use native.Mathlib.Omega.{arith}
use lib.Dec.{eqb}
use Rattle.std.specs.List.{count_by, filter}
use Rattle.std.proofs.lemmas.List.Sums.{length-filter}
use lib.ListN.{length, get_or, take, drop, length-append, take-append-drop}
use lib.Seq.{sets, take-suc, length-take-le, take-take}
use borrow.Author.Tests.{eq-eqb, ne_eqb}
use Rattle.wire.proofs.Bool.{and-true}
use Rattle.transducer.specs.declared.Final.{Final}
use Rattle.transducer.specs.Format.{max_states, head_bytes, final_bytes, arcs_at, Transducer, Good, weight_good}
use Rattle.transducer.specs.Encode.{final_record, final_records}
use Rattle.transducer.specs.Accepted.{FinalsByState, final_code, max_code}
use Rattle.transducer.specs.Weight.{Weight, weight_of}
use Rattle.transducer.specs.Path.{is_final, final_weight}
use Rattle.transducer.proofs.Finals.{final_code_some, weight_final_code}
use Rattle.transducer.proofs.Good.{good_tests, finals_light}
use Rattle.explore.specs.Explore.{finals_from}
use Rattle.explore.proofs.Finals.{finals_from_append}
use Rattle.explore.proofs.PutFinals.{Finishing, finishing_first, finishing_none, finishing_more, finishing_stop}
use Rattle.lattice.specs.declared.State.{State}
use Rattle.lattice.specs.Apply.{final_state}
use Rattle.lattice.specs.Applying.{key_code, key_finals, SmallCodes, StateIn}
use Rattle.lattice.specs.Pack.{pack, unpacked}
use Rattle.lattice.proofs.KeyParts.{state_small}
use Rattle.lattice.proofs.Pack.{unpacked_pack, unpacked_small}

-- The code of a key

module _ (codes : List ℕ) (last k : ℕ) (x : State) (is : x ≡ unpacked k) where
  pub code_at_last : x.position ≡ last → key_code codes last k ≡ get_or codes x.state 0
  unfolding key_code
  code_at_last e = rw (← is, eq-eqb x.position last e)

  pub code_elsewhere : (x.position ≡ last → ⊥) → key_code codes last k ≡ 0
  unfolding key_code
  code_elsewhere h = rw (← is, ne_eqb x.position last h)

-- It is that of a weight, or 0.
pub key_code_small : (codes : List ℕ) (last k : ℕ) → SmallCodes codes → key_code codes last k ≤ max_code
unfolding key_code
key_code_small codes last k small = on (eqb (unpacked k).position last)
  where
    on : (b : Bool) → cond b (get_or codes (unpacked k).state 0) 0 ≤ max_code
    on true = small (unpacked k).state (unpacked_small k)
    on false = omega arith

-- Whether the state of a key is final, and its weight, by its code.
abbrev pub key_final : (codes : List ℕ) → (last k : ℕ) → Bool
key_final codes last k = not (eqb (key_code codes last k) 0)

abbrev pub key_weight : (codes : List ℕ) → (last k : ℕ) → Weight
key_weight codes last k = weight_of (key_code codes last k)

not_final : (codes : List ℕ) (last k code : ℕ) → code ≡ key_code codes last k → code ≡ 0 → key_final codes last k ≡ false
not_final codes last k code is z = rw (eq-eqb (key_code codes last k) 0 (sym is ∙ z))

is_key_final : (codes : List ℕ) (last k code : ℕ) → code ≡ key_code codes last k → (code ≡ 0 → ⊥) → key_final codes last k ≡ true
is_key_final codes last k code is z = rw (ne_eqb (key_code codes last k) 0 (λ e. z (is ∙ e)))

-- There are as many finals of keys as final keys.
finals_kept : (codes : List ℕ) (last i : ℕ) (keys : List ℕ)
    → length (finals_from (key_final codes last) (key_weight codes last) i keys) ≡ length (filter (key_final codes last) keys)
unfolding finals_from
finals_kept codes last i [] = refl
finals_kept codes last i (k ∷ keys) = on (key_final codes last k) (finals_kept codes last (suc i) keys)
  where
    more : List Final
    more = finals_from (key_final codes last) (key_weight codes last) (suc i) keys

    kept : List ℕ
    kept = filter (key_final codes last) keys

    on : (b : Bool) → length more ≡ length kept
        → length (cond b (record { state = i; weight = key_weight codes last k } ∷ more) more) ≡ length (cond b (k ∷ kept) kept)
    on true e = ap suc e
    on false e = e

pub finals_counted : (codes : List ℕ) (last : ℕ) (keys : List ℕ)
    → length (key_finals codes last keys) ≡ count_by (key_final codes last) keys
unfolding key_finals
finals_counted codes last keys = finals_kept codes last 0 keys ∙ length-filter (key_final codes last) keys

-- The finals of the first s keys are written and counted.
abbrev pub Putting : (codes : List ℕ) → (last : ℕ) → (states : List ℕ) → (count : ℕ) → (table₀ table : List ℕ) → (finals s : ℕ) → Type 0
Putting codes last states count table₀ table finals s =
    (overflow : Bool) × Finishing (key_final codes last) (key_weight codes last) states count table₀ table finals overflow s

-- One key more

module _ (codes : List ℕ) (last : ℕ) (states : List ℕ) where
  one_more : (s : ℕ) → s < length states
      → key_finals codes last (take (s + 1) states)
      ≡ key_finals codes last (take s states) ++ finals_from (key_final codes last) (key_weight codes last) s (get_or states s 0 ∷ [])
  unfolding key_finals
  one_more s l =
      let n : 0 + length (take s states) ≡ s = omega (arith, length-take-le s states (omega arith)) in
      let fs : List ℕ → List Final = λ ks. finals_from (key_final codes last) (key_weight codes last) 0 ks in
      ap (λ (m : ℕ). fs (take m states)) (add-one s)
      ∙ ap fs (take-suc states s 0 l)
      ∙ finals_from_append (key_final codes last) (key_weight codes last) 0 (take s states) (get_or states s 0 ∷ [])
      ∙ ap (λ (i : ℕ). fs (take s states) ++ finals_from (key_final codes last) (key_weight codes last) i (get_or states s 0 ∷ [])) n

  longer : (s code : ℕ) → s < length states → code ≡ key_code codes last (get_or states s 0) → (code ≡ 0 → ⊥)
      → length (key_finals codes last (take (s + 1) states)) ≡ length (key_finals codes last (take s states)) + 1
  unfolding finals_from
  longer s code l is z =
      ap length (one_more s l)
      ∙ (rw (is_key_final codes last (get_or states s 0) code is z)
      (length-append (key_finals codes last (take s states)) (record { state = s; weight = key_weight codes last (get_or states s 0) } ∷ [])))

  -- There are no more finals of the first keys than of all.
  front_finals : (n count : ℕ) → n ≤ count
      → length (key_finals codes last (take n states)) ≤ length (key_finals codes last (take count states))
  unfolding key_finals
  front_finals n count l =
      let ks : List ℕ = take count states in
      let fs : List ℕ → List Final = λ ks. finals_from (key_final codes last) (key_weight codes last) 0 ks in
      let rest : List Final = finals_from (key_final codes last) (key_weight codes last) (0 + length (take n ks)) (drop n ks) in
      let front : fs (take n ks) ≡ fs (take n states) = ap fs (take-take n count states l) in
      let whole : fs ks ≡ fs (take n ks) ++ rest =
      ap fs (sym (take-append-drop n ks)) ∙ finals_from_append (key_final codes last) (key_weight codes last) 0 (take n ks) (drop n ks) in
      omega (arith, ap length whole, length-append (fs (take n ks)) rest, ap length front)

  pub putting_first : (count : ℕ) (table : List ℕ) → Putting codes last states count table table 0 0
  putting_first count table = (false, finishing_first (key_final codes last) (key_weight codes last) states count table)

  pub putting_stop : (count finals s : ℕ) (table₀ table : List ℕ) → count ≤ s → Putting codes last states count table₀ table finals s
      → table ≡ sets table₀ head_bytes (final_records (key_finals codes last (take count states)))
  unfolding key_finals
  putting_stop count finals s table₀ table stop inv =
      (finishing_stop (key_final codes last) (key_weight codes last) states inv.1 stop).2

  module _ (count finals s code : ℕ) (less : s < count) (room : count ≤ length states) (is : code ≡ key_code codes last (get_or states s 0)) where
    module _ (table₀ table : List ℕ) (inv : Putting codes last states count table₀ table finals s) where
      -- There is room for the final of this key.
      pub putting_room : (code ≡ 0 → ⊥) → arcs_at (length (key_finals codes last (take count states))) ≤ length table₀
          → {place : ℕ} → place ≡ arcs_at finals → place + final_bytes ≤ length table
      unfolding key_finals
      putting_room z fits there =
          omega (arith, inv.1.count_is, inv.1.kept, longer s code (omega arith) is z, front_finals (s + 1) count (omega arith))

      pub putting_none : code ≡ 0 → Putting codes last states count table₀ table finals (s + 1)
      putting_none z =
          (inv.0, finishing_none (key_final codes last) (key_weight codes last) states inv.1 less room (not_final codes last (get_or states s 0) code is z))

      pub putting_more : (table' : List ℕ) → (code ≡ 0 → ⊥) → {place : ℕ} → place ≡ arcs_at finals
          → table' ≡ sets table place (final_record (record { state = s; weight = weight_of code })) → length table' ≡ length table
          → Putting codes last states count table₀ table' (finals + 1) (s + 1)
      putting_more table' z there put-there long =
          let put : table' ≡ sets table (arcs_at finals) (final_record (record { state = s; weight = weight_of code })) = rw there at put-there in (
            _,
            finishing_more (key_final codes last) (key_weight codes last) states inv.1 less room table' (weight_of code) (weight_good (weight_of code))
                (is_key_final codes last (get_or states s 0) code is z) (ap weight_of is) put long refl,
          )

-- The finals of the states met

module _ (cs : List ℕ) (t : Transducer) (good : Good t) (codes : List ℕ) (by_state : FinalsByState t codes) where
  code_pack : (x : State) → StateIn cs t x
      → key_code codes (length cs) (pack x) ≡ cond (eqb x.position (length cs)) (final_code t.finals x.state) 0
  unfolding key_code
  code_pack x w =
      let small : x.state < max_states = state_small cs t good x w in
      let e : unpacked (pack x) ≡ x = unpacked_pack x small in
      rw (e, by_state.at_state x.state small)

  pub pack_final : (x : State) → StateIn cs t x → key_final codes (length cs) (pack x) ≡ final_state cs t x
  unfolding final_state
  pack_final x w = rw (code_pack x w) (on (eqb x.position (length cs)))
    where
      twice : (b : Bool) → not (not b) ≡ b
      twice true = refl
      twice false = refl

      on : (a : Bool) → not (eqb (cond a (final_code t.finals x.state) 0) 0) ≡ a && is_final t.finals x.state
      on true = rw (final_code_some t.finals x.state) (twice (is_final t.finals x.state))
      on false = refl

  pub pack_weight : (x : State) → StateIn cs t x → final_state cs t x ≡ true
      → key_weight codes (length cs) (pack x) ≡ final_weight t.finals x.state
  unfolding final_state
  pack_weight x w f =
      let two = and-true (eqb x.position (length cs)) (is_final t.finals x.state) f in
      rw (code_pack x w, two.0) (weight_final_code t.finals x.state (finals_light t (good_tests t good)) two.1)
