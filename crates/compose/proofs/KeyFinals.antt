-- Whether the state of a key is final, by the codes of its parts, and that this is so of the composed state. Assumes nothing.
use mathlib.Core.Path.{◌≡◌, refl}
use mathlib.Core.Bool.{Bool, true, false, not}
use mathlib.Core.List.{List}
use Prim.Native.Nat.{ℕ}
use lib.Dec.{eqb}
use lib.ListN.{get_or}
use borrow.Author.Tests.{eq-eqb, ne_eqb}
use Rattle.wire.proofs.Bool.{and-true}
use Rattle.transducer.specs.declared.Final.{Final}
use Rattle.transducer.specs.Format.{Transducer, Good}
use Rattle.transducer.specs.Accepted.{FinalsByState, final_code}
use Rattle.transducer.specs.Path.{is_final}
use Rattle.transducer.specs.Weight.{plus, weight_of}
use Rattle.transducer.proofs.Finals.{final_code_some, weight_final_code}
use Rattle.transducer.proofs.Good.{good_tests, finals_light}
use Rattle.steps.specs.declared.State.{State}
use Rattle.compose.specs.Compose.{final_state, state_weight}
use Rattle.compose.specs.Finished.{key_final, key_weight}
use Rattle.steps.specs.Packing.{pack, unpacked, Bounded}
use Rattle.steps.proofs.Packing.{unpacked_pack}

-- key_final, by the two codes

module _ (ls rs : List ℕ) (k : ℕ) (x : State) (is : x ≡ unpacked k) where
  pub left_not_final : get_or ls x.left 0 ≡ 0 → key_final ls rs k ≡ false
  unfolding key_final
  left_not_final h = rw (← is, eq-eqb (get_or ls x.left 0) 0 h)

  pub right_not_final : (get_or ls x.left 0 ≡ 0 → ⊥) → get_or rs x.right 0 ≡ 0 → key_final ls rs k ≡ false
  unfolding key_final
  right_not_final g h = rw (← is, ne_eqb (get_or ls x.left 0) 0 g, eq-eqb (get_or rs x.right 0) 0 h)

  pub both_final : (get_or ls x.left 0 ≡ 0 → ⊥) → (get_or rs x.right 0 ≡ 0 → ⊥) → key_final ls rs k ≡ true
  unfolding key_final
  both_final g h = rw (← is, ne_eqb (get_or ls x.left 0) 0 g, ne_eqb (get_or rs x.right 0) 0 h)

  pub both_weight : key_weight ls rs k ≡ plus (weight_of (get_or ls x.left 0)) (weight_of (get_or rs x.right 0))
  unfolding key_weight
  both_weight = rw (← is)

-- Whether a code is 0 says whether the state is final.
code_final : (fs : List Final) (s : ℕ) → not (eqb (final_code fs s) 0) ≡ is_final fs s
code_final fs s = rw (final_code_some fs s) (on (is_final fs s))
  where
    on : (b : Bool) → not (not b) ≡ b
    on true = refl
    on false = refl

-- The finals of packed states

module _ (t u : Transducer) (ls rs : List ℕ) (lby : FinalsByState t ls) (rby : FinalsByState u rs) where
  pub pack_final : (x : State) → Bounded x → key_final ls rs (pack x) ≡ final_state t u x
  unfolding key_final final_state
  pack_final x b =
      rw (
        unpacked_pack x b,
        lby.at_state x.left b.left,
        rby.at_state x.right b.right,
        code_final t.finals x.left,
        code_final u.finals x.right,
      )

  pub pack_weight : Good t → Good u → (x : State) → Bounded x → final_state t u x ≡ true → key_weight ls rs (pack x) ≡ state_weight t u x
  unfolding key_weight final_state state_weight
  pack_weight tg ug x b f =
      let both = and-true (is_final t.finals x.left) (is_final u.finals x.right) f in
      rw (
        unpacked_pack x b,
        lby.at_state x.left b.left,
        rby.at_state x.right b.right,
        weight_final_code t.finals x.left (finals_light t (good_tests t tg)) both.0,
        weight_final_code u.finals x.right (finals_light u (good_tests u ug)) both.1,
      )
