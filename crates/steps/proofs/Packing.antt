-- Packed states: a key gives back the parts that were packed, so no two states have the same key. Assumes nothing.
use mathlib.Core.Path.{◌≡◌, sym, ap, ◌∙◌}
use Prim.Native.Nat.{ℕ, ◌+◌, ◌*◌, ◌/◌, ◌%◌}
use native.Mathlib.Nat.{div-eq_of_lt-le, mul-add-mod_self_right, mod-eq_of_lt}
use native.Mathlib.Omega.{arith}
use Rattle.transducer.specs.Format.{max_states}
use Rattle.steps.specs.declared.State.{State}
use Rattle.steps.specs.Packing.{pack, unpacked, Bounded}

pub unpacked_pack : (x : State) → Bounded x → unpacked (pack x) ≡ x
unfolding pack unpacked
unpacked_pack x b =
    let key : ℕ = (x.left * max_states + x.right) * 2 + x.filter in
    let high : key / (2 * max_states) ≡ x.left = div-eq_of_lt-le (2 * max_states) (omega (arith, b.right, b.filter)) (omega (arith, b.right, b.filter)) in
    let half : key / 2 ≡ x.left * max_states + x.right = div-eq_of_lt-le 2 (omega arith) (omega (arith, b.filter)) in
    let mid : (x.left * max_states + x.right) % max_states ≡ x.right = mul-add-mod_self_right x.left max_states x.right ∙ mod-eq_of_lt b.right in
    let low : key % 2 ≡ x.filter = mul-add-mod_self_right (x.left * max_states + x.right) 2 x.filter ∙ mod-eq_of_lt b.filter in
    rw (high, half, mid, low)

pub pack_injective : (x y : State) → Bounded x → Bounded y → pack x ≡ pack y → x ≡ y
pack_injective x y b c e = sym (unpacked_pack x b) ∙ ap unpacked e ∙ unpacked_pack y c
