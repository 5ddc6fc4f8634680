-- The law of packing: the parts of a packed state are those packed. So no two states are packed alike. Assumes nothing.
use mathlib.Core.Path.{◌≡◌, sym, ap, ◌∙◌}
use Prim.Native.Nat.{ℕ, ◌+◌, ◌*◌, ◌/◌, ◌%◌, ◌<◌}
use native.Mathlib.Nat.{div-eq_of_lt-le, mul-add-mod_self_right, mod-eq_of_lt}
use native.Mathlib.Omega.{arith}
use Rattle.transducer.specs.Format.{max_states}
use Rattle.lattice.specs.declared.State.{State}
use Rattle.lattice.specs.Pack.{pack, unpacked}

pub unpacked_pack : (x : State) → x.state < max_states → unpacked (pack x) ≡ x
unfolding pack unpacked
unpacked_pack x l =
    let high : (x.position * max_states + x.state) / max_states ≡ x.position = div-eq_of_lt-le max_states (omega arith) (omega arith) in
    let low : (x.position * max_states + x.state) % max_states ≡ x.state = mul-add-mod_self_right x.position max_states x.state ∙ mod-eq_of_lt l in
    rw (high, low)

-- Whatever the number, the state unpacked is a state's number.
pub unpacked_small : (k : ℕ) → (unpacked k).state < max_states
unfolding unpacked
unpacked_small k = omega arith

pub pack_injective : (x y : State) → x.state < max_states → y.state < max_states → pack x ≡ pack y → x ≡ y
pack_injective x y b c e = sym (unpacked_pack x b) ∙ ap unpacked e ∙ unpacked_pack y c
