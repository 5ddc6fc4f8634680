-- The fields of arcs gathered in one number of eight bytes: by `bit_or`, which is never below either of two numbers, nor in any field; and by `bit_and`, which
-- is never above.
--     or_above_l, or_above_r, or_input_.., or_output_.., or_target_..      bit_or only grows
--     and_target_.., and_output_..                                        bit_and only falls
--     eight_input, eight_output, eight_target                             what the fields are
-- Assumes nothing.
use Rattle.std.proofs.Common.{◌≡◌, ℕ, ◌+◌, ◌*◌, ◌/◌, ◌%◌, ◌<◌, ◌≤◌, List, ◌∙◌, mod-eq_of_lt, arith, lit<}
use native.Mathlib.Nat.{add-mul-div_left, div-eq_of_lt, add-mul-mod_self_left}
use lib.Bits.{bit_or, bit_and, or_add_and, and_le_l, and_le_r, or_mod, or_shr, and_mod, and_shr}
use Rattle.wire.specs.Bytes.{Bytes, two, four}
use Rattle.wire.proofs.Low.{two_below, four_below}
use Rattle.transducer.specs.Check.{eight, input_of, output_of, target_of}

-- bit_or

pub or_above_l : (a b : ℕ) → a ≤ bit_or a b
or_above_l a b = omega (arith, or_add_and a b, and_le_r a b)

pub or_above_r : (a b : ℕ) → b ≤ bit_or a b
or_above_r a b = omega (arith, or_add_and a b, and_le_l a b)

pub or_input : (a b : ℕ) → input_of (bit_or a b) ≡ bit_or (input_of a) (input_of b)
or_input a b = rw (or_shr a b 16) (or_mod (a / 65536) (b / 65536) 16)

pub or_output : (a b : ℕ) → output_of (bit_or a b) ≡ bit_or (output_of a) (output_of b)
or_output a b = rw (or_shr a b 32) (or_mod (a / 4294967296) (b / 4294967296) 16)

pub or_input_l : (a b : ℕ) → input_of a ≤ input_of (bit_or a b)
or_input_l a b = rw (or_input a b) (or_above_l (input_of a) (input_of b))

pub or_input_r : (a b : ℕ) → input_of b ≤ input_of (bit_or a b)
or_input_r a b = rw (or_input a b) (or_above_r (input_of a) (input_of b))

pub or_output_l : (a b : ℕ) → output_of a ≤ output_of (bit_or a b)
or_output_l a b = rw (or_output a b) (or_above_l (output_of a) (output_of b))

pub or_output_r : (a b : ℕ) → output_of b ≤ output_of (bit_or a b)
or_output_r a b = rw (or_output a b) (or_above_r (output_of a) (output_of b))

pub or_target_l : (a b : ℕ) → target_of a ≤ target_of (bit_or a b)
or_target_l a b = omega (arith, or_above_l a b)

pub or_target_r : (a b : ℕ) → target_of b ≤ target_of (bit_or a b)
or_target_r a b = omega (arith, or_above_r a b)

-- bit_and

pub and_target_l : (a b : ℕ) → target_of (bit_and a b) ≤ target_of a
and_target_l a b = omega (arith, and_le_l a b)

pub and_target_r : (a b : ℕ) → target_of (bit_and a b) ≤ target_of b
and_target_r a b = omega (arith, and_le_r a b)

pub and_output : (a b : ℕ) → output_of (bit_and a b) ≡ bit_and (output_of a) (output_of b)
and_output a b = rw (and_shr a b 32) (and_mod (a / 4294967296) (b / 4294967296) 16)

pub and_output_l : (a b : ℕ) → output_of (bit_and a b) ≤ output_of a
and_output_l a b = rw (and_output a b) (and_le_l (output_of a) (output_of b))

pub and_output_r : (a b : ℕ) → output_of (bit_and a b) ≤ output_of b
and_output_r a b = rw (and_output a b) (and_le_r (output_of a) (output_of b))

-- Fields

pub low_of : (a b : ℕ) → a < 65536 → (a + 65536 * b) % 65536 ≡ a
low_of a b h = add-mul-mod_self_left a 65536 b ∙ mod-eq_of_lt h

four_low_half : (bs : List ℕ) (at : ℕ) → Bytes bs → four bs at % 65536 ≡ two bs at
unfolding four
four_low_half bs at b = low_of (two bs at) (two bs (at + 2)) (two_below bs at b)

module _ (bs : List ℕ) (at : ℕ) (b : Bytes bs) where
  pub eight_input : input_of (eight bs at) ≡ two bs (at + 2)
  unfolding eight four
  eight_input =
      let rest : ℕ = two bs (at + 4) + 65536 * two bs (at + 4 + 2) in
      let split : two bs at + 65536 * two bs (at + 2) + 4294967296 * rest ≡ two bs at + 65536 * (two bs (at + 2) + 65536 * rest) = omega arith in
      let above : (two bs at + 65536 * (two bs (at + 2) + 65536 * rest)) / 65536 ≡ two bs (at + 2) + 65536 * rest =
      omega (arith, add-mul-div_left (two bs at) (two bs (at + 2) + 65536 * rest) {y = 65536} (lit< tt), div-eq_of_lt (two_below bs at b)) in
      rw (split, above) (low_of (two bs (at + 2)) rest (two_below bs (at + 2) b))

  pub eight_output : output_of (eight bs at) ≡ two bs (at + 4)
  unfolding eight
  eight_output =
      let above : (four bs at + 4294967296 * four bs (at + 4)) / 4294967296 ≡ four bs (at + 4) =
      omega (arith, add-mul-div_left (four bs at) (four bs (at + 4)) {y = 4294967296} (lit< tt), div-eq_of_lt (four_below bs at b)) in
      rw above (four_low_half bs (at + 4) b)

  pub eight_target : target_of (eight bs at) ≡ two bs (at + 6)
  unfolding eight four
  eight_target =
      let low : ℕ = two bs at + 65536 * two bs (at + 2) + 4294967296 * two bs (at + 4) in
      let small : low < 281474976710656 = omega (arith, two_below bs at b, two_below bs (at + 2) b, two_below bs (at + 4) b) in
      let place : at + 4 + 2 ≡ at + 6 = omega arith in
      let split : two bs at + 65536 * two bs (at + 2) + 4294967296 * (two bs (at + 4) + 65536 * two bs (at + 6)) ≡ low + 281474976710656 * two bs (at + 6) =
      omega arith in
      rw (place, split) (omega (arith, add-mul-div_left low (two bs (at + 6)) {y = 281474976710656} (lit< tt), div-eq_of_lt small))
