-- A byte as the sum of its eight digits: how large it is, its upper half, and each bit read back from it.
-- Assumes nothing.
use Prim.Native.Nat.{ℕ, zero, suc, ◌+◌, ◌*◌, ◌/◌, ◌%◌, ◌≤◌}
use native.Mathlib.Nat.{mul-one, mul-zero, le_of_suc-le-suc, not-suc-le-zero}
use native.Mathlib.Omega.{arith}
use mathlib.Core.Path.{◌≡◌, refl, sym}
use mathlib.Core.Bool.{Bool, true, false}
use lib.Dec.{eqb}
use Rattle.bits.specs.Choice.{when◌then◌else◌}
use Rattle.bits.specs.Bits.{weight_of, byte_of, bit0, bit1, bit2, bit3, bit4, bit5, bit6, bit7}

-- a bit's digit, 0 or 1
abbrev pub digit : Bool → ℕ
digit bit = weight_of bit 1

digit_most : (bit : Bool) → digit bit ≤ 1
unfolding weight_of when◌then◌else◌
digit_most true = omega arith
digit_most false = omega arith

weighed : (bit : Bool) (power : ℕ) → weight_of bit power ≡ power * digit bit
unfolding weight_of when◌then◌else◌
weighed true power = sym (mul-one power)
weighed false power = sym (mul-zero power)

pub digit_read : (bit : Bool) (number : ℕ) → number ≡ digit bit → eqb number 1 ≡ bit
unfolding weight_of when◌then◌else◌
digit_read true number is = rw is
digit_read false number is = rw is

module _ (b0 b1 b2 b3 b4 b5 b6 b7 : Bool) where
  pub record Spelt : Type 0 where
    pub sum : byte_of b0 b1 b2 b3 b4 b5 b6 b7
        ≡ digit b0 + 2 * digit b1 + 4 * digit b2 + 8 * digit b3 + 16 * digit b4 + 32 * digit b5 + 64 * digit b6 + 128 * digit b7
    pub most0 : digit b0 ≤ 1
    pub most1 : digit b1 ≤ 1
    pub most2 : digit b2 ≤ 1
    pub most3 : digit b3 ≤ 1
    pub most4 : digit b4 ≤ 1
    pub most5 : digit b5 ≤ 1
    pub most6 : digit b6 ≤ 1
    pub most7 : digit b7 ≤ 1

  pub spelt : Spelt
  unfolding byte_of
  spelt =
      record {
        sum = omega (arith, weighed b1 2, weighed b2 4, weighed b3 8, weighed b4 16, weighed b5 32, weighed b6 64, weighed b7 128);
        most0 = digit_most b0;
        most1 = digit_most b1;
        most2 = digit_most b2;
        most3 = digit_most b3;
        most4 = digit_most b4;
        most5 = digit_most b5;
        most6 = digit_most b6;
        most7 = digit_most b7;
      }

  pub byte_most : byte_of b0 b1 b2 b3 b4 b5 b6 b7 ≤ 255
  byte_most = let digits : Spelt = spelt in omega arith

  -- each bit comes back from the byte
  pub record BitsBack : Type 0 where
    pub at0 : bit0 (byte_of b0 b1 b2 b3 b4 b5 b6 b7) ≡ b0
    pub at1 : bit1 (byte_of b0 b1 b2 b3 b4 b5 b6 b7) ≡ b1
    pub at2 : bit2 (byte_of b0 b1 b2 b3 b4 b5 b6 b7) ≡ b2
    pub at3 : bit3 (byte_of b0 b1 b2 b3 b4 b5 b6 b7) ≡ b3
    pub at4 : bit4 (byte_of b0 b1 b2 b3 b4 b5 b6 b7) ≡ b4
    pub at5 : bit5 (byte_of b0 b1 b2 b3 b4 b5 b6 b7) ≡ b5
    pub at6 : bit6 (byte_of b0 b1 b2 b3 b4 b5 b6 b7) ≡ b6
    pub at7 : bit7 (byte_of b0 b1 b2 b3 b4 b5 b6 b7) ≡ b7

  pub bits_back : BitsBack
  bits_back =
      let digits : Spelt = spelt in
      record {
        at0 = digit_read b0 (byte_of b0 b1 b2 b3 b4 b5 b6 b7 % 2) (omega arith);
        at1 = digit_read b1 (byte_of b0 b1 b2 b3 b4 b5 b6 b7 / 2 % 2) (omega arith);
        at2 = digit_read b2 (byte_of b0 b1 b2 b3 b4 b5 b6 b7 / 4 % 2) (omega arith);
        at3 = digit_read b3 (byte_of b0 b1 b2 b3 b4 b5 b6 b7 / 8 % 2) (omega arith);
        at4 = digit_read b4 (byte_of b0 b1 b2 b3 b4 b5 b6 b7 / 16 % 2) (omega arith);
        at5 = digit_read b5 (byte_of b0 b1 b2 b3 b4 b5 b6 b7 / 32 % 2) (omega arith);
        at6 = digit_read b6 (byte_of b0 b1 b2 b3 b4 b5 b6 b7 / 64 % 2) (omega arith);
        at7 = digit_read b7 (byte_of b0 b1 b2 b3 b4 b5 b6 b7 / 128 % 2) (omega arith);
      }

-- bits 0 to 3 have no part in the upper half
module _ (b0 b1 b2 b3 b4 b5 b6 b7 : Bool) where
  pub upper_half : byte_of b0 b1 b2 b3 b4 b5 b6 b7 / 16 ≡ byte_of false false false false b4 b5 b6 b7 / 16
  upper_half =
      let digits : Spelt b0 b1 b2 b3 b4 b5 b6 b7 = spelt _ _ _ _ _ _ _ _ in
      let upper : Spelt false false false false b4 b5 b6 b7 = spelt _ _ _ _ _ _ _ _ in
      omega arith

-- a byte whose upper half is the lower half of a number
digit_of_lem : (number : ℕ) → number ≤ 1 → digit (eqb number 1) ≡ number
unfolding weight_of when◌then◌else◌
digit_of_lem zero most = refl
digit_of_lem (suc zero) most = refl
digit_of_lem (suc (suc number)) most = absurd (not-suc-le-zero (le_of_suc-le-suc most))

pub lower_half_raised : (number : ℕ) → byte_of false false false false (bit0 number) (bit1 number) (bit2 number) (bit3 number) ≡ 16 * (number % 16)
unfolding weight_of when◌then◌else◌
lower_half_raised number =
    let digits : Spelt false false false false (bit0 number) (bit1 number) (bit2 number) (bit3 number) = spelt _ _ _ _ _ _ _ _ in
    let at0 : digit (bit0 number) ≡ number % 2 = digit_of_lem (number % 2) (omega arith) in
    let at1 : digit (bit1 number) ≡ number / 2 % 2 = digit_of_lem (number / 2 % 2) (omega arith) in
    let at2 : digit (bit2 number) ≡ number / 4 % 2 = digit_of_lem (number / 4 % 2) (omega arith) in
    let at3 : digit (bit3 number) ≡ number / 8 % 2 = digit_of_lem (number / 8 % 2) (omega arith) in
    let quarter : number / 4 ≡ number / 2 / 2 = omega arith in
    let eighth : number / 8 ≡ number / 4 / 2 = omega arith in
    let sixteenth : number / 16 ≡ number / 8 / 2 = omega arith in
    let low : number % 16 ≡ number % 2 + 2 * (number / 2 % 2) + 4 * (number / 4 % 2) + 8 * (number / 8 % 2) = omega arith in
    omega arith
