-- What a shift and a mask leave of a number, at every width: 4 for the halves of a byte, 8 for those of a word.
-- Assumes nothing.
use Prim.Native.Nat.{ℕ, ◌-◌, ◌^◌, ◌/◌, ◌%◌}
use mathlib.Core.Path.{◌≡◌, refl}
use lib.Bits.{bit_and, and_mask}

-- `number >> width`, as the checker reads it
abbrev shifted : (width number : ℕ) → ℕ
shifted width number = number / 2 ^ width

-- `number & mask`, where the mask is as many ones as the width
abbrev masked : (width number : ℕ) → ℕ
masked width number = bit_and number (2 ^ width - 1)

-- the upper bits are the quotient, which is what a shift means
pub upper_bits : (width number : ℕ) → shifted width number ≡ number / 2 ^ width
upper_bits width number = refl

-- the lower bits are the remainder
pub lower_bits : (width number : ℕ) → masked width number ≡ number % 2 ^ width
lower_bits width number = and_mask number width
