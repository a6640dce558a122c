-- Bits as numbers.
-- Assumes nothing.
use Rattle.std.specs.Prelude.{ℕ, ◌+◌, ◌/◌, ◌%◌, ◌≤◌, Bool, true, false, not, ◌≡◌, eqb}
use Rattle.std.specs.Bool.{beq}
use Rattle.bits.specs.Choice.{when◌then◌else◌}

abbrev pub exactly_one : Bool → Bool → Bool
exactly_one a b = not (beq a b)

-- a bit that is toggled where the test holds
abbrev pub toggle : Bool → Bool → Bool
toggle true bit = not bit
toggle false bit = bit

-- a bit's share of its byte
unfoldable pub weight_of : Bool → ℕ → ℕ
unfolding when◌then◌else◌
weight_of bit power = when bit then power else 0

-- the same as a promise, with the bound by which the sum of a byte fits
pub record Weight (bit : Bool) (power r : ℕ) : Type 0 where
  pub is : r ≡ weight_of bit power
  pub most : r ≤ power

-- a byte from its bits, bit 0 first
unfoldable pub byte_of : Bool → Bool → Bool → Bool → Bool → Bool → Bool → Bool → ℕ
byte_of b0 b1 b2 b3 b4 b5 b6 b7 =
    weight_of b0 1 + weight_of b1 2 + weight_of b2 4 + weight_of b3 8 + weight_of b4 16 + weight_of b5 32 + weight_of b6 64 + weight_of b7 128

-- the bits of a byte
abbrev pub bit0 : ℕ → Bool
bit0 byte = eqb (byte % 2) 1

abbrev pub bit1 : ℕ → Bool
bit1 byte = eqb (byte / 2 % 2) 1

abbrev pub bit2 : ℕ → Bool
bit2 byte = eqb (byte / 4 % 2) 1

abbrev pub bit3 : ℕ → Bool
bit3 byte = eqb (byte / 8 % 2) 1

abbrev pub bit4 : ℕ → Bool
bit4 byte = eqb (byte / 16 % 2) 1

abbrev pub bit5 : ℕ → Bool
bit5 byte = eqb (byte / 32 % 2) 1

abbrev pub bit6 : ℕ → Bool
bit6 byte = eqb (byte / 64 % 2) 1

abbrev pub bit7 : ℕ → Bool
bit7 byte = eqb (byte / 128 % 2) 1
