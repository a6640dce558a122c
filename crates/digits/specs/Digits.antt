-- How numbers are shown: hexadecimal digits in capitals.
-- Assumes nothing.
use Rattle.std.specs.Prelude.{ℕ, ◌+◌, ◌-◌, ◌/◌, ◌%◌, List, [], ◌∷◌, ◌++◌, ltb}
use Rattle.bits.specs.Choice.{when◌then◌else◌}

-- the characters 0 to 9, then A to F
abbrev pub character_of : ℕ → ℕ
character_of nibble = when ltb nibble 10 then 0x30 + nibble else 0x41 + (nibble - 10)

-- the last digit of a number; its only one below 16
unfoldable pub digit_of : ℕ → ℕ
digit_of number = character_of (number % 16)

-- a byte
abbrev pub two_digits : ℕ → List ℕ
two_digits byte = digit_of (byte / 16) ∷ digit_of byte ∷ []

-- a word
abbrev pub four_digits : ℕ → List ℕ
four_digits word = two_digits (word / 0x100) ++ two_digits (word % 0x100)
