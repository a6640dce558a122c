-- The flag bytes of a service, and the modifiers, held bits, locks and pause that any such bytes mean; prefixes and codes as numbers.
-- Assumes nothing.
use Rattle.std.specs.Prelude.{ℕ, ◌+◌, ◌*◌, ◌/◌, ◌%◌, eqb}
use Rattle.bits.specs.Choice.{when◌then◌else◌}
use Rattle.bits.specs.Bits.{bit0, bit1, bit2, bit3, bit4, bit5, bit6, bit7}
use Rattle.port.specs.declared.Prefix.{Prefix}
use Rattle.port.specs.declared.Prefix.TheVariants.{Closed, E0, E1, E1Make, E1Break}
use Rattle.port.specs.declared.Modifiers.{Modifiers}
use Rattle.port.specs.declared.Held.{Held}
use Rattle.port.specs.declared.Shared.{Shared}
use Rattle.translation.specs.declared.Codes.{Codes}
use Rattle.translation.specs.declared.Codes.TheVariants.{SetOne, SetTwo, SetTwoMarked}
use Rattle.state.specs.declared.Service.{Service}
use Rattle.state.specs.State.{locks_of}
use Rattle.state.specs.Flags.{byte17_of, byte18_of, byte96_of, byte97_of}
use Rattle.image.specs.declared.FlagBytes.{FlagBytes}

abbrev pub flag_bytes_of : Service → FlagBytes
flag_bytes_of service =
    record { byte17 = byte17_of service; byte18 = byte18_of service; byte96 = byte96_of service; byte97 = byte97_of service }

-- the left Ctrl and Alt are told by byte 18, the right ones by byte 96
abbrev pub modifiers_at : FlagBytes → Modifiers
modifiers_at flags =
    record {
      shift = record { left = bit1 flags.byte17; right = bit0 flags.byte17 };
      ctrl = record { left = bit0 flags.byte18; right = bit2 flags.byte96 };
      alt = record { left = bit1 flags.byte18; right = bit3 flags.byte96 };
    }

abbrev pub held_at : ℕ → Held
held_at byte18 =
    record {
      scroll = bit4 byte18;
      num = bit5 byte18;
      caps = bit6 byte18;
      insert = bit7 byte18;
      sysreq = bit2 byte18;
    }

-- the lock bits are the upper half of byte 17
abbrev pub shared_at : FlagBytes → Shared
shared_at flags = record { locks = locks_of (flags.byte17 / 16); paused = bit3 flags.byte18 }

abbrev pub prefix_number : Prefix → ℕ
prefix_number Closed = 0
prefix_number E0 = 1
prefix_number E1 = 2
prefix_number E1Make = 3
prefix_number E1Break = 4

-- any other number is no prefix
unfoldable pub prefix_at : ℕ → Prefix
prefix_at number =
    when eqb number 1 then E0
    else when eqb number 2 then E1
    else when eqb number 3 then E1Make
    else when eqb number 4 then E1Break
    else Closed

abbrev pub codes_number : Codes → ℕ
codes_number SetOne = 0
codes_number SetTwo = 1
codes_number SetTwoMarked = 2

-- both in one byte: the prefix is its lower half, the codes are its upper half
abbrev pub input_number : ℕ → Codes → ℕ
input_number prefix codes = prefix % 16 + 16 * codes_number codes

-- any other number is set 1
unfoldable pub codes_at : ℕ → Codes
codes_at number =
    when eqb number 1 then SetTwo
    else when eqb number 2 then SetTwoMarked
    else SetOne
