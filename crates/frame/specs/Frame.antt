-- Document 02, W-202: frames, numbers of eleven bits of which the lowest is the first on the wire.
-- Assumes nothing.
use Rattle.std.specs.Prelude.{ℕ, ◌+◌, ◌-◌, ◌*◌, ◌/◌, ◌%◌, ◌^◌, Bool, ◌||◌, not, leb, eqb, Result, Ok, Err}
use Rattle.std.specs.Int.Count.{ones}
use Rattle.bits.specs.Choice.{when◌then◌else◌}
use Rattle.frame.specs.declared.Fault.{Fault}
use Rattle.frame.specs.declared.Fault.TheVariants.{Start, Parity, Stop}

-- so many bits of a number, from a place on
abbrev pub bits_at : ℕ → ℕ → ℕ → ℕ
bits_at number place count = number / 2 ^ place % 2 ^ count

-- The parts of a frame, in the order of the wire; data and parity are counted together.

abbrev pub start_of : ℕ → ℕ
start_of frame = bits_at frame 0 1

abbrev pub data_of : ℕ → ℕ
data_of frame = bits_at frame 1 8

abbrev pub data_and_parity_of : ℕ → ℕ
data_and_parity_of frame = bits_at frame 1 9

abbrev pub stop_of : ℕ → ℕ
stop_of frame = bits_at frame 10 1

-- the count of ones in data and parity is to be odd
abbrev pub is_odd : ℕ → Bool
is_odd count = eqb (count % 2) 1

abbrev pub parity_for : ℕ → ℕ
parity_for byte = 1 - ones byte % 2

-- the writer: start 0, the byte lowest bit first, parity, stop 1
unfoldable pub frame_of : ℕ → ℕ
frame_of byte = 0 * 2 ^ 0 + byte * 2 ^ 1 + parity_for byte * 2 ^ 9 + 1 * 2 ^ 10

-- the reader: the byte, or the first fault
unfoldable pub read_frame : ℕ → Result ℕ Fault
read_frame frame =
    when leb 2048 frame || not (eqb (start_of frame) 0) then Err Start
    else when not (is_odd (ones (data_and_parity_of frame))) then Err Parity
    else when not (eqb (stop_of frame) 1) then Err Stop
    else Ok (data_of frame)

-- 11 too large or the start bit not 0, 12 parity, 13 the stop bit not 1
abbrev pub fault_number : Fault → ℕ
fault_number Start = 11
fault_number Parity = 12
fault_number Stop = 13
