-- Flag byte 97.
-- Assumes nothing.
use Rattle.std.specs.Prelude.{ℕ, ◌+◌, ◌%◌, false}
use Rattle.bits.specs.Bits.{byte_of}
use Rattle.line.specs.State.{led_runs_of}
use Rattle.line.specs.declared.Line.{Line}

-- bits 0 to 2 the last LED value done (its last three bits, all that a LED value has), 4 FA taken, 5 FE taken, 6 a LED command runs, 7 given up
unfoldable pub byte97_of : Line → ℕ
byte97_of line =
    line.marks.done % 8
    + byte_of false false false false line.marks.acknowledged line.marks.resend (led_runs_of line) line.marks.abandoned
