-- The proof of `line_polling::due`.
-- Assumes nothing.
use Rattle.bits.specs.Choice.{when◌then◌else◌}
use Rattle.line.specs.Poll.{due_of}
use Rattle.line_polling.proofs.due.Goals as goal

pub returns-then-command : goal.returns-then-command
unfolding due_of when◌then◌else◌
returns-then-command c =
    simp
    c.if-command.true

pub returns : goal.returns
unfolding due_of when◌then◌else◌
returns c =
    simp (
      c.first_byte.ensures,
      c.if-command.false,
    )
