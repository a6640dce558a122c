-- The proof of `line_polling::next_command`.
-- Assumes nothing.
use Rattle.line.specs.Poll.{next_of, in_turn_of}
use Rattle.line_polling.proofs.Options.{first_as_or}
use Rattle.line_polling.proofs.next_command.Goals as goal

pub returns-in-Led : goal.returns-in-Led
unfolding next_of in_turn_of
returns-in-Led c =
    simp (c.or.ensures, c.in-Led.is, first_as_or, ← c.unhandled-lamps.ensures, ← c.waiting-rate.ensures)

pub returns-in-Rate : goal.returns-in-Rate
unfolding next_of in_turn_of
returns-in-Rate c =
    simp (c.or-in-Rate.ensures, c.in-Rate.is, first_as_or, ← c.unhandled-lamps.ensures, ← c.waiting-rate.ensures)
