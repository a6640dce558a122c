-- The proof of `port_alt_entry::alt_digit`.
-- Assumes nothing.
use Rattle.bits.specs.Choice.{when◌then◌else◌}
use Rattle.port.specs.AltEntry.{alt_digit}
use Rattle.port_alt_entry.proofs.alt_digit.Goals as goal

pub returns-then-alt-code : goal.returns-then-alt-code
unfolding alt_digit when◌then◌else◌
returns-then-alt-code c = simp (c.keypad_digit.ensures, c.if-alt-code.true)

pub returns : goal.returns
unfolding alt_digit when◌then◌else◌
returns c = simp c.if-alt-code.false
