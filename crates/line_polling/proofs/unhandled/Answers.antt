-- The proof of `line_polling::unhandled`.
-- Assumes nothing.
use Rattle.bits.specs.Choice.{when◌then◌else◌}
use Rattle.line.specs.Poll.{unhandled_of}
use Rattle.line_polling.proofs.Options.{is_value_as_equal}
use Rattle.line_polling.proofs.unhandled.Goals as goal

pub returns-then-eq : goal.returns-then-eq
unfolding unhandled_of when◌then◌else◌
returns-then-eq c = simp (is_value_as_equal, ← c.eq.ensures, c.if-eq.true)

pub returns : goal.returns
unfolding unhandled_of when◌then◌else◌
returns c = simp (is_value_as_equal, ← c.eq.ensures, c.if-eq.false)
