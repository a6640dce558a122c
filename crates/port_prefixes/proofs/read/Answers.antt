-- The proof of `port_prefixes::read`.
-- Assumes nothing.
use Rattle.bits.specs.Choice.{when◌then◌else◌}
use Rattle.port.specs.Prefix.{reading_of, continued}
use Rattle.port_prefixes.proofs.read.Goals as goal

pub returns-then-byte : goal.returns-then-byte
unfolding reading_of continued when◌then◌else◌
returns-then-byte c = simp c.if-byte.true

pub returns-in-Closed : goal.returns-in-Closed
unfolding reading_of continued when◌then◌else◌
returns-in-Closed c = simp (c.opening.ensures, c.in-Closed.is, c.if-byte.false)

pub returns-in-E0 : goal.returns-in-E0
unfolding reading_of continued when◌then◌else◌
returns-in-E0 c = simp (c.opening-in-E0.ensures, c.in-E0.is, c.if-byte.false)

pub returns-in-E1 : goal.returns-in-E1
unfolding reading_of continued when◌then◌else◌
returns-in-E1 c = simp (c.after_e1.ensures, c.in-E1.is, c.if-byte.false)

pub returns-in-E1Make : goal.returns-in-E1Make
unfolding reading_of continued when◌then◌else◌
returns-in-E1Make c = simp (c.ending.ensures, c.in-E1Make.is, c.if-byte.false)

pub returns-in-E1Break : goal.returns-in-E1Break
unfolding reading_of continued when◌then◌else◌
returns-in-E1Break c = simp (c.ending-in-E1Break.ensures, c.in-E1Break.is, c.if-byte.false)
