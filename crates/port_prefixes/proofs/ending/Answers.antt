-- The proof of `port_prefixes::ending`.
-- Assumes nothing.
use borrow.Author.Tests.{eq-eqb, ne_eqb}
use Rattle.bits.specs.Choice.{when◌then◌else◌}
use Rattle.port_prefixes.proofs.ending.Goals as goal

pub returns-then-byte-last : goal.returns-then-byte-last
unfolding when◌then◌else◌
returns-then-byte-last c = simp (eq-eqb _ _ c.if-byte-last.true)

pub returns : goal.returns
unfolding when◌then◌else◌
returns c = simp (c.opening.ensures, ne_eqb _ _ c.if-byte-last.false)
