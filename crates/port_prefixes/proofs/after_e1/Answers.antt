-- The proof of `port_prefixes::after_e1`.
-- Assumes nothing.
use borrow.Author.Tests.{eq-eqb, ne_eqb}
use Rattle.bits.specs.Choice.{when◌then◌else◌}
use Rattle.port.specs.Prefix.{continued}
use Rattle.port_prefixes.proofs.after_e1.Goals as goal

pub returns-then-byte : goal.returns-then-byte
unfolding continued when◌then◌else◌
returns-then-byte c = simp (eq-eqb _ _ c.if-byte.true)

pub returns-then-byte-2 : goal.returns-then-byte-2
unfolding continued when◌then◌else◌
returns-then-byte-2 c = simp (eq-eqb _ _ c.if-byte-2.true, ne_eqb _ _ c.if-byte.false)

pub returns : goal.returns
unfolding continued when◌then◌else◌
returns c = simp (c.opening.ensures, ne_eqb _ _ c.if-byte-2.false, ne_eqb _ _ c.if-byte.false)
