-- The proof of `port_prefixes::opening`.
-- Assumes nothing.
use Rattle.port.specs.Prefix.{opened}
use Rattle.bits.specs.Choice.{when◌then◌else◌}
use borrow.Author.Tests.{eq-eqb, ne_eqb}
use Rattle.port_prefixes.proofs.opening.Goals as goal

pub returns-then-byte-eq224 : goal.returns-then-byte-eq224
unfolding opened when◌then◌else◌
returns-then-byte-eq224 c =
    simp
    (eq-eqb _ _ c.if-byte-eq224.true)

pub returns-then-byte : goal.returns-then-byte
unfolding opened when◌then◌else◌
returns-then-byte c =
    simp (
      eq-eqb _ _ c.if-byte.true,
      ne_eqb _ _ c.if-byte-eq224.false,
    )

pub returns : goal.returns
unfolding opened when◌then◌else◌
returns c =
    simp (
      c.from-scan.ensures,
      ne_eqb _ _ c.if-byte.false,
      ne_eqb _ _ c.if-byte-eq224.false,
    )
