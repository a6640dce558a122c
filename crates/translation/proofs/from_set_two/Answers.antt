-- The proof of `translation::from_set_two`.
-- Assumes nothing.
use Rattle.bits.specs.Choice.{when◌then◌else◌}
use Rattle.translation.specs.Translation.{from_set_two}
use borrow.Author.Tests.{eq-eqb, ne_eqb}
use Rattle.translation.proofs.from_set_two.Goals as goal

pub returns-then-byte-eq240 : goal.returns-then-byte-eq240
unfolding from_set_two when◌then◌else◌
returns-then-byte-eq240 c = simp (eq-eqb _ _ c.if-byte-eq240.true)

pub returns-then-byte : goal.returns-then-byte
unfolding from_set_two when◌then◌else◌
returns-then-byte c = simp (c.passing.ensures, c.if-byte.true, ne_eqb _ _ c.if-byte-eq240.false)

pub returns-then-byte-2 : goal.returns-then-byte-2
unfolding from_set_two when◌then◌else◌
returns-then-byte-2 c = simp (c.passing-then-byte-2.ensures, c.if-byte-2.true, c.if-byte.false, ne_eqb _ _ c.if-byte-eq240.false)

pub returns : goal.returns
unfolding from_set_two when◌then◌else◌
returns c = simp (c.passing-2.ensures, c.if-byte-2.false, c.if-byte.false, ne_eqb _ _ c.if-byte-eq240.false)
