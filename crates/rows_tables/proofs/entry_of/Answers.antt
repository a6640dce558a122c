-- The proof of `rows_tables::entry_of`.
-- Assumes nothing.
use Rattle.bits.specs.Choice.{when◌then◌else◌}
use borrow.Author.Tests.{eq-eqb, ne_eqb}
use Rattle.rows_tables.proofs.entry_of.Goals as goal

pub returns-then-number-eq0 : goal.returns-then-number-eq0
unfolding when◌then◌else◌
returns-then-number-eq0 c =
    simp
    (eq-eqb _ _ c.if-number-eq0.true)

pub returns : goal.returns
unfolding when◌then◌else◌
returns c =
    simp (
      c.from.ensures,
      ne_eqb _ _ c.if-number-eq0.false,
    )
