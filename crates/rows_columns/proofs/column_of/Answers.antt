-- The proof of `rows_columns::column_of`.
-- Assumes nothing.
use Rattle.bits.specs.Choice.{when◌then◌else◌}
use Rattle.rows.specs.Column.{column_of}
use Rattle.rows_columns.proofs.column_of.Goals as goal

pub returns-then-selector : goal.returns-then-selector
unfolding column_of when◌then◌else◌
returns-then-selector c =
    simp
    c.if-selector.true

pub returns-then-selector-2 : goal.returns-then-selector-2
unfolding column_of when◌then◌else◌
returns-then-selector-2 c =
    simp (
      c.if-selector-2.true,
      c.if-selector.false,
    )

pub returns-then-is_shifted : goal.returns-then-is_shifted
unfolding column_of when◌then◌else◌
returns-then-is_shifted c =
    simp (
      c.if-is_shifted.true,
      ← c.is_shifted.ensures,
      c.if-selector-2.false,
      c.if-selector.false,
    )

pub returns : goal.returns
unfolding column_of when◌then◌else◌
returns c =
    simp (
      c.if-is_shifted.false,
      ← c.is_shifted.ensures,
      c.if-selector-2.false,
      c.if-selector.false,
    )
