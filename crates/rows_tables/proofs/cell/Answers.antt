-- The proof of `rows_tables::cell`.
-- Assumes nothing.
use Rattle.bits.specs.Choice.{when◌then◌else◌}
use mathlib.Core.Path.{◌∙◌}
use borrow.Author.Tests.{le-ltb}
use Rattle.rows_tables.specs.Layout.{cell_of, table}
use native.Mathlib.Omega.{arith}
use Rattle.rows_tables.proofs.Table.{index_below, in_rows, in_extended_rows}
use Rattle.rows_tables.proofs.cell.Goals as goal

pub offset_bounds-row-at : goal.offset_bounds-row-at
offset_bounds-row-at c = omega (arith, index_below c.args.column, c.index-at.ensures)

pub bounds-at : goal.bounds-at
bounds-at c = omega (arith, index_below c.args.column, c.index-at.ensures)

pub returns-then-row-lt78 : goal.returns-then-row-lt78
unfolding table when◌then◌else◌
returns-then-row-lt78 c =
    c.entry_of.ensures ∙ in_rows c.args.place c.index-at.result c.args.column c.index-at.ensures c.if-row-lt78.true

pub offset_bounds-row-at-then-row-lt92 : goal.offset_bounds-row-at-then-row-lt92
offset_bounds-row-at-then-row-lt92 c = omega (arith, index_below c.args.column, c.index-at.ensures)

pub bounds-at-then-row-lt92 : goal.bounds-at-then-row-lt92
bounds-at-then-row-lt92 c = omega (arith, index_below c.args.column, c.index-at.ensures)

pub returns-then-row-lt92 : goal.returns-then-row-lt92
unfolding table when◌then◌else◌
returns-then-row-lt92 c =
    c.entry_of-then-row-lt92.ensures ∙ in_extended_rows c.args.place c.index-at.result c.args.column c.index-at.ensures c.if-row-lt78.false c.if-row-lt92.true

pub returns : goal.returns
unfolding cell_of when◌then◌else◌
returns c = simp (le-ltb _ _ c.if-row-lt92.false, le-ltb _ _ c.if-row-lt78.false)
