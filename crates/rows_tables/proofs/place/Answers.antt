-- The proof of `rows_tables::place`.
-- Assumes nothing.
use Rattle.bits.specs.Choice.{when◌then◌else◌}
use mathlib.Core.Bool.{true, false}
use Rattle.rows_tables.proofs.Table.{placed}
use borrow.Author.Tests.{le-ltb}
use Rattle.rows_tables.specs.Layout.{place_of, places}
use Rattle.rows_tables.proofs.place.Goals as goal

pub returns-then-at-ge96 : goal.returns-then-at-ge96
unfolding place_of when◌then◌else◌
returns-then-at-ge96 c = simp (← c.table_index-at.ensures, le-ltb _ _ c.if-at-ge96.true)

pub returns-then-extended : goal.returns-then-extended
unfolding places when◌then◌else◌
returns-then-extended c =
    let a = c.args in
    placed a.extended true a.code c.table_index-at.result c.table_index-at.ensures c.if-extended.true c.if-at-ge96.false

pub returns : goal.returns
unfolding places when◌then◌else◌
returns c =
    let a = c.args in
    placed a.extended false a.code c.table_index-at.result c.table_index-at.ensures c.if-extended.false c.if-at-ge96.false
