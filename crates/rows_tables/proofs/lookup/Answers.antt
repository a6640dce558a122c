-- The proof of `rows_tables::lookup`.
-- Assumes nothing.
use Rattle.rows.specs.Column.{column_of}
use Rattle.rows.specs.Lookup.{lookup_of}
use Rattle.rows_tables.proofs.Table.{tabled}
use borrow.Author.Rules.{rules}
use Rattle.rows_tables.proofs.lookup.Goals as goal

pub returns : goal.returns
unfolding lookup_of
returns c =
    let a = c.args in
    simp (c.cell.ensures, c.column_of.ensures, c.place.ensures)
    (tabled a.extended a.code (search rules) (column_of a.code a.selector))
