-- What a make gives, by its code and by what is on.
-- Assumes nothing.
use Rattle.std.specs.Prelude.{Bool, true, false, List, [], ◌∷◌}
use Rattle.bits.specs.Choice.{when◌then◌else◌}
use Rattle.word.specs.declared.ScanCode.{ScanCode}
use Rattle.word.specs.Word.{same_code}
use Rattle.rows.specs.declared.Column.{Column}
use Rattle.rows.specs.declared.Entry.{Entry}
use Rattle.rows.specs.declared.Entry.TheVariants.{NoRow}
use Rattle.rows.specs.declared.Selector.{Selector}
use Rattle.rows.specs.Printed.{Row, print_at, meaning}
use Rattle.rows.specs.Rows.{rows, extended_rows}
use Rattle.rows.specs.Column.{column_of}

-- the entry of a code and a column in a list of rows
abbrev pub entry_in : List Row → ScanCode → Column → Entry
entry_in [] code column = NoRow
entry_in (r ∷ more) code column = when same_code code r.code then meaning code (print_at r column) else entry_in more code column

-- the rows of codes without and with E0
abbrev pub rows_for : Bool → List Row
rows_for false = rows
rows_for true = extended_rows

unfoldable pub entry_at : Bool → ScanCode → Column → Entry
entry_at extended code column = entry_in (rows_for extended) code column

-- the entry of a make, extended or not, with what is on
unfoldable pub lookup_of : ScanCode → Bool → Selector → Entry
lookup_of code extended s = entry_at extended code (column_of code s)
