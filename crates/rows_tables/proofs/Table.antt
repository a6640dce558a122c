-- The tables and the index of the code hold the printed rows: one test, computed at every code with and without E0 and at every column.
-- Assumes nothing.
use mathlib.Core.Path.{◌≡◌}
use mathlib.Core.Bool.{Bool, true, false, ◌&&◌}
use mathlib.Core.List.{[]}
use Prim.Native.Nat.{ℕ, ◌-◌, ◌/◌, ◌%◌, ◌<◌, ◌≤◌}
use lib.Dec.{T, lit<}
use lib.ListN.{get_or}
use borrow.Author.Tests.{lt-ltb, le-ltb}
use Rattle.bits.specs.Choice.{when◌then◌else◌}
use Rattle.bits.proofs.Tests.{and_left, and_right, each_of_four, all_below, below}
use Rattle.word.specs.declared.ScanCode.{ScanCode}
use Rattle.word.specs.Word.{code_of, table_index}
use Rattle.rows.specs.declared.Column.{Column}
use Rattle.rows.specs.declared.Column.TheVariants.{Plain, Shift, Ctrl, Alt}
use Rattle.rows.specs.Rows.{rows, extended_rows}
use Rattle.rows.specs.Lookup.{entry_at}
use Rattle.rows_tables.specs.Layout.{entry_of, index_of, table, places, place_of, cell_of}
use Rattle.rows.proofs.Entries.{same, same_equal}

pub index_below : (column : Column) → index_of column < 4
index_below Plain = lit< tt
index_below Shift = lit< tt
index_below Ctrl = lit< tt
index_below Alt = lit< tt

-- what a read of the index, of the 78 rows and of the extended rows gives
pub placed : (extended t : Bool) (code : ScanCode) (at : ℕ) → at ≡ table_index code → extended ≡ t → at < 0x60
    → get_or (get_or (places t) (at / 8) []) (at % 8) 0 ≡ place_of extended code
unfolding place_of when◌then◌else◌
placed extended t code at i e h = simp (e, ← i, lt-ltb at 0x60 h)

pub in_rows : (place at : ℕ) (column : Column) → at ≡ index_of column → place < 78
    → entry_of (get_or (get_or (table false) place []) at 0) ≡ cell_of place column
unfolding cell_of when◌then◌else◌
in_rows place at column e h = simp (e, lt-ltb place 78 h)

pub in_extended_rows : (place at : ℕ) (column : Column) → at ≡ index_of column → 78 ≤ place → place < 92
    → entry_of (get_or (get_or (table true) (place - 78) []) at 0) ≡ cell_of place column
unfolding cell_of when◌then◌else◌
in_extended_rows place at column e l h = simp (e, le-ltb place 78 l, lt-ltb place 92 h)

abbrev agree : Bool → ScanCode → Column → Bool
agree extended code column = same (cell_of (place_of extended code) column) (entry_at extended code column)

-- at every column
abbrev row_agrees : Bool → ScanCode → Bool
row_agrees extended code =
    agree extended code Plain && (agree extended code Shift && (agree extended code Ctrl && agree extended code Alt))

abbrev code_agrees : ScanCode → Bool
code_agrees code = row_agrees false code && row_agrees true code

test : T (all_below (λ (n : ℕ). code_agrees (code_of n)) 256)
unfolding when◌then◌else◌ rows extended_rows entry_at table places place_of cell_of
test = tt

at_row : (extended : Bool) (code : ScanCode) → T (code_agrees code) → T (row_agrees extended code)
at_row false code t = and_left (row_agrees false code) (row_agrees true code) t
at_row true code t = and_right (row_agrees false code) (row_agrees true code) t

pub tabled : (extended : Bool) (code : ScanCode) → table_index code < 256 → (column : Column)
    → cell_of (place_of extended code) column ≡ entry_at extended code column
tabled extended code h column = same_equal (cell_of (place_of extended code) column) (entry_at extended code column) (go column)
  where
    all : T (agree extended code Plain) × T (agree extended code Shift) × T (agree extended code Ctrl) × T (agree extended code Alt)
    all =
        each_of_four (agree extended code Plain) (agree extended code Shift) (agree extended code Ctrl) (agree extended code Alt)
        (at_row extended code (below (λ (n : ℕ). code_agrees (code_of n)) 256 test (table_index code) h))

    go : (k : Column) → T (agree extended code k)
    go Plain = all.0
    go Shift = all.1
    go Ctrl = all.2
    go Alt = all.3
