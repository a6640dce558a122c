-- How the code lays the rows out: two tables of numbers and an index, computed here from the rows. For the crate's private functions.
-- Assumes nothing.
use Rattle.std.specs.Prelude.{ℕ, zero, suc, ◌+◌, ◌-◌, ◌/◌, ◌%◌, Bool, true, false, List, [], ◌∷◌, map, eqb, ltb, get_or}
use Rattle.bits.specs.Choice.{when◌then◌else◌}
use Rattle.word.specs.declared.ScanCode.{ScanCode}
use Rattle.word.specs.Word.{code_of, same_code, table_index, word_with, word_from, number_of}
use Rattle.rows.specs.declared.Column.{Column}
use Rattle.rows.specs.declared.Column.TheVariants.{Plain, Shift, Ctrl, Alt}
use Rattle.rows.specs.declared.Entry.{Entry}
use Rattle.rows.specs.declared.Entry.TheVariants.{NoRow, NoWord, Has}
use Rattle.rows.specs.Printed.{Print, none, two, four, Row}
use Rattle.rows.specs.Ascending.{ascending}

-- a row as four numbers, 0 for "-"
abbrev pub number : ScanCode → Print → ℕ
number code none = 0
number code (two ascii) = number_of (word_with code ascii)
number code (four word) = number_of word

abbrev pub numbers : Row → List ℕ
numbers r =
    number r.code r.plain ∷ number r.code r.shift ∷ number r.code r.ctrl ∷ number r.code r.alt ∷ []

unfoldable pub table : Bool → List (List ℕ)
unfolding ascending
table extended = map numbers (ascending extended)

abbrev pub entry_of : ℕ → Entry
entry_of n = when eqb n 0 then NoWord else Has (word_from n)

abbrev pub index_of : Column → ℕ
index_of Plain = 0
index_of Shift = 1
index_of Ctrl = 2
index_of Alt = 3

-- a code's place: its row's in the 78, or 78 more than its row's in the extended 14, or 92 for no row
abbrev pub place_in : List Row → ℕ → ScanCode → ℕ
place_in [] place code = 92
place_in (r ∷ more) place code = when same_code code r.code then place else place_in more (suc place) code

-- the index: the places of the codes below 60, eight to a line
abbrev pub line : List Row → ℕ → ℕ → ℕ → List ℕ
line list first number zero = []
line list first number (suc n) = place_in list first (code_of number) ∷ line list first (suc number) n

abbrev pub lines : List Row → ℕ → ℕ → ℕ → List (List ℕ)
lines list first number zero = []
lines list first number (suc n) = line list first number 8 ∷ lines list first (number + 8) n

unfoldable pub places : Bool → List (List ℕ)
unfolding ascending
places false = lines (ascending false) 0 0 12
places true = lines (ascending true) 78 0 12

unfoldable pub place_of : Bool → ScanCode → ℕ
place_of extended code =
    let at = table_index code in when ltb at 0x60 then get_or (get_or (places extended) (at / 8) []) (at % 8) 0 else 92

-- what stands at a place and a column
unfoldable pub cell_of : ℕ → Column → Entry
cell_of place column =
    when ltb place 78 then entry_of (get_or (get_or (table false) place []) (index_of column) 0)
    else when ltb place 92 then entry_of (get_or (get_or (table true) (place - 78) []) (index_of column) 0)
    else NoRow
