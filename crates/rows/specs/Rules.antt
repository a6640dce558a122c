-- The row rules, as propositions over both tables. Proved in proofs/Rules.antt.
-- Assumes nothing.
use Rattle.std.specs.Prelude.{ℕ, ◌<◌, ◌≡◌, Bool, true, false, ◌&&◌, List, [], ◌∷◌, T, ltb, length}
use Rattle.word.specs.declared.ScanCode.{ScanCode}
use Rattle.word.specs.declared.Ascii.{Ascii}
use Rattle.word.specs.declared.Word.{Word}
use Rattle.word.specs.Word.{ascii_of, ascii_less, table_index, word_with, number_of}
use Rattle.rows.specs.declared.Column.{Column}
use Rattle.rows.specs.declared.Column.TheVariants.{Plain, Shift, Ctrl, Alt}
use Rattle.rows.specs.declared.Entry.{Entry}
use Rattle.rows.specs.declared.Entry.TheVariants.{NoRow, NoWord, Has}
use Rattle.rows.specs.Printed.{Print, none, two, four, Row, print_at}
use Rattle.rows.specs.Rows.{rows, row_at}
use Rattle.rows.specs.Column.{is_letter}
use Rattle.rows.specs.Lookup.{rows_for, entry_at}
use Rattle.rows.specs.Ascending.{ascending}

-- each code of the list is above the one before it
abbrev pub rising : ℕ → List Row → Bool
rising last [] = true
rising last (r ∷ more) = ltb last (table_index r.code) && rising (table_index r.code) more

-- the ASCII byte of an entry
abbrev pub ascii_in : Entry → Ascii
ascii_in NoRow = ascii_of 0
ascii_in NoWord = ascii_of 0
ascii_in (Has word) = word.ascii

-- the plain ASCII byte of a code less a number, under that code
abbrev pub plain_less : ℕ → ScanCode → Entry
plain_less n code = Has (word_with code (ascii_less (ascii_in (entry_at false code Plain)) n))

-- 00 under the code
abbrev pub only_high : ScanCode → Entry
only_high code = Has (word_with code (ascii_of 0x00))

-- four digits stand in the column
abbrev pub is_whole : Print → Bool
is_whole none = false
is_whole (two ascii) = false
is_whole (four word) = true

pub record RowRules : Type 0 where
  -- 78 rows, none of them lost where the code has them in ascending order
  pub printed : length rows ≡ 78
  pub count : length (ascending false) ≡ 78
  pub rise : T (rising 0 (ascending false))
  -- no row of either table holds the word 0000, so a table's 0 can stand for "-"
  pub nonzero : (extended : Bool) (code : ScanCode) → table_index code < 256 → (column : Column) (word : Word) → entry_at extended code column ≡ Has word
      → number_of word ≡ 0 → ⊥
  -- a letter's shift column is its plain one less 20, its ctrl column less 60, its alt column 00
  pub upper : (code : ScanCode) → table_index code < 256 → T (is_letter code) → entry_at false code Shift ≡ plain_less 0x20 code
  pub control : (code : ScanCode) → table_index code < 256 → T (is_letter code) → entry_at false code Ctrl ≡ plain_less 0x60 code
  pub alternate : (code : ScanCode) → table_index code < 256 → T (is_letter code) → entry_at false code Alt ≡ only_high code
  -- the high byte is the row's code unless four digits are printed
  pub high : (extended : Bool) (code : ScanCode) → table_index code < 256 → (column : Column) (word : Word) → entry_at extended code column ≡ Has word
      → is_whole (print_at (row_at (rows_for extended) code) column) ≡ false → word.scan ≡ code
