-- The row rules, each from one test computed at every code.
-- Assumes nothing.
use mathlib.Core.Path.{◌≡◌, refl, subst}
use mathlib.Core.Bool.{Bool, true, false, ◌&&◌, ◌||◌, not}
use Prim.Native.Nat.{ℕ, ◌<◌}
use lib.Dec.{T, eqb}
use borrow.Author.Tests.{eq-eqb}
use Rattle.bits.specs.Choice.{when◌then◌else◌}
use Rattle.bits.proofs.Tests.{and_left, and_right, implies, implied, all_below, below}
use Rattle.word.specs.declared.ScanCode.{ScanCode}
use Rattle.word.specs.declared.Word.{Word}
use Rattle.word.specs.Word.{code_of, same_code, table_index, number_of}
use Rattle.word.proofs.Laws.{same_code_lem}
use Rattle.rows.specs.declared.Column.{Column}
use Rattle.rows.specs.declared.Column.TheVariants.{Plain, Shift, Ctrl, Alt}
use Rattle.rows.specs.declared.Entry.{Entry}
use Rattle.rows.specs.declared.Entry.TheVariants.{Has}
use Rattle.rows.specs.Printed.{print_at}
use Rattle.rows.specs.Rows.{rows, extended_rows, row_at}
use Rattle.rows.specs.Column.{is_letter}
use Rattle.rows.specs.Lookup.{rows_for, entry_at}
use Rattle.rows.specs.Ascending.{ascending}
use Rattle.rows.specs.Rules.{RowRules, plain_less, only_high, is_whole}
use Rattle.rows.proofs.Entries.{same, same_equal, column_passes, each_word}

-- a letter's entry in a column is the one expected
abbrev letter_agrees : Column → (ScanCode → Entry) → ScanCode → Bool
letter_agrees column expected code = implies (is_letter code) (same (entry_at false code column) (expected code))

letter_rule : (column : Column) (expected : ScanCode → Entry) → T (all_below (λ (n : ℕ). letter_agrees column expected (code_of n)) 256)
    → (code : ScanCode) → table_index code < 256 → T (is_letter code) → entry_at false code column ≡ expected code
letter_rule column expected t code h l =
    same_equal (entry_at false code column) (expected code)
    (implied (is_letter code) (same (entry_at false code column) (expected code))
    (below (λ (n : ℕ). letter_agrees column expected (code_of n)) 256 t (table_index code) h) l)

-- what is tested of every word in a table, with the code and the column where it stands
abbrev is_nonzero : Word → Bool
is_nonzero word = not (eqb (number_of word) 0)

abbrev has_high : Bool → Column → ScanCode → Word → Bool
has_high extended column code word = is_whole (print_at (row_at (rows_for extended) code) column) || same_code word.scan code

abbrev passes : Bool → Column → ScanCode → Word → Bool
passes extended column code word = is_nonzero word && has_high extended column code word

test : (extended : Bool) (column : Column) → T (column_passes (passes extended column) extended column)
unfolding when◌then◌else◌ rows extended_rows entry_at
test false Plain = tt
test false Shift = tt
test false Ctrl = tt
test false Alt = tt
test true Plain = tt
test true Shift = tt
test true Ctrl = tt
test true Alt = tt

passed : (extended : Bool) (code : ScanCode) → table_index code < 256 → (column : Column) (word : Word) → entry_at extended code column ≡ Has word
    → T (passes extended column code word)
passed extended code h column word e = each_word (passes extended column) extended column (test extended column) code h word e

nonzero_sound : (n : ℕ) → T (not (eqb n 0)) → n ≡ 0 → ⊥
nonzero_sound n t e = subst (λ (b : Bool). T (not b)) (eq-eqb n 0 e) t

high_sound : (b : Bool) (scan code : ScanCode) → T (b || same_code scan code) → b ≡ false → scan ≡ code
high_sound b scan code t e =
    same_code_lem scan code (subst (λ (x : Bool). T (x || same_code scan code)) e t)

pub row_rules : RowRules
unfolding when◌then◌else◌ rows ascending entry_at
row_rules =
    record {
      printed = refl;
      count = refl;
      rise = tt;
      nonzero =
          λ extended code h column word e.
          nonzero_sound (number_of word) (and_left (is_nonzero word) (has_high extended column code word) (passed extended code h column word e));
      upper = letter_rule Shift (plain_less 0x20) tt;
      control = letter_rule Ctrl (plain_less 0x60) tt;
      alternate = letter_rule Alt only_high tt;
      high =
          λ extended code h column word e.
          high_sound (is_whole (print_at (row_at (rows_for extended) code) column)) word.scan code
          (and_right (is_nonzero word) (has_high extended column code word) (passed extended code h column word e));
    }
