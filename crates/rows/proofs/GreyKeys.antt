-- Grey keys are told apart: one test, computed at every code and column of both tables.
-- Assumes nothing.
use Prim.Native.Nat.{◌<◌}
use mathlib.Core.Path.{◌≡◌, sym, ◌∙◌}
use mathlib.Core.Bool.{Bool, true, false, ◌&&◌, ◌||◌, not}
use mathlib.Core.List.{List, [], ◌∷◌}
use lib.Dec.{T, T_not}
use Rattle.bits.specs.Choice.{when◌then◌else◌}
use Rattle.bits.proofs.Tests.{and_left, and_right}
use Rattle.word.specs.declared.ScanCode.{ScanCode}
use Rattle.word.specs.declared.Word.{Word}
use Rattle.word.specs.Word.{code_of, same_code, table_index}
use Rattle.word.proofs.Laws.{same_code_lem, has_e0}
use Rattle.rows.specs.declared.Column.{Column}
use Rattle.rows.specs.declared.Column.TheVariants.{Plain, Shift, Ctrl, Alt}
use Rattle.rows.specs.declared.Entry.TheVariants.{Has}
use Rattle.rows.specs.Printed.{Row, meaning}
use Rattle.rows.specs.Rows.{rows, extended_rows}
use Rattle.rows.specs.Lookup.{entry_at}
use Rattle.rows.specs.GreyKeys.{GreyKeysToldApart}
use Rattle.rows.proofs.Entries.{same, column_passes, each_word}

-- the code of the first row that has a word
abbrev holds : Row → Word → Bool
holds r word = same (meaning r.code r.plain) (Has word) || same (meaning r.code r.ctrl) (Has word)

abbrev owner : List Row → Word → ScanCode
owner [] word = code_of 0
owner (r ∷ more) word = when holds r word then r.code else owner more word

-- only grey keys have E0 in their words
abbrev passes : Bool → ScanCode → Word → Bool
passes false code word = not (has_e0 word)
passes true code word = has_e0 word && same_code (owner extended_rows word) code

test : (extended : Bool) (column : Column) → T (column_passes (passes extended) extended column)
unfolding when◌then◌else◌ rows extended_rows entry_at
test false Plain = tt
test false Shift = tt
test false Ctrl = tt
test false Alt = tt
test true Plain = tt
test true Shift = tt
test true Ctrl = tt
test true Alt = tt

passed : (extended : Bool) (code : ScanCode) → table_index code < 256 → (column : Column) (word : Word) → entry_at extended code column ≡ Has word
    → T (passes extended code word)
passed extended code h column word e = each_word (passes extended) extended column (test extended column) code h word e

owned : (code : ScanCode) → table_index code < 256 → (column : Column) (word : Word) → entry_at true code column ≡ Has word → owner extended_rows word ≡ code
owned code h column word e =
    same_code_lem (owner extended_rows word) code (and_right (has_e0 word) (same_code (owner extended_rows word) code) (passed true code h column word e))

pub grey_keys_told_apart : GreyKeysToldApart
grey_keys_told_apart =
    record {
      from_others =
          λ code other h k column beside word e f.
          T_not (has_e0 word) (passed false other k beside word f)
          (and_left (has_e0 word) (same_code (owner extended_rows word) code) (passed true code h column word e));
      from_each_other = λ code other h k column beside word e f. sym (owned code h column word e) ∙ owned other k beside word f;
    }
