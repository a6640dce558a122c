-- Document 02, W-205, as a rule of both tables: a stored word tells which grey key put it. Proved in proofs/GreyKeys.antt.
-- Assumes nothing.
use Rattle.std.specs.Prelude.{◌<◌, ◌≡◌, true, false}
use Rattle.word.specs.declared.ScanCode.{ScanCode}
use Rattle.word.specs.declared.Word.{Word}
use Rattle.word.specs.Word.{table_index}
use Rattle.rows.specs.declared.Column.{Column}
use Rattle.rows.specs.declared.Entry.TheVariants.{Has}
use Rattle.rows.specs.Lookup.{entry_at}

pub record GreyKeysToldApart : Type 0 where
  -- a word of an extended row stands in none of the 78 rows, whatever their codes and columns
  pub from_others : (code other : ScanCode) → table_index code < 256 → table_index other < 256 → (column beside : Column) (word : Word)
      → entry_at true code column ≡ Has word → entry_at false other beside ≡ Has word → ⊥
  -- and in one extended row only
  pub from_each_other : (code other : ScanCode) → table_index code < 256 → table_index other < 256 → (column beside : Column) (word : Word)
      → entry_at true code column ≡ Has word → entry_at true other beside ≡ Has word → code ≡ other
