-- The proof of `rows_columns::is_shifted`.
-- Assumes nothing.
use Rattle.bits.specs.Choice.{when◌then◌else◌}
use Rattle.rows.specs.Column.{is_shifted}
use Rattle.rows_columns.proofs.is_shifted.Goals as goal

pub returns-then-is_letter : goal.returns-then-is_letter
unfolding is_shifted when◌then◌else◌
returns-then-is_letter c =
    simp (
      c.if-is_letter.true,
      ← c.is_letter.ensures,
    )

pub returns-then-is_keypad : goal.returns-then-is_keypad
unfolding is_shifted when◌then◌else◌
returns-then-is_keypad c =
    simp (
      c.if-is_keypad.true,
      ← c.is_keypad.ensures,
      c.if-is_letter.false,
      ← c.is_letter.ensures,
    )

pub returns : goal.returns
unfolding is_shifted when◌then◌else◌
returns c =
    simp (
      c.if-is_keypad.false,
      ← c.is_keypad.ensures,
      c.if-is_letter.false,
      ← c.is_letter.ensures,
    )
