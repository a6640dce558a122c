-- The proof of `line_replies::mark_done`.
-- Assumes nothing.
use Rattle.bits.specs.Choice.{when◌then◌else◌}
use Rattle.line.specs.Reply.{mark_done_of}
use Rattle.line_replies.proofs.mark_done.Goals as goal

pub returns-then-is_led : goal.returns-then-is_led
unfolding mark_done_of when◌then◌else◌
returns-then-is_led c =
    simp (
      c.with_marks.ensures,
      (simp c.is_led.ensures at c.if-is_led.true),
    )

pub returns : goal.returns
unfolding mark_done_of when◌then◌else◌
returns c =
    simp (simp c.is_led.ensures at c.if-is_led.false)
