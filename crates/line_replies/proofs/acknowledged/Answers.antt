-- The proof of `line_replies::acknowledged`.
-- Assumes nothing.
use Rattle.bits.specs.Choice.{when◌then◌else◌}
use Rattle.line.specs.Reply.{acknowledged_of}
use Rattle.line_replies.proofs.acknowledged.Goals as goal

pub returns-then-command : goal.returns-then-command
unfolding acknowledged_of when◌then◌else◌
returns-then-command c =
    simp (
      c.replied.ensures,
      c.ended.ensures,
      ← c.mark_done.ensures,
      c.if-command.true,
    )

pub returns : goal.returns
unfolding acknowledged_of when◌then◌else◌
returns c =
    simp (
      c.replied-2.ensures,
      c.in_phase.ensures,
      ← c.operand.ensures,
      c.if-command.false,
    )
