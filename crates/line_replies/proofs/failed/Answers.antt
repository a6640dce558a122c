-- The proof of `line_replies::failed`.
-- Assumes nothing.
use Rattle.bits.specs.Choice.{when◌then◌else◌}
use Rattle.line.specs.Reply.{failed_of}
use borrow.Author.Tests.{le-ltb, lt-ltb}
use Rattle.line_replies.proofs.failed.Goals as goal

pub returns-then-command-lt3 : goal.returns-then-command-lt3
unfolding failed_of when◌then◌else◌
returns-then-command-lt3 c =
    simp (
      c.replied.ensures,
      c.in_phase.ensures,
      lt-ltb _ _ c.if-command-lt3.true,
    )

pub returns : goal.returns
unfolding failed_of when◌then◌else◌
returns c =
    simp (
      c.replied-2.ensures,
      c.ended.ensures,
      ← c.mark_abandoned.ensures,
      le-ltb _ _ c.if-command-lt3.false,
    )
