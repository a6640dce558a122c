-- The proof of `image_events::controller_after`.
-- Assumes nothing.
use Rattle.bits.specs.Choice.{when◌then◌else◌}
use borrow.Author.Rules.{rules}
use Rattle.image_events.proofs.controller_after.Goals as goal

pub returns-then-is_restart : goal.returns-then-is_restart
unfolding when◌then◌else◌
returns-then-is_restart c = simp (c.new.ensures, ← c.is_restart.ensures, c.if-is_restart.true)

pub returns : goal.returns
unfolding when◌then◌else◌
returns c = simp (c.in_range.ensures, ← c.is_restart.ensures, c.if-is_restart.false)
