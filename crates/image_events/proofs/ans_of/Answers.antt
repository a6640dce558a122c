-- The proof of `image_events::ans_of`.
-- Assumes nothing.
use Rattle.bits.specs.Choice.{when◌then◌else◌}
use borrow.Author.Rules.{rules}
use Rattle.image_events.proofs.ans_of.Goals as goal

pub returns-then-unknown : goal.returns-then-unknown
unfolding when◌then◌else◌
returns-then-unknown c = simp c.if-unknown.true

pub returns-else-unknown : goal.returns-else-unknown
unfolding when◌then◌else◌
returns-else-unknown c = simp c.if-unknown.false c.number.ensures
