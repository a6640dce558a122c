-- The proof of `image_lent::standing`.
-- Assumes nothing.
use Rattle.bits.specs.Choice.{when◌then◌else◌}
use Rattle.image_calls.specs.Exports.{recognised}
use borrow.Author.Rules.{rules}
use Rattle.image_lent.proofs.standing.Goals as goal

pub returns : goal.returns
unfolding recognised when◌then◌else◌
returns c = simp (c.event_on_copy-changed.ensures, c.default.ensures.0)
