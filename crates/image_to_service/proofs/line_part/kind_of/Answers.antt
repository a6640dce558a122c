-- The proof of `image_to_service::line_part::kind_of`.
-- Assumes nothing.
use borrow.Author.Tests.{ne_eqb}
use Rattle.bits.specs.Choice.{when◌then◌else◌}
use Rattle.image.specs.ImageLine.{kind_at}
use Rattle.image_to_service.proofs.line_part.kind_of.Goals as goal

pub returns-in-0 : goal.returns-in-0
unfolding kind_at when◌then◌else◌
returns-in-0 c = rw c.in-0.is

pub returns-in_default : goal.returns-in_default
unfolding kind_at when◌then◌else◌
returns-in_default c = simp (ne_eqb _ _ c.in_default.in_default-own.rest.1)
