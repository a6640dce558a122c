-- The proof of `image_controller::buffer_of`.
-- Assumes nothing.
use borrow.Author.Tests.{ne_eqb}
use Rattle.bits.specs.Choice.{when◌then◌else◌}
use Rattle.image.specs.ImageController.{buffer_at}
use Rattle.image_controller.proofs.buffer_of.Goals as goal

pub returns-in-1 : goal.returns-in-1
unfolding buffer_at when◌then◌else◌
returns-in-1 c = rw c.in-1.is

pub returns-in-2 : goal.returns-in-2
unfolding buffer_at when◌then◌else◌
returns-in-2 c = rw c.in-2.is

pub returns-in_default : goal.returns-in_default
unfolding buffer_at when◌then◌else◌
returns-in_default c = simp (ne_eqb _ _ c.in_default.in_default-own.rest.0.1, ne_eqb _ _ c.in_default.in_default-own.rest.1)
