-- The proof of `image_to_service::flags_part::prefix_of`.
-- Assumes nothing.
use borrow.Author.Tests.{ne_eqb}
use Rattle.bits.specs.Choice.{when◌then◌else◌}
use Rattle.image.specs.ImageFlags.{prefix_at}
use Rattle.image_to_service.proofs.flags_part.prefix_of.Goals as goal

pub returns-in-1 : goal.returns-in-1
unfolding prefix_at when◌then◌else◌
returns-in-1 c = rw c.in-1.is

pub returns-in-2 : goal.returns-in-2
unfolding prefix_at when◌then◌else◌
returns-in-2 c = rw c.in-2.is

pub returns-in-3 : goal.returns-in-3
unfolding prefix_at when◌then◌else◌
returns-in-3 c = rw c.in-3.is

pub returns-in-4 : goal.returns-in-4
unfolding prefix_at when◌then◌else◌
returns-in-4 c = rw c.in-4.is

pub returns-in_default : goal.returns-in_default
unfolding prefix_at when◌then◌else◌
returns-in_default c =
    let r = c.in_default.in_default-own.rest in
    simp (ne_eqb _ _ r.0.0.0.1, ne_eqb _ _ r.0.0.1, ne_eqb _ _ r.0.1, ne_eqb _ _ r.1)
