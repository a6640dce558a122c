-- The proof of `image_to_service::line_part::phase_of`.
-- Assumes nothing.
use borrow.Author.Tests.{ne_eqb}
use Rattle.bits.specs.Choice.{when◌then◌else◌}
use Rattle.image.specs.ImageLine.{phase_at}
use borrow.Author.Rules.{rules}
use Rattle.image_to_service.proofs.line_part.phase_of.Goals as goal

pub returns-in-1 : goal.returns-in-1
unfolding phase_at when◌then◌else◌
returns-in-1 c = rw (c.command_of.ensures, c.in-1.is)

pub returns-in-2 : goal.returns-in-2
unfolding phase_at when◌then◌else◌
returns-in-2 c = rw (c.command_of-in-2.ensures, c.in-2.is)

pub returns-in_default : goal.returns-in_default
unfolding phase_at when◌then◌else◌
returns-in_default c =
    let r = c.in_default.in_default-own.rest in simp (c.kind_of.ensures, ne_eqb _ _ r.0.1, ne_eqb _ _ r.1)
