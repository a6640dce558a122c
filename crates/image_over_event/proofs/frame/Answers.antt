-- The proof of `image_over_event::frame`.
-- Assumes nothing.
use Rattle.image_calls.proofs.ExportLaws.{tags_recognised}
use borrow.Author.Rules.{rules}
use Rattle.image_over_event.proofs.frame.Goals as goal

pub returns-in-Ok : goal.returns-in-Ok
returns-in-Ok c = simp (c.event_on_copy.ensures, c.tagged_of.ensures, tags_recognised, c.in-Ok.is, ← c.read.ensures)

pub returns-in-Err : goal.returns-in-Err
returns-in-Err c = simp (c.refused.ensures, c.in-Err.is, ← c.read.ensures)
