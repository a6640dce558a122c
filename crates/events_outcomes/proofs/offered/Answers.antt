-- The proof of `events_outcomes::offered`.
-- Assumes nothing.
use mathlib.Core.Path.{sym, ◌∙◌}
use Rattle.bits.specs.Choice.{when◌then◌else◌}
use Rattle.queue.proofs.Calls.{was_stored, was_dropped}
use Rattle.events.specs.Outcomes.{offered_of}
use Rattle.events_outcomes.proofs.offered.Goals as goal

pub returns-in-Ok : goal.returns-in-Ok
unfolding offered_of when◌then◌else◌
returns-in-Ok c =
    let stored = was_stored _ (sym c.put.ensures.answer ∙ c.in-Ok.is) in
    simp (c.answered.ensures, c.put.ensures.left, stored)

pub returns-in-Err : goal.returns-in-Err
unfolding offered_of when◌then◌else◌
returns-in-Err c =
    let dropped = was_dropped _ (sym c.put.ensures.answer ∙ c.in-Err.is) in
    simp (c.answered-in-Err.ensures, c.put.ensures.left, dropped)
