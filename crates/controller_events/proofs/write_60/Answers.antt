-- The proof of `controller_events::write_60`.
-- Assumes nothing.
use Rattle.bits.specs.Choice.{when◌then◌else◌}
use Rattle.controller.specs.PortEvents.{write60_of}
use Rattle.controller_events.proofs.write_60.Goals as goal

pub returns-then-controller : goal.returns-then-controller
unfolding write60_of when◌then◌else◌
returns-then-controller c = simp c.if-controller.true

pub returns : goal.returns
unfolding write60_of when◌then◌else◌
returns c = simp c.if-controller.false
