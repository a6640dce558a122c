-- The proof of `controller_events::disabled`.
-- Assumes nothing.
use borrow.Author.Tests.{eq-eqb, ne_eqb}
use Rattle.bits.specs.Choice.{when◌then◌else◌}
use Rattle.controller.specs.PortEvents.{disabled_of}
use Rattle.controller_events.proofs.disabled.Goals as goal

pub returns-then-command-eq1 : goal.returns-then-command-eq1
unfolding disabled_of when◌then◌else◌
returns-then-command-eq1 c = simp (eq-eqb _ _ c.if-command-eq1.true)

pub returns : goal.returns
unfolding disabled_of when◌then◌else◌
returns c = simp (ne_eqb _ _ c.if-command-eq1.false)
