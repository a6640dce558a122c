-- The proof of `controller_events::from_keyboard`.
-- Assumes nothing.
use borrow.Author.Tests.{eq-eqb, ne_eqb}
use Rattle.bits.specs.Choice.{when◌then◌else◌}
use Rattle.controller.specs.PortEvents.{from_keyboard_of}
use Rattle.controller_events.proofs.from_keyboard.Goals as goal

pub returns-then-full-controller : goal.returns-then-full-controller
unfolding from_keyboard_of when◌then◌else◌
returns-then-full-controller c = simp (← c.full.ensures, c.if-full-controller.true)

pub returns-then-controller-eq1 : goal.returns-then-controller-eq1
unfolding from_keyboard_of when◌then◌else◌
returns-then-controller-eq1 c = simp (c.holding-next.ensures, ← c.full.ensures, c.if-full-controller.false, eq-eqb _ _ c.if-controller-eq1.true)

pub returns : goal.returns
unfolding from_keyboard_of when◌then◌else◌
returns c = simp (c.holding-next.ensures, ← c.full.ensures, c.if-full-controller.false, ne_eqb _ _ c.if-controller-eq1.false)
