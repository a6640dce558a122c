-- The proof of `events_functions::call`.
-- Assumes nothing.
use borrow.Author.Tests.{ne_eqb}
use Rattle.bits.specs.Choice.{when◌then◌else◌}
use Rattle.events.specs.Functions.{call_of}
use Rattle.events_functions.proofs.call.Goals as goal

pub returns-in-0 : goal.returns-in-0
unfolding call_of when◌then◌else◌
returns-in-0 c = simp (c.take.ensures, c.in-0.is)

pub returns-in-1 : goal.returns-in-1
unfolding call_of when◌then◌else◌
returns-in-1 c = simp (c.look.ensures, c.in-1.is)

pub returns-in-16 : goal.returns-in-16
unfolding call_of when◌then◌else◌
returns-in-16 c = simp (c.take-in-16.ensures, c.in-16.is)

pub returns-in-17 : goal.returns-in-17
unfolding call_of when◌then◌else◌
returns-in-17 c = simp (c.look-in-17.ensures, c.in-17.is)

pub returns-in-2 : goal.returns-in-2
unfolding call_of when◌then◌else◌
returns-in-2 c = simp (c.status.ensures, c.in-2.is, ← c.byte17.ensures)

pub returns-in-18 : goal.returns-in-18
unfolding call_of when◌then◌else◌
returns-in-18 c = simp (c.status-in-18.ensures, c.in-18.is, ← c.byte17-in-18.ensures, ← c.status_high.ensures)

pub returns-in-3 : goal.returns-in-3
unfolding call_of when◌then◌else◌
returns-in-3 c = simp (c.set_rate.ensures, c.in-3.is)

pub returns-in-5 : goal.returns-in-5
unfolding call_of when◌then◌else◌
returns-in-5 c = simp (c.store.ensures, c.in-5.is, c.new.ensures, c.from.ensures, c.from-in-5.ensures)

pub returns-in_default : goal.returns-in_default
unfolding call_of when◌then◌else◌
returns-in_default c =
    let rest = c.in_default.in_default-own.rest in
    simp (c.refused.ensures, ne_eqb _ _ rest.0.0.0.0.0.0.0.1, ne_eqb _ _ rest.0.0.0.0.0.0.1, ne_eqb _ _ rest.0.0.0.0.0.1, ne_eqb _ _ rest.0.0.0.0.1, ne_eqb _ _ rest.0.0.0.1, ne_eqb _ _ rest.0.0.1, ne_eqb _ _ rest.0.1, ne_eqb _ _ rest.1)
