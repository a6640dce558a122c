-- The proof of `controller_events::write_64`.
-- Assumes nothing.
use borrow.Author.Tests.{ne_eqb}
use Rattle.bits.specs.Choice.{when◌then◌else◌}
use Rattle.controller.specs.PortEvents.{write64_of}
use Rattle.controller_events.proofs.write_64.Goals as goal

pub returns-in-32 : goal.returns-in-32
unfolding write64_of when◌then◌else◌
returns-in-32 c = simp (c.obeyed.ensures, c.in-32.is)

pub returns-in-96 : goal.returns-in-96
unfolding write64_of when◌then◌else◌
returns-in-96 c = simp (c.obeyed-in-96.ensures, c.in-96.is)

pub returns-in-170 : goal.returns-in-170
unfolding write64_of when◌then◌else◌
returns-in-170 c = simp (c.obeyed-in-170.ensures, c.in-170.is)

pub returns-in-173 : goal.returns-in-173
unfolding write64_of when◌then◌else◌
returns-in-173 c = simp (c.obeyed-in-173.ensures, ← c.disabled.ensures, c.in-173.is)

pub returns-in-174 : goal.returns-in-174
unfolding write64_of when◌then◌else◌
returns-in-174 c = simp (c.obeyed-in-174.ensures, ← c.enabled.ensures, c.in-174.is)

pub returns-in_default : goal.returns-in_default
unfolding write64_of when◌then◌else◌
returns-in_default c =
    let r = c.in_default.in_default-own.rest in
    simp (ne_eqb _ _ r.0.0.0.0.1, ne_eqb _ _ r.0.0.0.1, ne_eqb _ _ r.0.0.1, ne_eqb _ _ r.0.1, ne_eqb _ _ r.1)
