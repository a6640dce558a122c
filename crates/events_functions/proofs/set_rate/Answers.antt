-- The proof of `events_functions::set_rate`.
-- Assumes nothing.
use borrow.Author.Tests.{le-ltb, lt-ltb}
use Rattle.bits.specs.Choice.{when◌then◌else◌}
use Rattle.events.specs.Functions.{set_rate_of}
use borrow.Author.Rules.{rules}
use Rattle.events_functions.proofs.set_rate.Goals as goal

pub returns-then-delay-gt3 : goal.returns-then-delay-gt3
unfolding set_rate_of when◌then◌else◌
returns-then-delay-gt3 c = simp (c.refused.ensures, lt-ltb _ _ c.if-delay-gt3.true)

pub returns-then-rate-gt31 : goal.returns-then-rate-gt31
unfolding set_rate_of when◌then◌else◌
returns-then-rate-gt31 c = simp (c.refused-then-rate-gt31.ensures, lt-ltb _ _ c.if-rate-gt31.true, le-ltb _ _ c.if-delay-gt3.false)

pub returns : goal.returns
unfolding set_rate_of when◌then◌else◌
returns c = simp (c.wait_rate.ensures, le-ltb _ _ c.if-rate-gt31.false, le-ltb _ _ c.if-delay-gt3.false)
