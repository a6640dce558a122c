-- The proof of `service_making::make`.
-- Assumes nothing.
use borrow.Author.Tests.{le-ltb, lt-ltb}
use Rattle.bits.specs.Choice.{when◌then◌else◌}
use Rattle.state.specs.State.{make_of}
use Rattle.service_making.proofs.make.Goals as goal

pub returns-then-bits-gt15 : goal.returns-then-bits-gt15
unfolding make_of when◌then◌else◌
returns-then-bits-gt15 c = simp (c.new.ensures, lt-ltb _ _ c.if-bits-gt15.true)

pub returns : goal.returns
unfolding make_of when◌then◌else◌
returns c = simp (c.new-2.ensures, le-ltb _ _ c.if-bits-gt15.false)
