-- The proof of `trace::begin`.
-- Assumes nothing.
use Rattle.state.specs.State.{make_of}
use Rattle.bits.specs.Choice.{when◌then◌else◌}
use Rattle.trace.proofs.begin.Goals as goal

pub unwrap-requires : goal.unwrap-requires
unfolding make_of when◌then◌else◌
unwrap-requires c = simp c.make.ensures

pub returns : goal.returns
unfolding make_of when◌then◌else◌
returns c = cc
