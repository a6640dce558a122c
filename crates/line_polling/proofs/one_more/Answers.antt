-- The proof of `line_polling::one_more`.
-- Assumes nothing.
use Rattle.bits.specs.Choice.{when◌then◌else◌}
use Rattle.line.specs.Poll.{one_more_of}
use borrow.Author.Tests.{le-ltb, lt-ltb}
use Rattle.line_polling.proofs.one_more.Goals as goal

pub returns-then-count-most : goal.returns-then-count-most
unfolding one_more_of when◌then◌else◌
returns-then-count-most c =
    simp
    (lt-ltb _ _ c.if-count-most.true)

pub returns : goal.returns
unfolding one_more_of when◌then◌else◌
returns c =
    simp
    (le-ltb _ _ c.if-count-most.false)
