-- The proof of `port_decoder::makes::made`.
-- Assumes nothing.
use Rattle.port.specs.Makes.{made_of}
use Rattle.bits.specs.Choice.{when◌then◌else◌}
use borrow.Author.Rules.{rules}
use Rattle.port_decoder.proofs.makes.made.Goals as goal

pub returns-then-is-ctrl : goal.returns-then-is-ctrl
unfolding made_of when◌then◌else◌
returns-then-is-ctrl c = simp (c.result.ensures, c.if-is-ctrl.true, ← c.is.ensures, ← c.down-alt.ensures, ← c.down-ctrl.ensures)

pub returns-then-shared : goal.returns-then-shared
unfolding made_of when◌then◌else◌
returns-then-shared c = simp (c.result-then-shared.ensures, ← c.with_paused.ensures, c.if-shared.true, c.if-is-ctrl.false, ← c.is.ensures, ← c.down-alt.ensures, ← c.down-ctrl.ensures)

pub returns : goal.returns
unfolding made_of when◌then◌else◌
returns c = simp (c.enter.ensures, c.if-shared.false, c.if-is-ctrl.false, ← c.is.ensures, ← c.down-alt.ensures, ← c.down-ctrl.ensures)
