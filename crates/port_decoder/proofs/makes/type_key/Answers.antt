-- The proof of `port_decoder::makes::type_key`.
-- Assumes nothing.
use Rattle.port.specs.Makes.{typed, entry_put}
use Rattle.bits.specs.Choice.{when◌then◌else◌}
use borrow.Author.Rules.{rules}
use Rattle.port_decoder.proofs.makes.type_key.Goals as goal

pub returns-then-is-code : goal.returns-then-is-code
unfolding typed entry_put when◌then◌else◌
returns-then-is-code c = simp (c.result.ensures, c.if-is-code.true, ← c.is.ensures)

pub returns-in-NoRow : goal.returns-in-NoRow
unfolding typed entry_put when◌then◌else◌
returns-in-NoRow c = simp (c.result-in-NoRow.ensures, c.in-NoRow.is, c.if-is-code.false, ← c.is.ensures)

pub returns-in-NoWord : goal.returns-in-NoWord
unfolding typed entry_put when◌then◌else◌
returns-in-NoWord c = simp (c.result-in-NoWord.ensures, c.in-NoWord.is, c.if-is-code.false, ← c.is.ensures)

pub returns-in-Has : goal.returns-in-Has
unfolding typed entry_put when◌then◌else◌
returns-in-Has c = simp (c.put.ensures, c.in-Has.is, c.if-is-code.false, ← c.is.ensures)
