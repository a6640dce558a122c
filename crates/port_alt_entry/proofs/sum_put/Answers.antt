-- The proof of `port_alt_entry::sum_put`.
-- Assumes nothing.
use Rattle.bits.specs.Choice.{when◌then◌else◌}
use borrow.Author.Tests.{eq-eqb, ne_eqb}
use Rattle.port_alt_entry.proofs.sum_put.Goals as goal

pub returns-then-sum-eq0 : goal.returns-then-sum-eq0
unfolding when◌then◌else◌
returns-then-sum-eq0 c =
    simp
    (eq-eqb _ _ c.if-sum-eq0.true)

pub returns : goal.returns
unfolding when◌then◌else◌
returns c =
    simp (
      c.new.ensures,
      c.from-2.ensures,
      c.from.ensures,
      ne_eqb _ _ c.if-sum-eq0.false,
    )
