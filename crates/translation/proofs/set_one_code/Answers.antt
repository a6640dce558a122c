-- The proof of `translation::set_one_code`.
-- Assumes nothing.
use mathlib.Core.Path.{◌∙◌}
use Rattle.bits.specs.Choice.{when◌then◌else◌}
use Rattle.translation.specs.Translation.{set_one_code}
use Rattle.translation.specs.Table.{table}
use Rattle.translation.proofs.Lines.{in_lines_lem}
use borrow.Author.Tests.{le-ltb, lt-ltb, ne_eqb}
use Rattle.translation.proofs.set_one_code.Goals as goal

pub returns-then-code-lt128 : goal.returns-then-code-lt128
unfolding set_one_code table when◌then◌else◌
returns-then-code-lt128 c = in_lines_lem c.args.code c.if-code-lt128.true ∙ simp (lt-ltb _ _ c.if-code-lt128.true)

pub returns-in-131 : goal.returns-in-131
unfolding set_one_code when◌then◌else◌
returns-in-131 c = rw c.in-131.is

pub returns-in-132 : goal.returns-in-132
unfolding set_one_code when◌then◌else◌
returns-in-132 c = rw c.in-132.is

pub returns-in_default : goal.returns-in_default
unfolding set_one_code when◌then◌else◌
returns-in_default c = let r = c.in_default.in_default-own.rest in simp (le-ltb _ _ c.if-code-lt128.false, ne_eqb _ _ r.0.1, ne_eqb _ _ r.1)
