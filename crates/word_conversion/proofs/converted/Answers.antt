-- The proof of `word_conversion::converted`.
-- Assumes nothing.
use Rattle.std.proofs.Common.{rules}
use mathlib.Core.Path.{◌≡◌}
use mathlib.Core.Bool.{true, not, ◌&&◌}
use lib.Dec.{eqb}
use borrow.Author.Tests.{ne_eqb}
use Rattle.bits.specs.Choice.{when◌then◌else◌}
use Rattle.word.proofs.Laws.{old_by_number}
use Rattle.word_conversion.proofs.converted.Goals as goal

pub returns-in_default : goal.returns-in_default
unfolding when◌then◌else◌
returns-in_default c =
    let others = c.in_default.in_default-own.rest in
    let enhanced : not (eqb c.args.word.scan.0 0x00) && eqb c.args.word.ascii.0 0xE0 ≡ true = rw (← c.low.ensures, ← c.high.ensures) c.if-high-low.true in
    simp (c.new.ensures, c.from-in_default-2.ensures, c.from-in_default.ensures, c.high-in_default.ensures, old_by_number c.args.word _ c.from.ensures (search rules), ne_eqb _ _ others.0.0.1, ne_eqb _ _ others.0.1, ne_eqb _ _ others.1, enhanced)

pub returns-in_default-2 : goal.returns-in_default-2
unfolding when◌then◌else◌
returns-in_default-2 c =
    let others = c.in_default.in_default-own.rest in
    simp (old_by_number c.args.word _ c.from.ensures (search rules), ne_eqb _ _ others.0.0.1, ne_eqb _ _ others.0.1, ne_eqb _ _ others.1, ← c.high.ensures, ← c.low.ensures, c.if-high-low.false)
