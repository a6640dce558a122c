-- The proof of `report_text::write`.
-- Assumes nothing.
use mathlib.Core.Path.{refl}
use native.Mathlib.Omega.{arith}
use lib.ListN.{length}
use borrow.Author.Tests.{lt-ltb}
use Rattle.bits.specs.Choice.{when◌then◌else◌}
use Rattle.report.specs.Reported.{report_length, written_of}
use Rattle.report.proofs.BufferLaws.{long_kept}
use borrow.Author.Rules.{rules}
use Rattle.report_text.proofs.write.Goals as goal

pub returns-then-buffer-lt-LENGTH : goal.returns-then-buffer-lt-LENGTH
unfolding written_of when◌then◌else◌
returns-then-buffer-lt-LENGTH c = simp (lt-ltb (length c.args.buffer.now) report_length (omega arith)) refl

pub returns : goal.returns
returns c =
    let passed = c.args in
    rw (long_kept passed.report passed.buffer.now (omega (arith, c.if-buffer-lt-LENGTH.false))) c.fill.ensures
