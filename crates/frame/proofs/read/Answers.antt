-- The proof of `frame::read`.
-- Assumes nothing.
use Prim.Native.Nat.{◌/◌}
use borrow.Author.Tests.{ne_eqb}
use lib.Bits.{mask_lt}
use Rattle.bits.specs.Choice.{when◌then◌else◌}
use Rattle.frame.specs.Frame.{read_frame}
use Rattle.frame.proofs.Masks.{start_masked, ones_masked, stop_masked, data_masked}
use Rattle.frame.proofs.read.Goals as goal

pub returns-then-frame : goal.returns-then-frame
unfolding read_frame when◌then◌else◌
returns-then-frame c = simp (simp start_masked at c.if-frame.true)

pub returns-then-frame-ne1 : goal.returns-then-frame-ne1
unfolding read_frame when◌then◌else◌
returns-then-frame-ne1 c = simp (simp start_masked at c.if-frame.false, simp ones_masked at (ne_eqb _ _ c.if-frame-ne1.true))

pub returns-then-frame-ne1-2 : goal.returns-then-frame-ne1-2
unfolding read_frame when◌then◌else◌
returns-then-frame-ne1-2 c =
    simp (
      simp start_masked at c.if-frame.false,
      simp ones_masked at c.if-frame-ne1.false,
      simp stop_masked at (ne_eqb _ _ c.if-frame-ne1-2.true),
    )

pub overflow_cast-result : goal.overflow_cast-result
overflow_cast-result c = record { fits = mask_lt (c.args.frame / 2) 8 }

pub returns : goal.returns
unfolding read_frame when◌then◌else◌
returns c =
    simp (
      simp start_masked at c.if-frame.false,
      simp ones_masked at c.if-frame-ne1.false,
      simp stop_masked at c.if-frame-ne1-2.false,
      data_masked,
    )
