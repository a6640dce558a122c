-- The proof of `frame::write`.
-- Assumes nothing.
use native.Mathlib.Omega.{arith}
use Rattle.frame.proofs.Masks.{ones_written}
use borrow.Author.Rules.{rules}
use Rattle.frame.specs.Frame.{frame_of}
use Rattle.frame.proofs.write.Goals as goal

pub returns-then-data-eq1 : goal.returns-then-data-eq1
unfolding frame_of
returns-then-data-eq1 c = omega (arith, c.if-data-eq1.true, ones_written c.args.byte (search rules))

pub returns : goal.returns
unfolding frame_of
returns c = omega (arith, c.if-data-eq1.false, ones_written c.args.byte (search rules))
