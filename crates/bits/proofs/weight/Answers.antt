-- The proof of `bits::weight`.
-- Assumes nothing.
use borrow.Author.Rules.{rules}
use Rattle.bits.specs.Bits.{weight_of}
use Rattle.bits.proofs.weight.Goals as goal

pub returns-then-bit : goal.returns-then-bit
unfolding weight_of
returns-then-bit c = record { is = simp c.if-bit.true; most = search rules }

pub returns : goal.returns
unfolding weight_of
returns c = record { is = simp c.if-bit.false; most = search rules }
