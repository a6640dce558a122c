-- The proof of `bits::byte`.
-- Assumes nothing.
use Rattle.bits.specs.Bits.{byte_of}
use Rattle.bits.proofs.byte.Goals as goal

pub returns : goal.returns
unfolding byte_of
returns c =
    simp (
      ← c.weight-8.ensures.is,
      ← c.weight-7.ensures.is,
      ← c.weight-6.ensures.is,
      ← c.weight-5.ensures.is,
      ← c.weight-4.ensures.is,
      ← c.weight-3.ensures.is,
      ← c.weight-2.ensures.is,
      ← c.weight.ensures.is,
    )
