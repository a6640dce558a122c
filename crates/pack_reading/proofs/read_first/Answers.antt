-- The proof of `pack_reading::read_first`.
-- Assumes nothing.
use native.Mathlib.Omega.{arith}
use Rattle.pack.proofs.Reading.{to_end, first_none, first_some}
use Rattle.pack_reading.proofs.read_first.Goals as goal

pub returns-in-empty : goal.returns-in-empty
returns-in-empty c = rw (first_none c.args.part.now (omega arith))

pub returns-in-len1-up : goal.returns-in-len1-up
returns-in-len1-up c =
    let part = c.args.part.now in
    rw (first_some part (omega arith), ← (to_end 1 part)) c.read_tagged.ensures
