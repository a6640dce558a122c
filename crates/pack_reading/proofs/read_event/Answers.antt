-- The proof of `pack_reading::read_event`.
-- Assumes nothing.
use Rattle.pack.proofs.Reading.{to_end, read_too_long, read_beyond, read_within}
use native.Mathlib.Omega.{arith}
use Rattle.pack_reading.proofs.read_event.Goals as goal

pub returns-then-pack-gt-LIMIT : goal.returns-then-pack-gt-LIMIT
returns-then-pack-gt-LIMIT c = rw (read_too_long c.args.pack.now c.args.start (omega arith))

pub returns-then-pack-start : goal.returns-then-pack-start
returns-then-pack-start c =
    let given = c.args in
    rw (read_beyond given.pack.now given.start (omega arith) (omega arith))

pub returns : goal.returns
returns c =
    let given = c.args in
    rw (read_within given.pack.now given.start (omega arith) (omega arith), ← (to_end given.start given.pack.now)) c.read_first.ensures
