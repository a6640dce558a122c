-- The proof of `queue::Queue::first`.
-- Assumes nothing.
use native.Mathlib.Omega.{arith}
use Rattle.queue.proofs.Calls.{oldest_none, oldest_some}
use Rattle.queue.proofs.Queue.first.Goals as goal

pub returns-then-self-eq0 : goal.returns-then-self-eq0
returns-then-self-eq0 c = let queue = c.args.self.now in rw (oldest_none queue (omega arith))

pub returns : goal.returns
returns c =
    let queue = c.args.self.now in
    simp (oldest_some queue (omega arith), ← c.place.ensures)
