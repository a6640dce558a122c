-- The proof of `queue::Queue::advance`.
-- Assumes nothing.
use native.Mathlib.Omega.{arith}
use Rattle.queue.proofs.Calls.{rest_none, rest_some}
use Rattle.queue.proofs.Queue.advance.Goals as goal

pub returns-then-count-eq0 : goal.returns-then-count-eq0
returns-then-count-eq0 c = rw (rest_none c.args.self.now (omega arith))

pub returns : goal.returns
returns c = simp (rest_some c.args.self.now (omega arith), c.place-self.ensures, ← c.held-count.ensures)
