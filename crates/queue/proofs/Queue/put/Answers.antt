-- The proof of `queue::Queue::put`.
-- Assumes nothing.
use native.Mathlib.Omega.{arith}
use Rattle.queue.proofs.Calls.{put_room, put_full}
use Rattle.queue.proofs.Queue.put.Goals as goal

pub returns-then-count-ge-CAPACITY-clause-answer : goal.returns-then-count-ge-CAPACITY-clause-answer
returns-then-count-ge-CAPACITY-clause-answer c = rw (put_full c.args.self.now c.args.word (omega arith))

pub returns-then-count-ge-CAPACITY-clause-left : goal.returns-then-count-ge-CAPACITY-clause-left
returns-then-count-ge-CAPACITY-clause-left c = rw (put_full c.args.self.now c.args.word (omega arith))

pub returns-clause-answer : goal.returns-clause-answer
returns-clause-answer c = rw (put_room c.args.self.now c.args.word (omega arith))

pub returns-clause-left : goal.returns-clause-left
returns-clause-left c =
    simp (put_room c.args.self.now c.args.word (omega arith), c.place.ensures, ← c.held-count.ensures)
