-- The proof of `queue::Queue::pass_enhanced`.
-- Assumes nothing.
use mathlib.Core.Path.{◌≡◌}
use Rattle.queue.specs.Queue.{held_in}
use Rattle.queue.specs.Enhanced.{past_enhanced}
use Rattle.queue.proofs.Queue.pass_enhanced.Given as goal

abbrev pub invariant-loop-self : goal.invariant-loop-self
invariant-loop-self l = past_enhanced l.fn.self ≡ past_enhanced l.self

abbrev pub decreases-loop-self : goal.decreases-loop-self
decreases-loop-self l = held_in l.self
