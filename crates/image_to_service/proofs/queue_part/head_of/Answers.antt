-- The proof of `image_to_service::queue_part::head_of`.
-- Assumes nothing.
use borrow.Author.Tests.{lt-ltb, le-ltb}
use Rattle.bits.specs.Choice.{when◌then◌else◌}
use Rattle.image.specs.ImageQueue.{head_at}
use Rattle.image_to_service.proofs.queue_part.head_of.Goals as goal

pub returns-then-head-lt-CAPACITY : goal.returns-then-head-lt-CAPACITY
unfolding head_at when◌then◌else◌
returns-then-head-lt-CAPACITY c = simp (lt-ltb _ _ c.if-head-lt-CAPACITY.true)

pub returns-else-head-lt-CAPACITY : goal.returns-else-head-lt-CAPACITY
unfolding head_at when◌then◌else◌
returns-else-head-lt-CAPACITY c = simp (le-ltb _ _ c.if-head-lt-CAPACITY.false)
