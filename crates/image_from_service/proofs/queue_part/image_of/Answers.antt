-- The proof of `image_from_service::queue_part::image_of`.
-- Assumes nothing.
use borrow.Author.Rules.{rules}
use Rattle.image.specs.ImageQueue.{word_image, queue_image}
use Rattle.image.proofs.Mapped.{mapped}
use Rattle.image_from_service.proofs.queue_part.image_of.Goals as goal

pub returns : goal.returns
unfolding queue_image
returns c =
    rw (mapped _ word_image _ c.args.queue.words c.map.result 16 (search rules) (λ p x y q called. search rules) c.map.ensures.items)
