-- The proof of `image_to_service::queue_part::queue_of`.
-- Assumes nothing.
use borrow.Author.Rules.{rules}
use Rattle.image.specs.ImageQueue.{word_at_image, queue_at}
use Rattle.image.proofs.Mapped.{mapped}
use Rattle.image_to_service.proofs.queue_part.queue_of.Goals as goal

pub returns : goal.returns
unfolding queue_at
returns c =
    let words = mapped _ word_at_image _ c.args.image.words c.map.result 16 (search rules) (λ p x y q called. search rules) c.map.ensures.items in
    simp (words, c.min.ensures, ← c.head_of.ensures)
