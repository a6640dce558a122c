-- The proof of `image_renewal::resynchronise`.
-- Assumes nothing.
use Rattle.image_calls.proofs.Remade.{remade_image}
use borrow.Author.Rules.{rules}
use Rattle.image_renewal.proofs.resynchronise.Goals as goal

pub returns : goal.returns
returns c =
    simp (c.number.ensures, c.new-fresh.ensures, c.set_of-set.ensures)
    (remade_image c.args.image)
