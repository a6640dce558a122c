-- The proof of `image_controller::in_range`.
-- Assumes nothing.
use Rattle.image.proofs.ControllerNumbers.{none_held, one_held}
use borrow.Author.Rules.{rules}
use Rattle.image_controller.proofs.in_range.Goals as goal
use Rattle.image_controller.proofs.in_range.Goals.{then-is_other, else-is_other}

pub returns : goal.returns
returns c =
    let image = c.args.image in
    elim c.if-is_other.branch [
      | then-is_other w ↦ rw w.result-is (none_held image w.if-is_other.true)
      | else-is_other w ↦ rw w.result-is (one_held image w.if-is_other.false)
    ]
