-- The proof of `image_over_event::change`.
-- Assumes nothing.
use Rattle.image_calls.proofs.Changes.{status_changes}
use borrow.Author.Rules.{rules}
use Rattle.image_over_event.proofs.change.Goals as goal

pub returns : goal.returns
returns c =
    simp (c.standing_anew.ensures, c.on_set.ensures) (status_changes c.args.set c.args.image)
