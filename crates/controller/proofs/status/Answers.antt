-- The proof of `controller::status`.
-- Assumes nothing.
use Rattle.controller.specs.State.{status_of}
use Rattle.controller.proofs.status.Goals as goal

pub returns : goal.returns
unfolding status_of
returns c = simp (c.byte.ensures, ← c.full.ensures)
