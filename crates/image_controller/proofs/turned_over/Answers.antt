-- The proof of `image_controller::turned_over`.
-- Assumes nothing.
use borrow.Author.Tests.{eq-eqb, ne_eqb}
use Rattle.bits.specs.Choice.{when◌then◌else◌}
use Rattle.image.specs.ImageController.{turned_over}
use borrow.Author.Rules.{rules}
use Rattle.image_controller.proofs.turned_over.Goals as goal

pub returns-then-command-eq1 : goal.returns-then-command-eq1
unfolding turned_over when◌then◌else◌
returns-then-command-eq1 c = simp (eq-eqb _ _ c.if-command-eq1.true)

pub returns : goal.returns
unfolding turned_over when◌then◌else◌
returns c = simp (ne_eqb _ _ c.if-command-eq1.false)
