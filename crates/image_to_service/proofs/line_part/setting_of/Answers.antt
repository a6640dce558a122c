-- The proof of `image_to_service::line_part::setting_of`.
-- Assumes nothing.
use Rattle.std.proofs.Common.{ℕ, Bool, true, false, not, ◌≡◌, refl, ◌∙◌}
use Rattle.std.specs.Prelude.{None, Some, eqb}
use Rattle.std.specs.Bool.{then_some}
use Rattle.bits.specs.Choice.{when◌then◌else◌}
use Rattle.image.specs.ImageLine.{setting_at}
use Rattle.image_to_service.proofs.line_part.setting_of.Goals as goal

known_or_not : (zero : Bool) (value : ℕ) → then_some (not zero) value ≡ (when zero then None else Some value)
unfolding when◌then◌else◌
known_or_not true value = refl
known_or_not false value = refl

pub returns : goal.returns
unfolding setting_at
returns c = c.then_some.ensures ∙ known_or_not (eqb c.args.known 0) c.args.value
