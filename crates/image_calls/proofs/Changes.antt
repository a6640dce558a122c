-- A status call changes nothing and writes the image anew: after it, an image of which one part was changed is what that change leaves.
-- Assumes nothing.
use Rattle.std.specs.Prelude.{Option}
use Rattle.events.specs.declared.Event.{Event}
use mathlib.Core.Path.{◌≡◌, refl, ap, ◌∙◌}
use Rattle.bits.specs.Choice.{when◌then◌else◌}
use Rattle.translation.specs.declared.CodeSet.{CodeSet}
use Rattle.translation.specs.Translation.{unmarked_of}
use Rattle.state.specs.declared.Service.{Service}
use Rattle.state.specs.State.{with_codes}
use Rattle.answers.specs.declared.Answer.TheVariants.{Nothing}
use Rattle.events.specs.declared.Event.TheVariants.{Call}
use Rattle.events.specs.Outcomes.{answered_of}
use Rattle.events.specs.Functions.{status_of, call_of}
use Rattle.events.specs.Step.{step_of}
use Rattle.events.specs.Sets.{change_of}
use Rattle.image.specs.declared.Image.{Image}
use Rattle.image.specs.Image.{keyboard_at, service_of, on_set}
use Rattle.image.proofs.ImageLaws.{lower_back, upper_back, codes_back}
use Rattle.image_calls.specs.Exports.{answered_nothing, shown_to_c, changed_by, step_in, written, tagged_in, event_to, change_to}
use Rattle.image_calls.proofs.ExportLaws.{tags_recognised}

status_writes : (image other : Image) → answered_nothing (step_in image (Call 0x02 0 0)) ≡ changed_by other (answered_of (service_of image) Nothing)
unfolding step_in step_of call_of status_of answered_of shown_to_c when◌then◌else◌
status_writes image other = refl

-- a status call writes the service that its image means, whichever image the call began with
pub status_stands : (image other : Image)
    → answered_nothing (event_to image (written (Call 0x02 0 0))) ≡ changed_by other (answered_of (service_of image) Nothing)
status_stands image other =
    ap (λ (event : Option Event). answered_nothing (tagged_in image event)) (tags_recognised (Call 0x02 0 0)) ∙ status_writes image other

changed_service : (set : CodeSet) (image : Image) → service_of (on_set set image) ≡ with_codes (service_of image) (unmarked_of set)
unfolding service_of keyboard_at on_set
changed_service set image = simp (lower_back, upper_back, codes_back)

pub status_changes : (set : CodeSet) (image : Image) → answered_nothing (event_to (on_set set image) (written (Call 0x02 0 0))) ≡ change_to set image
unfolding change_of
status_changes set image =
    status_stands (on_set set image) image ∙ ap (λ (s : Service). changed_by image (answered_of s Nothing)) (changed_service set image)
