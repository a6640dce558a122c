-- A port event on an image, by what the controller's numbers say: its key is fed to the image with the controller changed, and a status call writes that
-- image where no key is fed.
-- Assumes nothing.
use Prim.Native.Nat.{ℕ}
use mathlib.Core.Path.{◌≡◌, refl, ap, sym, ◌∙◌}
use mathlib.Core.Bool.{false}
use lib.Dec.{ltb}
use Rattle.bits.specs.Choice.{when◌then◌else◌}
use Rattle.controller.specs.declared.Controller.{Controller}
use Rattle.controller.specs.declared.PortEvent.{PortEvent}
use Rattle.controller.specs.declared.PortRefusal.{PortRefusal}
use Rattle.controller.specs.declared.PortRefusal.TheVariants.{Busy, Command, Unawaited}
use Rattle.controller.specs.State.{status_of}
use Rattle.controller.specs.PortEvents.{port_refusal_number, responded_of}
use Rattle.state.specs.declared.Service.{Service}
use Rattle.state.specs.State.{with_controller}
use Rattle.state.specs.Flags.{byte17_of, byte18_of, byte96_of, byte97_of}
use Rattle.answers.specs.declared.Refusal.TheVariants.{Port}
use Rattle.answers.specs.declared.Answer.TheVariants.{Nothing, Refused}
use Rattle.events.specs.declared.Event.TheVariants.{Key, Call}
use Rattle.events.specs.declared.Outcome.{Outcome}
use Rattle.events.specs.Outcomes.{answered_of}
use Rattle.events.specs.Step.{step_of}
use Rattle.events.specs.Controller.{on_response, port_step_of}
use Rattle.events.proofs.RefusedCalls.{key_accepted}
use Rattle.events.proofs.Controller.{responded_left}
use Rattle.image.specs.declared.Image.{Image}
use Rattle.image.specs.ImageController.{controller_image, controller_at}
use Rattle.image.specs.Image.{keyboard_at, service_of, on_controller}
use Rattle.image.proofs.ImageLaws.{controller_back}
use Rattle.image_calls.specs.declared.PortChanged.{PortChanged}
use Rattle.image_calls.specs.Exports.{answered_nothing, shown_to_c, changed_by, step_in, refused_in, written, tagged_in, event_to}
use Rattle.image_calls.specs.PortCalls.{port_shown, port_to}
use Rattle.image_calls.proofs.ExportLaws.{tags_recognised}
use Rattle.image_calls.proofs.Changes.{status_stands}

-- the image with the controller changed, and the service that it means
abbrev pub with_its : Image → Controller → Image
with_its image controller = on_controller (controller_image controller) image

its_service : (image : Image) (controller : Controller) → service_of (with_its image controller) ≡ with_controller (service_of image) controller
unfolding service_of keyboard_at on_controller
its_service image controller = simp controller_back

pub nothing_fed : (image : Image) (controller : Controller)
    → answered_nothing (event_to (with_its image controller) (written (Call 0x02 0 0))) ≡ changed_by image (answered_of (with_controller (service_of image) controller) Nothing)
nothing_fed image controller =
    status_stands (with_its image controller) image ∙ ap (λ (s : Service). changed_by image (answered_of s Nothing)) (its_service image controller)

-- an outcome that is no refusal leaves its own image
accepted_alike : (image other : Image) (outcome : Outcome) → ltb 0x7F (shown_to_c outcome).ans ≡ false → changed_by image outcome ≡ changed_by other outcome
unfolding when◌then◌else◌
accepted_alike image other outcome accepted = simp accepted

key_shown : (service : Service) (byte : ℕ) → ltb 0x7F (shown_to_c (step_of service (Key byte))).ans ≡ false
unfolding shown_to_c
key_shown service byte = key_accepted service byte

pub key_fed : (image : Image) (controller : Controller) (byte : ℕ)
    → event_to (with_its image controller) (written (Key byte)) ≡ changed_by image (step_of (with_controller (service_of image) controller) (Key byte))
unfolding step_in
key_fed image controller byte =
    let next = with_its image controller in
    ap (tagged_in next) (tags_recognised (Key byte))
    ∙ accepted_alike next image (step_of (service_of next) (Key byte)) (key_shown (service_of next) byte)
    ∙ ap (λ (s : Service). changed_by image (step_of s (Key byte))) (its_service image controller)

pub turned_away_lem : (image : Image) (controller : Controller) (refusal : PortRefusal)
    → refused_in image (port_refusal_number refusal) ≡ changed_by image (answered_of (with_controller (service_of image) controller) (Refused (Port refusal)))
unfolding refused_in answered_of shown_to_c when◌then◌else◌ byte17_of byte18_of byte96_of byte97_of
turned_away_lem image controller Busy = refl
turned_away_lem image controller Command = refl
turned_away_lem image controller Unawaited = refl

-- what the code puts together
pub put_together : (image : Image) (event : PortEvent) →
    let responded = responded_of (controller_at image.controller) event in
    let changed = changed_by image (on_response (with_controller (service_of image) responded.controller) responded.response) in
    record { image = changed.image; shown = port_shown changed.shown responded.response (status_of responded.controller) } ≡ port_to image event
unfolding port_to port_step_of service_of
put_together image event =
    let changed = changed_by image (port_step_of (service_of image) event).outcome in
    let gives : Controller → PortChanged =
    λ c. record { image = changed.image; shown = port_shown changed.shown (port_step_of (service_of image) event).response (status_of c) } in
    ap gives (sym (responded_left (service_of image) event))
