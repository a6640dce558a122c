-- No event looks at the controller: it may be run on the service beside it, and the image that is left gets the controller's numbers.
-- Assumes nothing.
use mathlib.Core.Path.{◌≡◌, refl, ap, sym, ◌∙◌}
use mathlib.Core.Bool.{false}
use Rattle.bits.specs.Choice.{when◌then◌else◌}
use Rattle.controller.specs.declared.Controller.{Controller}
use Rattle.controller.specs.State.{new_controller}
use Rattle.state.specs.declared.Service.{Service}
use Rattle.state.specs.State.{with_controller}
use Rattle.state.specs.Flags.{byte17_of, byte18_of, byte96_of, byte97_of}
use Rattle.events.specs.declared.Event.{Event}
use Rattle.events.specs.declared.Event.TheVariants.{Key, Call, Poll, TimeOut, Empty, Restart, Scan}
use Rattle.events.specs.declared.Outcome.{Outcome}
use Rattle.events.specs.Commands.{restart_of}
use Rattle.events.specs.Step.{step_of}
use Rattle.events.specs.ControllerLaws.{is_restart}
use Rattle.events.proofs.Controller.{controller_apart}
use Rattle.image.specs.declared.Image.{Image}
use Rattle.image.specs.ImageController.{turned_over, controller_image, new_controller_image}
use Rattle.image.specs.Image.{image_of, service_of, bare_service_of, on_controller}
use Rattle.image_calls.specs.Exports.{controller_after}

-- the image of a service that an event left
abbrev pub left_on : Image → Event → Service → Image
left_on image event service = on_controller (controller_after event image.controller) (image_of service)

pub record OnImage (image : Image) (event : Event) : Type 0 where
  pub answer : (step_of (bare_service_of image) event).answer ≡ (step_of (service_of image) event).answer
  pub sent : (step_of (bare_service_of image) event).sent ≡ (step_of (service_of image) event).sent
  pub left : left_on image event (step_of (bare_service_of image) event).service ≡ image_of (step_of (service_of image) event).service

put_in : (service : Service) (controller : Controller) → service.controller ≡ controller
    → on_controller (controller_image controller) (image_of (with_controller service new_controller)) ≡ image_of service
unfolding image_of on_controller byte17_of byte18_of byte96_of byte97_of
put_in service controller is = ap (λ (c : Controller). on_controller (controller_image c) (image_of service)) (sym is)

kept : (image : Image) (event : Event) → is_restart event ≡ false → OnImage image event
unfolding bare_service_of service_of when◌then◌else◌
kept image event other =
    let s = service_of image in
    let is = controller_apart new_controller s event other in
    let own = ap (λ (o : Outcome). o.service.controller) (controller_apart s.controller s event other) in
    record {
      answer = ap (λ (o : Outcome). o.answer) is;
      sent = ap (λ (o : Outcome). o.sent) is;
      left = ap (λ (o : Outcome). left_on image event o.service) is ∙ simp other (put_in (step_of s event).service s.controller own);
    }

renewed : (image : Image) → OnImage image Restart
unfolding bare_service_of step_of restart_of image_of on_controller controller_image turned_over new_controller new_controller_image when◌then◌else◌
    byte17_of byte18_of byte96_of byte97_of
renewed image = record { answer = refl; sent = refl; left = refl }

pub on_image : (image : Image) (event : Event) → OnImage image event
on_image image (Key byte) = kept image (Key byte) refl
on_image image (Call function a b) = kept image (Call function a b) refl
on_image image Poll = kept image Poll refl
on_image image TimeOut = kept image TimeOut refl
on_image image Empty = kept image Empty refl
on_image image Restart = renewed image
on_image image (Scan byte) = kept image (Scan byte) refl
