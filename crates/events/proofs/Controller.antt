-- The controller stands for itself: of all events only R touches it, and it only feeds keys.
-- Assumes nothing.
use Prim.Native.Nat.{ℕ}
use mathlib.Core.Path.{◌≡◌, refl, ap, ◌∙◌}
use mathlib.Core.Bool.{true, false}
use Rattle.bits.specs.Bits.{bit4}
use Rattle.bits.proofs.Choice.{either}
use Rattle.bits.proofs.Tests.{not_both}
use Rattle.port.specs.KeyByte.{key_byte_of}
use Rattle.controller.specs.declared.Buffer.TheVariants as buffer
use Rattle.controller.specs.declared.Controller.{Controller}
use Rattle.controller.specs.declared.PortEvent.{PortEvent}
use Rattle.controller.specs.declared.PortEvent.TheVariants.{FromKeyboard, Read60}
use Rattle.controller.specs.declared.PortRefusal.{PortRefusal}
use Rattle.controller.specs.declared.Response.{Response}
use Rattle.controller.specs.declared.Response.TheVariants as response
use Rattle.controller.specs.declared.Responded.{Responded}
use Rattle.controller.specs.State.{is_full}
use Rattle.controller.specs.PortEvents.{holding, read60_of, responded_of}
use Rattle.controller.proofs.Laws.{refused_changes_nothing, accepts}
use Rattle.state.specs.declared.Device.{Device}
use Rattle.state.specs.declared.Device.TheVariants.{Keyboard, Scanner}
use Rattle.state.specs.declared.Ports.{Ports}
use Rattle.state.specs.declared.Service.{Service}
use Rattle.state.specs.State.{port_of, with_controller}
use Rattle.state.specs.Flags.{byte17_of, byte18_of, byte96_of, byte97_of, status_high}
use Rattle.answers.specs.declared.Refusal.TheVariants.{Port}
use Rattle.answers.specs.declared.Answer.TheVariants.{Nothing, Refused}
use Rattle.events.specs.declared.Event.{Event}
use Rattle.events.specs.declared.Event.TheVariants.{Key, Call, Poll, TimeOut, Empty, Restart, Scan}
use Rattle.events.specs.declared.Outcome.{Outcome}
use Rattle.events.specs.declared.PortOutcome.{PortOutcome}
use Rattle.events.specs.Outcomes.{answered_of}
use Rattle.events.specs.Keyboard.{typed_of}
use Rattle.events.specs.Commands.{on_line, poll_of, time_out_of, restart_of}
use Rattle.events.specs.Functions.{status_of}
use Rattle.events.specs.Step.{empty_of, step_of}
use Rattle.events.specs.Controller.{on_response, port_step_of}
use Rattle.events.specs.ControllerLaws.{is_restart, ControllerApart, RestartRenews, ControllerUnshown, RefusedPortEvents, ThroughThePort}
use Rattle.events.specs.Refused.{is_refusal}
use Rattle.events.specs.Run.{shown_of}
use Rattle.events.proofs.RefusedCalls.{key_accepted}
use Rattle.events.proofs.Aside.{Apart, effect_apart, key_apart, scan_apart, call_apart}

-- an outcome where another controller stands
abbrev Beside : Controller → Outcome → Outcome → Type 0
Beside controller = Apart (λ (ports : Ports). ports) (λ (_ : Controller). controller)

typed_apart : (device : Device) (controller : Controller) (service : Service) (byte : ℕ)
    → Beside controller (typed_of device (with_controller service controller) byte) (typed_of device service byte)
unfolding typed_of
typed_apart device controller service byte = effect_apart _ _ _ (key_byte_of (port_of device service.ports) service.shared byte).effect

event_apart : (controller : Controller) (service : Service) (event : Event) → is_restart event ≡ false
    → Beside controller (step_of (with_controller service controller) event) (step_of service event)
unfolding step_of poll_of time_out_of empty_of on_line answered_of status_of byte17_of status_high
event_apart controller service (Key byte) other = key_apart _ _ (typed_apart Keyboard controller) service byte
event_apart controller service (Call function a b) other = call_apart _ _ service function a b (λ _. record { is = refl }) (λ _. record { is = refl })
event_apart controller service Poll other = record { is = refl }
event_apart controller service TimeOut other = record { is = refl }
event_apart controller service Empty other = record { is = refl }
event_apart controller service Restart other = not_both refl other
event_apart controller service (Scan byte) other = scan_apart _ _ service byte (typed_apart Scanner controller service byte)

pub controller_apart : ControllerApart
controller_apart controller service event other = (event_apart controller service event other).is

pub restart_renews : RestartRenews
unfolding step_of restart_of
restart_renews controller service = refl

pub controller_unshown : ControllerUnshown
unfolding byte17_of byte18_of byte96_of byte97_of
controller_unshown controller outcome = refl

-- ---- port events

-- by what comes of a port event: nothing to tell, a K event, or a refusal
on_response_lem : (P : Outcome → Type 0) (service : Service) (r : Response) → P (answered_of service Nothing) → ((byte : ℕ) → P (step_of service (Key byte)))
    → ((refusal : PortRefusal) → P (answered_of service (Refused (Port refusal)))) → P (on_response service r)
on_response_lem P service response.Accepted nothing key refused = nothing
on_response_lem P service response.Interrupt nothing key refused = nothing
on_response_lem P service (response.Byte byte) nothing key refused = nothing
on_response_lem P service (response.Key byte) nothing key refused = key byte
on_response_lem P service (response.Refused refusal) nothing key refused = refused refusal

pub by_response : (P : Outcome → Type 0) (service : Service) (event : PortEvent)
    → ((controller : Controller) → P (answered_of (with_controller service controller) Nothing))
    → ((controller : Controller) (byte : ℕ) → P (step_of (with_controller service controller) (Key byte)))
    → ((controller : Controller) (refusal : PortRefusal) → P (answered_of (with_controller service controller) (Refused (Port refusal))))
    → P (port_step_of service event).outcome
unfolding port_step_of
by_response P service event nothing key refused =
    let responded = responded_of service.controller event in
    let left = responded.controller in
    on_response_lem P (with_controller service left) responded.response (nothing left) (key left) (refused left)

pub refused_port_events : RefusedPortEvents
unfolding port_step_of
refused_port_events service event refusal is =
    let gives : Service → Response → PortOutcome = λ s r. record { outcome = on_response s r; response = r } in
    ap (λ (c : Controller). gives (with_controller service c) (responded_of service.controller event).response)
    (refused_changes_nothing service.controller event refusal is)
    ∙ ap (gives service) is

-- what shows a refusal is one
pub refused_port : (service : Service) (event : PortEvent) → is_refusal (shown_of (port_step_of service event).outcome) ≡ true
    → (port_step_of service event).outcome.service ≡ service
unfolding port_step_of answered_of
refused_port service event = split (responded_of service.controller event).response refl
  where
    left : Service
    left = with_controller service (responded_of service.controller event).controller

    split : (r : Response) → (responded_of service.controller event).response ≡ r
        → is_refusal (shown_of (on_response left r)) ≡ true → (on_response left r).service ≡ service
    split response.Accepted is refused = not_both refused refl
    split response.Interrupt is refused = not_both refused refl
    split (response.Byte byte) is refused = not_both refused refl
    split (response.Key byte) is refused = not_both refused (key_accepted left byte)
    split (response.Refused refusal) is refused = ap (with_controller service) (refused_changes_nothing service.controller event refusal is)

-- the controller that is left is the one that responded
pub responded_left : (service : Service) (event : PortEvent) → (port_step_of service event).outcome.service.controller ≡ (responded_of service.controller event).controller
unfolding port_step_of answered_of
responded_left service event = split (responded_of service.controller event).response
  where
    left : Controller
    left = (responded_of service.controller event).controller

    split : (r : Response) → (on_response (with_controller service left) r).service.controller ≡ left
    split response.Accepted = refl
    split response.Interrupt = refl
    split (response.Byte byte) = refl
    split (response.Key byte) = ap (λ (o : Outcome). o.service.controller) (controller_apart left service (Key byte) refl)
    split (response.Refused refusal) = refl

pub taken : (service : Service) (byte : ℕ) → is_full service.controller.buffer ≡ false → bit4 service.controller.command ≡ false
    → (port_step_of service (FromKeyboard byte)).outcome.service ≡ with_controller service (holding service.controller (buffer.Key byte))
unfolding port_step_of answered_of
taken service byte empty enabled =
    let held = with_controller service (holding service.controller (buffer.Key byte)) in
    ap (λ (r : Responded). (on_response (with_controller service r.controller) r.response).service) (accepts service.controller byte empty enabled)
    ∙ either (λ (r : Response). (on_response held r).service ≡ held) _ _ _ refl refl

pub through_the_port : ThroughThePort
unfolding port_step_of responded_of read60_of
through_the_port service byte empty enabled =
    ap (λ (s : Service). port_step_of s Read60) (taken service byte empty enabled)
    ∙ ap (λ (o : Outcome). record { outcome = o; response = response.Key byte }) (controller_apart (holding service.controller (buffer.Empty byte)) service (Key byte) refl)
