-- Document 02, W-207, as laws: what events and the controller have to do with one another. Controller.antt of proofs/ proves each sentence; crate `lists`
-- has them over lists.
-- Assumes nothing.
use Rattle.std.specs.Prelude.{ℕ, ◌≡◌, Bool, true, false}
use Rattle.bits.specs.Bits.{bit4}
use Rattle.controller.specs.declared.Buffer.TheVariants as buffer
use Rattle.controller.specs.declared.Controller.{Controller}
use Rattle.controller.specs.declared.PortEvent.{PortEvent}
use Rattle.controller.specs.declared.PortEvent.TheVariants.{FromKeyboard, Read60}
use Rattle.controller.specs.declared.PortRefusal.{PortRefusal}
use Rattle.controller.specs.declared.Response.TheVariants as response
use Rattle.controller.specs.State.{is_full}
use Rattle.controller.specs.PortEvents.{holding}
use Rattle.state.specs.declared.Service.{Service}
use Rattle.state.specs.State.{with_controller}
use Rattle.answers.specs.declared.Refusal.TheVariants.{Port}
use Rattle.answers.specs.declared.Answer.TheVariants.{Refused}
use Rattle.events.specs.declared.Event.{Event}
use Rattle.events.specs.declared.Event.TheVariants.{Key, Call, Poll, TimeOut, Empty, Restart, Scan}
use Rattle.events.specs.declared.Outcome.{Outcome}
use Rattle.events.specs.Outcomes.{answered_of}
use Rattle.events.specs.Step.{step_of}
use Rattle.events.specs.Controller.{port_step_of}
use Rattle.events.specs.Run.{shown_of}

abbrev pub is_restart : Event → Bool
is_restart (Key byte) = false
is_restart (Call function a b) = false
is_restart Poll = false
is_restart TimeOut = false
is_restart Empty = false
is_restart Restart = true
is_restart (Scan byte) = false

abbrev pub outcome_with : Controller → Outcome → Outcome
outcome_with controller outcome =
    record { service = with_controller outcome.service controller; answer = outcome.answer; sent = outcome.sent }

-- every event but R does and answers the same whatever the controller is, and leaves it; R does so too, and makes it new
abbrev pub ControllerApart : Type 0
ControllerApart =
    (controller : Controller) (service : Service) (event : Event) → is_restart event ≡ false →
    step_of (with_controller service controller) event ≡ outcome_with controller (step_of service event)

abbrev pub RestartRenews : Type 0
RestartRenews = (controller : Controller) (service : Service) → step_of (with_controller service controller) Restart ≡ step_of service Restart

-- no answer and no flag byte tells of it
abbrev pub ControllerUnshown : Type 0
ControllerUnshown = (controller : Controller) (outcome : Outcome) → shown_of (outcome_with controller outcome) ≡ shown_of outcome

-- 14 to 16 leave the service as it was, and show its flag bytes and count as they stand
abbrev pub RefusedPortEvents : Type 0
RefusedPortEvents =
    (service : Service) (event : PortEvent) (refusal : PortRefusal) → (port_step_of service event).response ≡ response.Refused refusal →
    port_step_of service event ≡ record { outcome = answered_of service (Refused (Port refusal)); response = response.Refused refusal }

-- a keyboard byte that is accepted and read at once is its K event, but for the last byte that the controller keeps
abbrev pub ThroughThePort : Type 0
ThroughThePort =
    (service : Service) (byte : ℕ) → is_full service.controller.buffer ≡ false → bit4 service.controller.command ≡ false →
    port_step_of (port_step_of service (FromKeyboard byte)).outcome.service Read60
    ≡ record { outcome = outcome_with (holding service.controller (buffer.Empty byte)) (step_of service (Key byte)); response = response.Key byte }
