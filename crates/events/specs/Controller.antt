-- Document 02, W-207: a port event at the service. The controller responds; the key that a read of 60 gives is fed as a K event.
-- Assumes nothing.
use Rattle.controller.specs.declared.PortEvent.{PortEvent}
use Rattle.controller.specs.declared.Response.{Response}
use Rattle.controller.specs.declared.Response.TheVariants as response
use Rattle.controller.specs.PortEvents.{responded_of}
use Rattle.state.specs.declared.Service.{Service}
use Rattle.state.specs.State.{with_controller}
use Rattle.answers.specs.declared.Refusal.TheVariants.{Port}
use Rattle.answers.specs.declared.Answer.TheVariants.{Nothing, Refused}
use Rattle.events.specs.declared.Event.TheVariants.{Key}
use Rattle.events.specs.declared.Outcome.{Outcome}
use Rattle.events.specs.declared.PortOutcome.{PortOutcome}
use Rattle.events.specs.Outcomes.{answered_of}
use Rattle.events.specs.Step.{step_of}

-- what feeds nothing has nothing to tell, unless it is refused
abbrev pub on_response : Service → Response → Outcome
on_response service response.Accepted = answered_of service Nothing
on_response service response.Interrupt = answered_of service Nothing
on_response service (response.Byte byte) = answered_of service Nothing
on_response service (response.Key byte) = step_of service (Key byte)
on_response service (response.Refused refusal) = answered_of service (Refused (Port refusal))

unfoldable pub port_step_of : Service → PortEvent → PortOutcome
port_step_of service event =
    let responded = responded_of service.controller event in
    record { outcome = on_response (with_controller service responded.controller) responded.response; response = responded.response }
