-- What a lent call leaves in the service, and what it returns: the core's outcome, in two parts.
-- Assumes nothing.
use Rattle.std.specs.Prelude.{ℕ, List, [], Result, Ok, Err}
use Rattle.translation.specs.declared.CodeSet.{CodeSet}
use Rattle.controller.specs.declared.PortEvent.{PortEvent}
use Rattle.state.specs.declared.Service.{Service}
use Rattle.events.specs.declared.Event.{Event}
use Rattle.events.specs.declared.Outcome.{Outcome}
use Rattle.state.specs.declared.NotMade.{NotMade}
use Rattle.state.specs.State.{making_refusal_number, make_of}
use Rattle.events.specs.Step.{step_of}
use Rattle.events.specs.Frames.{frame_step_of}
use Rattle.events.specs.Sets.{change_of}
use Rattle.events.specs.Controller.{port_step_of}
use Rattle.events.specs.Run.{after}
use Rattle.events.specs.Resynchronised.{resynchronisation, set_in}
use Rattle.answers.specs.declared.Answer.TheVariants.{Done}
use Rattle.report.specs.Reported.{Reported, reported_of}
use Rattle.lent_calls.specs.declared.Answered.{Answered}
use Rattle.lent_calls.specs.declared.Stepped.{Stepped}
use Rattle.lent_calls.specs.declared.PortAnswered.{PortAnswered}

-- what a port event leaves and answers
pub record PortStepped : Type 0 where
  pub service : Service
  pub answered : PortAnswered

-- what a call that may be refused leaves: refusal 0, or the number and the service as it was
pub record Tried : Type 0 where
  pub service : Service
  pub refusal : ℕ

-- a service that was made replaces the one lent; a refusal leaves that one as it was
abbrev pub tried_of : Service → Result Service NotMade → Tried
tried_of service (Ok made) = record { service = made; refusal = 0 }
tried_of service (Err not_made) = record { service = service; refusal = making_refusal_number not_made.refusal }

unfoldable pub made_in : CodeSet → Service → ℕ → Tried
made_in set service bits = tried_of service (make_of set bits)

abbrev pub answered_by : Outcome → Answered
answered_by outcome = record { answer = outcome.answer; sent = outcome.sent }

abbrev pub stepped_of : Outcome → Stepped
stepped_of outcome = record { service = outcome.service; answered = answered_by outcome }

unfoldable pub event_in : Service → Event → Stepped
event_in service event = stepped_of (step_of service event)

unfoldable pub frame_in : Service → ℕ → Stepped
frame_in service frame = stepped_of (frame_step_of service frame)

unfoldable pub change_in : Service → CodeSet → Stepped
change_in service set = stepped_of (change_of service set)

unfoldable pub port_in : Service → PortEvent → PortStepped
port_in service event =
    let step = port_step_of service event in
    record { service = step.outcome.service; answered = record { answered = answered_by step.outcome; response = step.response } }

abbrev pub tells_of : Reported → Tried
tells_of reported = record { service = reported.service; refusal = reported.refusal }

-- 9 leaves the service as it was, and so do 2 to 5
unfoldable pub reported_in : Service → Event → List ℕ → Tried
reported_in service event buffer = tells_of (reported_of service event buffer)

-- the service after the all-up run at both ports, E and R, with what this R answers
unfoldable pub resynchronised_in : Service → Stepped
resynchronised_in service =
    record { service = after service (resynchronisation [] (set_in service)); answered = record { answer = Done; sent = 0 } }
