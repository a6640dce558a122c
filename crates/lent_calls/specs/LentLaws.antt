-- What holds of the lent calls: a refusal leaves the service as it was, and 9 the buffer too; a change of set leaves all but the codes. LentLaws.antt of proofs/ proves each sentence.
-- Assumes nothing.
use Rattle.std.specs.Prelude.{ℕ, ◌<◌, ◌≤◌, ◌≡◌, List, length, Ok, Err}
use Rattle.frame.specs.declared.Fault.{Fault}
use Rattle.frame.specs.Frame.{read_frame}
use Rattle.line.specs.State.{sent_of}
use Rattle.translation.specs.declared.CodeSet.{CodeSet}
use Rattle.translation.specs.Translation.{unmarked_of}
use Rattle.controller.specs.declared.Buffer.TheVariants as buffer
use Rattle.controller.specs.declared.PortEvent.{PortEvent}
use Rattle.controller.specs.declared.PortEvent.TheVariants.{Read60}
use Rattle.controller.specs.declared.PortRefusal.{PortRefusal}
use Rattle.controller.specs.declared.Response.TheVariants as response
use Rattle.controller.specs.PortEvents.{holding}
use Rattle.state.specs.declared.Service.{Service}
use Rattle.events.specs.declared.Event.{Event}
use Rattle.events.specs.declared.Event.TheVariants.{Key}
use Rattle.answers.specs.declared.Refusal.{Refusal}
use Rattle.answers.specs.declared.Refusal.TheVariants.{Frame, Port}
use Rattle.answers.specs.declared.Answer.TheVariants.{Nothing, Refused}
use Rattle.state.specs.State.{new_service, with_codes, with_controller}
use Rattle.events.specs.Step.{step_of}
use Rattle.report.specs.Reported.{report_length, buffer_of}
use Rattle.lent_calls.specs.Lent.{made_in, event_in, frame_in, change_in, port_in, reported_in}

-- 1: lock bits above 15 leave the service that is lent; others make a new one of it
pub record Makes : Type 0 where
  pub refused : (set : CodeSet) (service : Service) (bits : ℕ) → 15 < bits → made_in set service bits ≡ record { service = service; refusal = 1 }
  pub made : (set : CodeSet) (service : Service) (bits : ℕ) → bits ≤ 15 →
      made_in set service bits ≡ record { service = new_service set bits; refusal = 0 }

-- 2 to 5: an event that is refused
abbrev pub RefusedLeaves : Type 0
RefusedLeaves =
    (service : Service) (event : Event) (refusal : Refusal) → (event_in service event).answered.answer ≡ Refused refusal →
    (event_in service event).service ≡ service

-- 11 to 13: a frame that is refused; any other does what the event of its byte does
pub record Frames : Type 0 where
  pub refused : (service : Service) (frame : ℕ) (fault : Fault) → read_frame frame ≡ Err fault →
      frame_in service frame ≡ record { service = service; answered = record { answer = Refused (Frame fault); sent = sent_of service.line } }
  pub accepted : (service : Service) (frame byte : ℕ) → read_frame frame ≡ Ok byte → frame_in service frame ≡ event_in service (Key byte)

-- a change of set leaves all but the codes, which begin unmarked, and is never refused
abbrev pub Changes : Type 0
Changes =
    (service : Service) (set : CodeSet) →
    change_in service set
    ≡ record { service = with_codes service (unmarked_of set); answered = record { answer = Nothing; sent = sent_of service.line } }

-- 14 to 16: a port event that is refused; the key that a read of 60 feeds is its event, run beside the controller that the read left
pub record PortEvents : Type 0 where
  pub refused : (service : Service) (event : PortEvent) (refusal : PortRefusal) →
      (port_in service event).answered.response ≡ response.Refused refusal →
      port_in service event
      ≡ record {
        service = service;
        answered =
            record { answered = record { answer = Refused (Port refusal); sent = sent_of service.line }; response = response.Refused refusal };
      }
  pub fed : (service : Service) (byte : ℕ) → service.controller.buffer ≡ buffer.Key byte →
      port_in service Read60
      ≡ record {
        service = with_controller (event_in service (Key byte)).service (holding service.controller (buffer.Empty byte));
        answered = record { answered = (event_in service (Key byte)).answered; response = response.Key byte };
      }

-- 9 leaves the service and every byte of the buffer
pub record Untouched (service : Service) (event : Event) (buffer : List ℕ) : Type 0 where
  pub result : reported_in service event buffer ≡ record { service = service; refusal = 9 }
  pub unwritten : buffer_of service event buffer ≡ buffer

abbrev pub ShortUntouched : Type 0
ShortUntouched = (service : Service) (event : Event) (buffer : List ℕ) → length buffer < report_length → Untouched service event buffer

-- an event that 2 to 5 refuse leaves the service, reported or not
abbrev pub RefusedReportLeaves : Type 0
RefusedReportLeaves =
    (service : Service) (event : Event) (buffer : List ℕ) (refusal : Refusal) → (step_of service event).answer ≡ Refused refusal →
    (reported_in service event buffer).service ≡ service
