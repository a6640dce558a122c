-- A refusal leaves the service as it was, and 9 the buffer too; a change of set leaves all but the codes.
-- Assumes nothing.
use Prim.Native.Nat.{ℕ}
use mathlib.Core.Path.{◌≡◌, refl, ap, ◌∙◌}
use borrow.Author.Tests.{lt-ltb, le-ltb}
use Rattle.bits.specs.Choice.{when◌then◌else◌}
use Rattle.bits.proofs.Choice.{by_test}
use Rattle.controller.specs.declared.Buffer.{Buffer}
use Rattle.controller.specs.declared.Buffer.TheVariants as buffer
use Rattle.controller.specs.declared.Response.TheVariants as response
use Rattle.controller.specs.PortEvents.{holding, read60_of, responded_of}
use Rattle.state.specs.declared.Service.{Service}
use Rattle.state.specs.State.{make_of, with_controller}
use Rattle.events.specs.declared.Event.TheVariants.{Key}
use Rattle.events.specs.declared.Outcome.{Outcome}
use Rattle.events.specs.declared.PortOutcome.{PortOutcome}
use Rattle.events.specs.Outcomes.{answered_of}
use Rattle.events.specs.Frames.{frame_step_of}
use Rattle.events.specs.Sets.{change_of}
use Rattle.events.specs.Controller.{on_response, port_step_of}
use Rattle.events.proofs.RefusedCalls.{refused_answer}
use Rattle.events.proofs.Controller.{controller_apart, refused_port_events}
use Rattle.report.specs.Reported.{Reported, reported_of, too_short}
use Rattle.report.proofs.BufferLaws.{short_refused}
use Rattle.lent_calls.specs.Lent.{PortStepped, made_in, answered_by, event_in, frame_in, change_in, port_in, reported_in}
use Rattle.lent_calls.specs.LentLaws.{Makes, RefusedLeaves, Frames, Changes, PortEvents, ShortUntouched, RefusedReportLeaves}

pub makes : Makes
unfolding made_in make_of when◌then◌else◌
makes = record {
  refused = λ set service bits above. simp (lt-ltb _ _ above);
  made = λ set service bits within. simp (le-ltb _ _ within);
}

pub refused_leaves : RefusedLeaves
unfolding event_in
refused_leaves service event refused is = refused_answer service event refused is

pub frames : Frames
unfolding frame_in event_in frame_step_of answered_of
frames = record { refused = λ service frame fault is. rw is; accepted = λ service frame byte is. rw is }

pub changes : Changes
unfolding change_in change_of answered_of
changes service set = refl

pub port_events : PortEvents
unfolding port_in port_step_of responded_of read60_of answered_of event_in
port_events = record {
  refused = λ service event refusal is. ap told (refused_port_events service event refusal is);
  fed = λ service byte is. ap (read_from_lem service) is ∙ ap (fed_as byte) (controller_apart (holding service.controller (buffer.Empty byte)) service (Key byte) refl);
}
  where
    told : PortOutcome → PortStepped
    told step = record { service = step.outcome.service; answered = record { answered = answered_by step.outcome; response = step.response } }

    read_from_lem : Service → Buffer → PortStepped
    read_from_lem service held =
        let read = read60_of service.controller held in
        told (record { outcome = on_response (with_controller service read.controller) read.response; response = read.response })

    fed_as : ℕ → Outcome → PortStepped
    fed_as byte outcome = record { service = outcome.service; answered = record { answered = answered_by outcome; response = response.Key byte } }

pub short_untouched : ShortUntouched
unfolding reported_in
short_untouched service event buffer short =
    let refused = short_refused service event buffer short in
    record { result = rw refused.result; unwritten = refused.unwritten }

pub refused_report_leaves : RefusedReportLeaves
unfolding reported_in reported_of
refused_report_leaves service event buffer refused is =
    by_test (λ (reported : Reported). reported.service ≡ service) (too_short buffer) _ _ (λ _. refl) (λ _. refused_answer service event refused is)
