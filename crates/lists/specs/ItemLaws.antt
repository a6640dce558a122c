-- What holds of items and of lists of them. ItemLaws.antt of proofs/ proves each sentence.
-- Assumes nothing.
use Rattle.std.specs.Prelude.{ℕ, ◌+◌, ◌<◌, ◌≤◌, ◌≡◌, false, List, [], ◌∷◌, ◌++◌, map, length, drop, Ok, Err}
use Rattle.frame.specs.declared.Fault.{Fault}
use Rattle.frame.specs.Frame.{frame_of, read_frame, fault_number}
use Rattle.line.specs.State.{sent_of}
use Rattle.controller.specs.declared.PortEvent.{PortEvent}
use Rattle.controller.specs.declared.PortRefusal.{PortRefusal}
use Rattle.controller.specs.declared.Response.TheVariants as response
use Rattle.controller.specs.PortEvents.{port_refusal_number, is_refused}
use Rattle.state.specs.declared.Service.{Service}
use Rattle.state.specs.Flags.{byte17_of, byte18_of, byte96_of, byte97_of}
use Rattle.events.specs.declared.Event.{Event}
use Rattle.events.specs.declared.Event.TheVariants.{Key}
use Rattle.events.specs.Step.{step_of}
use Rattle.events.specs.Controller.{port_step_of}
use Rattle.events.specs.Run.{shown_of, next, run, after}
use Rattle.report.specs.Text.{text_of}
use Rattle.report.specs.Reported.{report_length, event_report, refusal_in}
use Rattle.lists.specs.Items.{Item, runs, reports, receives, at_port, Seen, Stepped, port_seen, no_port, status_in, seen_of, step_item, after_items, ran_items, seen_items, shown_in}

-- One item: a report by the length of its buffer.

-- below 44 bytes: 9, no event, service and buffer as they were
abbrev pub refused_step : Service → List ℕ → Stepped
refused_step service buffer =
    record {
      service = service;
      ran = [];
      seen = record { shown = []; refusal = 9; buffer = buffer; port = no_port; status = status_in service };
    }

abbrev pub ShortRunsNothing : Type 0
ShortRunsNothing =
    (service : Service) (event : Event) (buffer : List ℕ) → length buffer < report_length →
    step_item service (reports event buffer) ≡ refused_step service buffer

-- from 44 bytes on: the event as it runs without a report, its text, the tail as it was
abbrev pub reported_step : Service → Event → List ℕ → Stepped
reported_step service event buffer =
    record {
      service = next service event;
      ran = runs event ∷ [];
      seen =
          record {
            shown = shown_of (step_of service event) ∷ [];
            refusal = refusal_in (event_report service event).ans;
            buffer = text_of (event_report service event) ++ drop report_length buffer;
            port = no_port;
            status = status_in (next service event);
          };
    }

abbrev pub LongRuns : Type 0
LongRuns =
    (service : Service) (event : Event) (buffer : List ℕ) → report_length ≤ length buffer →
    step_item service (reports event buffer) ≡ reported_step service event buffer

-- One item: a frame by what it carries.

-- a byte: all that its K event is
abbrev pub AcceptedIsKey : Type 0
AcceptedIsKey =
    (service : Service) (frame byte : ℕ) → read_frame frame ≡ Ok byte → step_item service (receives frame) ≡ step_item service (runs (Key byte))

-- refused by a number above 5: no event, the service as it was; the flag bytes and the count of bytes sent are shown as they stand
abbrev pub turned_away : Service → ℕ → Stepped
turned_away service number =
    record {
      service = service;
      ran = [];
      seen =
          record {
            shown =
                record {
                  ans = 0x80 + number;
                  word = 0;
                  byte17 = byte17_of service;
                  byte18 = byte18_of service;
                  byte96 = byte96_of service;
                  byte97 = byte97_of service;
                  sent = sent_of service.line;
                } ∷ [];
            refusal = number;
            buffer = [];
            port = no_port;
            status = status_in service;
          };
    }

-- a fault: 11, 12 or 13
abbrev pub RefusedRunsNothing : Type 0
RefusedRunsNothing =
    (service : Service) (frame : ℕ) (fault : Fault) → read_frame frame ≡ Err fault →
    step_item service (receives frame) ≡ turned_away service (fault_number fault)

-- One item: a port event by how the controller responds.

-- 14, 15 or 16
abbrev pub RefusedAtPort : Type 0
RefusedAtPort =
    (service : Service) (event : PortEvent) (refusal : PortRefusal) → (port_step_of service event).response ≡ response.Refused refusal →
    step_item service (at_port event) ≡ turned_away service (port_refusal_number refusal)

-- any other: it ran, and is itself what ran
abbrev pub ported_step : Service → PortEvent → Stepped
ported_step service event =
    let step = port_step_of service event in
    record { service = step.outcome.service; ran = at_port event ∷ []; seen = seen_of step.outcome (port_seen step.response) }

abbrev pub AcceptedAtPort : Type 0
AcceptedAtPort =
    (service : Service) (event : PortEvent) → is_refused (port_step_of service event).response ≡ false →
    step_item service (at_port event) ≡ ported_step service event

-- Lists: only what ran counts.

-- what ran of a list leaves the service that the list leaves
abbrev pub ItemsLeave : Type 0
ItemsLeave = (service : Service) (items : List Item) → after_items service items ≡ after_items service (ran_items service items)

-- and shows what the list's events show
abbrev pub ItemsShow : Type 0
ItemsShow =
    (service : Service) (items : List Item) → shown_in (seen_items service items) ≡ shown_in (seen_items service (ran_items service items))

-- no item is left out of what is seen
abbrev pub EachSeen : Type 0
EachSeen = (service : Service) (items : List Item) → length (seen_items service items) ≡ length items

-- a list of events, as `events` has it, is the list of items that run them
pub record AsEvents (service : Service) (events : List Event) : Type 0 where
  pub ran : ran_items service (map runs events) ≡ map runs events
  pub leaves : after_items service (map runs events) ≡ after service events
  pub shows : shown_in (seen_items service (map runs events)) ≡ run service events

abbrev pub EventsAsItems : Type 0
EventsAsItems = (service : Service) (events : List Event) → AsEvents service events

-- the frames of bytes are the K events of these bytes
abbrev pub receives_byte : ℕ → Item
receives_byte byte = receives (frame_of byte)

abbrev pub AreBytes : List ℕ → Type 0
AreBytes [] = Unit {0}
AreBytes (byte ∷ more) = (byte < 256) × AreBytes more

pub record AsKeys (service : Service) (bytes : List ℕ) : Type 0 where
  pub ran : ran_items service (map receives_byte bytes) ≡ map runs (map Key bytes)
  pub leaves : after_items service (map receives_byte bytes) ≡ after_items service (map runs (map Key bytes))
  pub seen : seen_items service (map receives_byte bytes) ≡ seen_items service (map runs (map Key bytes))

abbrev pub FramesAsKeys : Type 0
FramesAsKeys = (service : Service) (bytes : List ℕ) → AreBytes bytes → AsKeys service bytes

-- an item put between two others is seen there and changes nothing else
pub record Between (service : Service) (before later : List Item) (item : Item) (seen : Seen) : Type 0 where
  pub ran : ran_items service (before ++ (item ∷ later)) ≡ ran_items service (before ++ later)
  pub leaves : after_items service (before ++ (item ∷ later)) ≡ after_items service (before ++ later)
  pub with_it :
      seen_items service (before ++ (item ∷ later)) ≡ seen_items service before ++ (seen ∷ seen_items (after_items service before) later)
  pub without_it : seen_items service (before ++ later) ≡ seen_items service before ++ seen_items (after_items service before) later

-- so it is with every item of which nothing ran
abbrev pub NothingBetween : Type 0
NothingBetween =
    (service : Service) (before later : List Item) (item : Item) →
    let stepped = step_item (after_items service before) item in
    stepped.ran ≡ [] → Between service before later item stepped.seen

-- and so with a report that 9 refuses: seen are the 9 and the buffer as it was
abbrev pub RefusedBetween : Type 0
RefusedBetween =
    (service : Service) (before later : List Item) (event : Event) (buffer : List ℕ) → length buffer < report_length →
    Between service before later (reports event buffer) (refused_step (after_items service before) buffer).seen

-- and with a refused port event, seen as turned away
abbrev pub RefusedPortBetween : Type 0
RefusedPortBetween =
    (service : Service) (before later : List Item) (event : PortEvent) (refusal : PortRefusal) →
    let there = after_items service before in
    (port_step_of there event).response ≡ response.Refused refusal →
    Between service before later (at_port event) (turned_away there (port_refusal_number refusal)).seen
