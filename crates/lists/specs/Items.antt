-- What a list can hold: the things that a caller does with a service, one after the other.
-- Assumes nothing.
use Rattle.frame.specs.declared.Fault.{Fault}
use Rattle.std.specs.Prelude.{ℕ, Bool, false, List, [], ◌∷◌, ◌++◌, ltb, Result, Ok, Err}
use Rattle.bits.specs.Choice.{when◌then◌else◌}
use Rattle.frame.specs.Frame.{read_frame}
use Rattle.translation.specs.declared.CodeSet.{CodeSet}
use Rattle.controller.specs.declared.PortEvent.{PortEvent}
use Rattle.controller.specs.declared.Response.{Response}
use Rattle.controller.specs.State.{status_of}
use Rattle.controller.specs.PortEvents.{byte_in, interrupt_in, is_key_in}
use Rattle.state.specs.declared.Service.{Service}
use Rattle.events.specs.declared.Event.{Event}
use Rattle.events.specs.declared.Event.TheVariants.{Key}
use Rattle.events.specs.declared.Outcome.{Outcome}
use Rattle.events.specs.Step.{step_of}
use Rattle.events.specs.Frames.{frame_step_of}
use Rattle.events.specs.Sets.{change_of}
use Rattle.events.specs.Controller.{port_step_of}
use Rattle.events.specs.Run.{Shown, shown_of, next}
use Rattle.report.specs.Reported.{refusal_in, reported_of, buffer_of}

-- an event is run, or it is handed to the reporter with a buffer of any length; a frame, any number, is received; the set is changed; a port event
-- happens
pub data Item : Type 0 where
  runs : Event → Item
  reports : Event → List ℕ → Item
  receives : ℕ → Item
  changes : CodeSet → Item
  at_port : PortEvent → Item

-- what a port event shows beside its answer: the byte read, interrupt 1, and whether the byte was fed
pub record PortSeen : Type 0 where
  pub byte : ℕ
  pub interrupt : Bool
  pub fed : Bool

-- what a caller sees of an item: what its answer shows, if it gets one; the number of its refusal, 0 for none; the buffer that it gets back; what it
-- shows at the ports; the status that it leaves
pub record Seen : Type 0 where
  pub shown : List Shown
  pub refusal : ℕ
  pub buffer : List ℕ
  pub port : PortSeen
  pub status : ℕ

-- what an item leaves, what ran of it (itself as the plainest item of that effect, or nothing), and what is seen
pub record Stepped : Type 0 where
  pub service : Service
  pub ran : List Item
  pub seen : Seen

abbrev pub port_seen : Response → PortSeen
port_seen response = record { byte = byte_in response; interrupt = interrupt_in response; fed = is_key_in response }

-- of all that is no port event, nothing is seen at the ports but the status
abbrev pub no_port : PortSeen
no_port = record { byte = 0x00; interrupt = false; fed = false }

abbrev pub status_in : Service → ℕ
status_in service = status_of service.controller

-- a call that answers and is lent no buffer
abbrev pub answered : Shown → PortSeen → ℕ → Seen
answered shown port status = record { shown = shown ∷ []; refusal = refusal_in shown.ans; buffer = []; port = port; status = status }

abbrev pub seen_of : Outcome → PortSeen → Seen
seen_of outcome port = answered (shown_of outcome) port (status_in outcome.service)

-- 2 to 5 refuse an event that ran; any other refusal says that none did
abbrev pub where_ran : {A : Type 0} → ℕ → List A → List A
where_ran refusal of-event = when ltb 5 refusal then [] else of-event

-- what a frame feeds
abbrev pub fed_by : Result ℕ Fault → List Item
fed_by (Ok byte) = runs (Key byte) ∷ []
fed_by (Err fault) = []

-- each item by the definition of the call that it is
unfoldable pub step_item : Service → Item → Stepped
step_item service (runs event) =
    record { service = next service event; ran = runs event ∷ []; seen = seen_of (step_of service event) no_port }
step_item service (reports event buffer) =
    let told = reported_of service event buffer in
    record {
      service = told.service;
      ran = where_ran told.refusal (runs event ∷ []);
      seen =
          record {
            shown = where_ran told.refusal (shown_of (step_of service event) ∷ []);
            refusal = told.refusal;
            buffer = buffer_of service event buffer;
            port = no_port;
            status = status_in told.service;
          };
    }
step_item service (receives frame) =
    let outcome = frame_step_of service frame in
    record { service = outcome.service; ran = fed_by (read_frame frame); seen = seen_of outcome no_port }
step_item service (changes set) =
    let outcome = change_of service set in
    record { service = outcome.service; ran = changes set ∷ []; seen = seen_of outcome no_port }
step_item service (at_port event) =
    let step = port_step_of service event in
    let seen = seen_of step.outcome (port_seen step.response) in
    record { service = step.outcome.service; ran = where_ran seen.refusal (at_port event ∷ []); seen = seen }

-- Lists: each item takes the service as the one before left it.

abbrev pub next_item : Service → Item → Service
next_item service item = (step_item service item).service

abbrev pub after_items : Service → List Item → Service
after_items service [] = service
after_items service (item ∷ more) = after_items (next_item service item) more

abbrev pub ran_items : Service → List Item → List Item
ran_items service [] = []
ran_items service (item ∷ more) = (step_item service item).ran ++ ran_items (next_item service item) more

abbrev pub seen_items : Service → List Item → List Seen
seen_items service [] = []
seen_items service (item ∷ more) = (step_item service item).seen ∷ seen_items (next_item service item) more

-- what the items that ran show, one after the other
abbrev pub shown_in : List Seen → List Shown
shown_in [] = []
shown_in (seen ∷ more) = where_ran seen.refusal seen.shown ++ shown_in more
