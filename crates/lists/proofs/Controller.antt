-- The laws that Controller.antt of specs/ states: item by item, from the one law of events and the controller.
-- Assumes nothing.
use Rattle.std.specs.Prelude.{Result, Ok, Err}
use Rattle.frame.specs.declared.Fault.{Fault}
use Prim.Native.Nat.{ℕ}
use mathlib.Core.Path.{◌≡◌, refl, ap, sym, ◌∙◌}
use mathlib.Core.Bool.{false}
use mathlib.Core.List.{List, [], ◌∷◌, ◌++◌, map}
use lib.ListN.{drop}
use borrow.Author.Tests.{ltb-true, ltb-false}
use Rattle.bits.specs.Bits.{bit0, bit4}
use Rattle.bits.specs.Choice.{when◌then◌else◌}
use Rattle.bits.proofs.Choice.{by_test, either}
use Rattle.frame.specs.Frame.{read_frame}
use Rattle.controller.specs.declared.Buffer.TheVariants as buffer
use Rattle.controller.specs.declared.Controller.{Controller}
use Rattle.controller.specs.declared.PortEvent.TheVariants.{FromKeyboard, Read60}
use Rattle.controller.specs.declared.Response.{Response}
use Rattle.controller.specs.declared.Response.TheVariants as response
use Rattle.controller.specs.declared.Responded.{Responded}
use Rattle.controller.specs.State.{is_full}
use Rattle.controller.specs.PortEvents.{holding, read60_of, responded_of, is_refused}
use Rattle.controller.specs.Laws.{OneOfFour}
use Rattle.controller.proofs.Laws.{status_is_one_of_four, accepts}
use Rattle.translation.specs.declared.CodeSet.{CodeSet}
use Rattle.state.specs.declared.Service.{Service}
use Rattle.state.specs.State.{with_controller}
use Rattle.events.specs.declared.Event.{Event}
use Rattle.events.specs.declared.Event.TheVariants.{Key, Call, Poll, TimeOut, Empty, Restart, Scan}
use Rattle.events.specs.declared.Outcome.{Outcome}
use Rattle.events.specs.Outcomes.{answered_of}
use Rattle.events.specs.Tags.{tag_of}
use Rattle.events.specs.Step.{step_of}
use Rattle.events.specs.Frames.{on_frame, frame_step_of}
use Rattle.events.specs.Sets.{change_of}
use Rattle.events.specs.Controller.{on_response, port_step_of}
use Rattle.events.specs.ControllerLaws.{is_restart}
use Rattle.events.specs.Run.{Shown, shown_of, next, run, after}
use Rattle.events.proofs.Controller.{controller_apart, restart_renews, controller_unshown, taken}
use Rattle.report.specs.Report.{report_from, report_of}
use Rattle.report.specs.Text.{text_of}
use Rattle.report.specs.Reported.{report_length, refusal_in, too_short}
use Rattle.lists.specs.Items.{Item, runs, reports, receives, changes, at_port, Stepped, no_port, seen_of, step_item, next_item, after_items, ran_items, seen_items}
use Rattle.lists.specs.Controller.{StatusesOverItems, bare, SeenWithoutStatus, without_status, NoneAtPort, ControllerUnread, keys_in, typed_by, typed_items, PortEventsFeedKeys, through_port, shown_at_reads, ThroughPortAsKeys}
use Rattle.lists.proofs.ItemLaws.{short_runs_nothing, long_runs, after_items_append, accepted_at_port}

-- ---- the status

pub statuses_over_items : StatusesOverItems
unfolding step_item
statuses_over_items service [] = tt
statuses_over_items service (item ∷ more) = (one item, statuses_over_items (next_item service item) more)
  where
    one : (item : Item) → OneOfFour (step_item service item).seen.status
    one (runs event) = status_is_one_of_four _
    one (reports event buffer) = status_is_one_of_four _
    one (receives frame) = status_is_one_of_four _
    one (changes set) = status_is_one_of_four _
    one (at_port event) = status_is_one_of_four _

-- ---- what another controller changes

-- an outcome, and one from another controller
record Beside (other outcome : Outcome) : Type 0 where
  left : bare other.service ≡ bare outcome.service
  shown : shown_of other ≡ shown_of outcome

beside : {other outcome : Outcome} → other ≡ outcome → Beside other outcome
beside is = record { left = ap (λ (o : Outcome). bare o.service) is; shown = ap shown_of is }

event_beside : (controller : Controller) (service : Service) (event : Event)
    → Beside (step_of (with_controller service controller) event) (step_of service event)
event_beside controller service event = split event
  where
    apart : (event : Event) → is_restart event ≡ false → Beside (step_of (with_controller service controller) event) (step_of service event)
    apart event other =
        let is = beside (controller_apart controller service event other) in
        record { left = is.left; shown = is.shown ∙ controller_unshown controller (step_of service event) }

    split : (event : Event) → Beside (step_of (with_controller service controller) event) (step_of service event)
    split (Key byte) = apart (Key byte) refl
    split (Call function a b) = apart (Call function a b) refl
    split Poll = apart Poll refl
    split TimeOut = apart TimeOut refl
    split Empty = apart Empty refl
    split Restart = beside (restart_renews controller service)
    split (Scan byte) = apart (Scan byte) refl

frame_beside : (controller : Controller) (service : Service) (reading : Result ℕ Fault)
    → Beside (on_frame (with_controller service controller) reading) (on_frame service reading)
unfolding answered_of
frame_beside controller service (Ok byte) = event_beside controller service (Key byte)
frame_beside controller service (Err fault) = record { left = refl; shown = controller_unshown controller (on_frame service (Err fault)) }

change_beside : (controller : Controller) (service : Service) (set : CodeSet) → Beside (change_of (with_controller service controller) set) (change_of service set)
unfolding change_of answered_of
change_beside controller service set = record { left = refl; shown = controller_unshown controller (change_of service set) }

record StepBeside (other stepped : Stepped) : Type 0 where
  left : bare other.service ≡ bare stepped.service
  seen : without_status other.seen ≡ without_status stepped.seen

abbrev written : List ℕ → Shown → SeenWithoutStatus
written buffer shown = record { shown = shown ∷ []; refusal = refusal_in shown.ans; buffer = buffer; port = no_port }

answer_beside : {other outcome : Outcome} (ran others : List Item) → Beside other outcome
    → StepBeside (record { service = other.service; ran = others; seen = seen_of other no_port }) (record { service = outcome.service; ran = ran; seen = seen_of outcome no_port })
answer_beside ran others is = record { left = is.left; seen = ap (written []) is.shown }

abbrev Step : Controller → Service → Item → Type 0
Step controller service item = StepBeside (step_item (with_controller service controller) item) (step_item service item)

report_beside : (controller : Controller) (service : Service) (event : Event) (buffer : List ℕ) → Step controller service (reports event buffer)
unfolding report_of
report_beside controller service event buffer =
    by_test (λ (_ : ℕ). Step controller service (reports event buffer)) (too_short buffer) 0 0
    (λ test.
    let short = ltb-true _ _ test in
    rw (short_runs_nothing (with_controller service controller) event buffer short, short_runs_nothing service event buffer short)
    (record { left = refl; seen = refl }))
    (λ test.
    let long = ltb-false _ _ test in
    let is = event_beside controller service event in
    rw (long_runs (with_controller service controller) event buffer long, long_runs service event buffer long)
    (record {
      left = is.left;
      seen = ap (λ (shown : Shown). written (text_of (report_from (tag_of event) shown) ++ drop report_length buffer) shown) is.shown;
    }))

item_beside : (controller : Controller) (service : Service) (item : Item) (more : List Item) → NoneAtPort (item ∷ more) → Step controller service item
unfolding step_item frame_step_of change_of answered_of
item_beside controller service (runs event) more none = answer_beside _ _ (event_beside controller service event)
item_beside controller service (reports event buffer) more none = report_beside controller service event buffer
item_beside controller service (receives frame) more none = answer_beside _ _ (frame_beside controller service (read_frame frame))
item_beside controller service (changes set) more none =
    answer_beside _ _ (change_beside controller service set)
item_beside controller service (at_port event) more none = absurd none

rest_none : (item : Item) (more : List Item) → NoneAtPort (item ∷ more) → NoneAtPort more
rest_none (runs event) more none = none
rest_none (reports event buffer) more none = none
rest_none (receives frame) more none = none
rest_none (changes set) more none = none
rest_none (at_port event) more none = absurd none

-- services that are one but for the controller
recovered : (a b : Service) → bare a ≡ bare b → a ≡ with_controller b a.controller
recovered a b is = ap (λ (s : Service). with_controller s a.controller) is

pub controller_unread : ControllerUnread
controller_unread controller service [] none = record { last = refl; seen = refl }
controller_unread controller service (item ∷ more) none =
    let step = item_beside controller service item more none in
    let other = next_item (with_controller service controller) item in
    let here = next_item service item in
    let is = recovered other here step.left in
    let later = controller_unread other.controller here more (rest_none item more none) in
    record {
      last = ap (λ (s : Service). bare (after_items s more)) is ∙ later.last;
      seen =
          ap (λ (s : Service). without_status (step_item (with_controller service controller) item).seen ∷ map without_status (seen_items s more)) is
          ∙ ap (λ (first : SeenWithoutStatus). first ∷ map without_status (seen_items (with_controller here other.controller) more)) step.seen
          ∙ ap (◌∷◌ (without_status (step_item service item).seen)) later.seen;
    }

-- ---- port events do no more than feed keys

keys_free : (r : Response) (more : List Item) → NoneAtPort more → NoneAtPort (keys_in r ++ more)
keys_free response.Accepted more none = none
keys_free response.Interrupt more none = none
keys_free (response.Byte byte) more none = none
keys_free (response.Key byte) more none = none
keys_free (response.Refused refusal) more none = none

typed_free : (service : Service) (item : Item) (more : List Item) → NoneAtPort more → NoneAtPort (typed_by service item ++ more)
typed_free service (runs event) more none = none
typed_free service (reports event buffer) more none = none
typed_free service (receives frame) more none = none
typed_free service (changes set) more none = none
typed_free service (at_port event) more none = keys_free (port_step_of service event).response more none

response_typed : (controller : Controller) (service : Service) (r : Response)
    → bare (on_response (with_controller service controller) r).service ≡ bare (after_items service (keys_in r))
unfolding answered_of step_item
response_typed controller service response.Accepted = refl
response_typed controller service response.Interrupt = refl
response_typed controller service (response.Byte byte) = refl
response_typed controller service (response.Key byte) = (event_beside controller service (Key byte)).left
response_typed controller service (response.Refused refusal) = refl

item_typed : (service : Service) (item : Item) → bare (next_item service item) ≡ bare (after_items service (typed_by service item))
unfolding step_item port_step_of
item_typed service (runs event) = refl
item_typed service (reports event buffer) = refl
item_typed service (receives frame) = refl
item_typed service (changes set) = refl
item_typed service (at_port event) =
    let responded = responded_of service.controller event in response_typed responded.controller service responded.response

alike : (a b : Service) (items : List Item) → NoneAtPort items → bare a ≡ bare b → bare (after_items a items) ≡ bare (after_items b items)
alike a b items none is = ap (λ (s : Service). bare (after_items s items)) (recovered a b is) ∙ (controller_unread a.controller b items none).last

pub port_events_feed_keys : PortEventsFeedKeys
port_events_feed_keys service [] = record { left = refl; free = tt }
port_events_feed_keys service (item ∷ more) =
    let there = next_item service item in
    let typed = typed_items there more in
    let later = port_events_feed_keys there more in
    record {
      left =
          later.left
          ∙ alike there (after_items service (typed_by service item)) typed later.free (item_typed service item)
          ∙ ap bare (sym (after_items_append service (typed_by service item) typed));
      free = typed_free service item typed later.free;
    }

-- ---- bytes through the port

-- a byte from the keyboard that is accepted
record Taken (service : Service) (controller : Controller) (byte : ℕ) : Type 0 where
  left : next_item (with_controller service controller) (at_port (FromKeyboard byte)) ≡ with_controller service (holding controller (buffer.Key byte))
  ran : (step_item (with_controller service controller) (at_port (FromKeyboard byte))).ran ≡ at_port (FromKeyboard byte) ∷ []
  unfed : typed_by (with_controller service controller) (at_port (FromKeyboard byte)) ≡ []

is_taken : (service : Service) (controller : Controller) (byte : ℕ) → is_full controller.buffer ≡ false → bit4 controller.command ≡ false
    → Taken service controller byte
unfolding step_item port_step_of
is_taken service controller byte empty enabled =
    let there = with_controller service controller in
    let says : (port_step_of there (FromKeyboard byte)).response ≡ (when bit0 controller.command then response.Interrupt else response.Accepted) =
    ap (λ (r : Responded). r.response) (accepts controller byte empty enabled) in
    let not_refused : is_refused (port_step_of there (FromKeyboard byte)).response ≡ false =
    ap is_refused says ∙ either (λ (r : Response). is_refused r ≡ false) _ _ _ refl refl in
    record {
      left = taken there byte empty enabled;
      ran = ap (λ (s : Stepped). s.ran) (accepted_at_port there (FromKeyboard byte) not_refused);
      unfed = ap keys_in says ∙ either (λ (r : Response). keys_in r ≡ []) _ _ _ refl refl;
    }

-- the read of the key that is held
record IsRead (service : Service) (controller : Controller) (byte : ℕ) : Type 0 where
  left : next_item (with_controller service (holding controller (buffer.Key byte))) (at_port Read60) ≡ with_controller (next service (Key byte)) (holding controller (buffer.Empty byte))
  ran : (step_item (with_controller service (holding controller (buffer.Key byte))) (at_port Read60)).ran ≡ at_port Read60 ∷ []
  fed : typed_by (with_controller service (holding controller (buffer.Key byte))) (at_port Read60) ≡ runs (Key byte) ∷ []
  shown : (step_item (with_controller service (holding controller (buffer.Key byte))) (at_port Read60)).seen.shown ≡ shown_of (step_of service (Key byte)) ∷ []

is_read : (service : Service) (controller : Controller) (byte : ℕ) → IsRead service controller byte
unfolding step_item port_step_of responded_of read60_of
is_read service controller byte =
    let held = with_controller service (holding controller (buffer.Key byte)) in
    let is = event_beside (holding controller (buffer.Empty byte)) service (Key byte) in
    record {
      left = ap (λ (o : Outcome). o.service) (controller_apart (holding controller (buffer.Empty byte)) service (Key byte) refl);
      ran = ap (λ (s : Stepped). s.ran) (accepted_at_port held Read60 refl);
      fed = refl;
      shown = ap (λ (shown : Shown). shown ∷ []) is.shown;
    }

-- from any controller that takes a byte
record Through (service : Service) (controller : Controller) (bytes : List ℕ) : Type 0 where
  ran : ran_items (with_controller service controller) (through_port bytes) ≡ through_port bytes
  typed : typed_items (with_controller service controller) (through_port bytes) ≡ map runs (map Key bytes)
  left : bare (after_items (with_controller service controller) (through_port bytes)) ≡ bare (after service (map Key bytes))
  shows : shown_at_reads (seen_items (with_controller service controller) (through_port bytes)) ≡ run service (map Key bytes)

through : (service : Service) (controller : Controller) (bytes : List ℕ) → is_full controller.buffer ≡ false → bit4 controller.command ≡ false
    → Through service controller bytes
unfolding is_full
through service controller [] empty enabled = record { ran = refl; typed = refl; left = refl; shows = refl }
through service controller (byte ∷ more) empty enabled =
    let first = is_taken service controller byte empty enabled in
    let second = is_read service controller byte in
    let later = through (next service (Key byte)) (holding controller (buffer.Empty byte)) more refl enabled in
    let items = through_port more in
    record {
      ran = simp (first.ran, first.left, second.ran, second.left, later.ran);
      typed = simp (first.unfed, first.left, second.fed, second.left, later.typed);
      left = ap (λ (s : Service). bare (after_items s (at_port Read60 ∷ items))) first.left ∙ ap (λ (s : Service). bare (after_items s items)) second.left ∙ later.left;
      shows = simp (first.left, second.shown, second.left, later.shows);
    }

pub through_port_as_keys : ThroughPortAsKeys
through_port_as_keys service bytes empty enabled =
    let is = through service service.controller bytes empty enabled in
    record { ran = is.ran; typed = is.typed; left = is.left; shows = is.shows }
