-- The laws that Ports.antt of specs/ states: item by item, from the one law of either port.
-- Assumes nothing.
use Rattle.std.specs.Prelude.{Result, Ok, Err}
use Rattle.frame.specs.declared.Fault.{Fault}
use Prim.Native.Nat.{ℕ}
use mathlib.Core.Path.{◌≡◌, refl, ap, sym, ◌∙◌}
use mathlib.Core.Bool.{false}
use mathlib.Core.List.{List, [], ◌∷◌, ◌++◌, map}
use lib.ListN.{drop}
use borrow.Author.Tests.{ltb-true, ltb-false}
use Rattle.bits.proofs.Choice.{by_test}
use Rattle.bits.proofs.Tests.{not_both}
use Rattle.frame.specs.Frame.{read_frame}
use Rattle.port.specs.declared.Port.{Port}
use Rattle.controller.specs.declared.Response.{Response}
use Rattle.controller.specs.declared.Response.TheVariants as response
use Rattle.controller.specs.PortEvents.{responded_of}
use Rattle.state.specs.declared.Device.{Device}
use Rattle.state.specs.declared.Device.TheVariants.{Keyboard, Scanner}
use Rattle.state.specs.declared.Service.{Service}
use Rattle.state.specs.State.{port_of, with_controller}
use Rattle.events.specs.declared.Event.{Event}
use Rattle.events.specs.declared.Event.TheVariants.{Key}
use Rattle.events.specs.Tags.{tag_of}
use Rattle.events.specs.declared.Outcome.{Outcome}
use Rattle.events.specs.Outcomes.{answered_of}
use Rattle.events.specs.Step.{step_of}
use Rattle.events.specs.Frames.{on_frame, frame_step_of}
use Rattle.events.specs.Sets.{change_of}
use Rattle.events.specs.Controller.{on_response, port_step_of}
use Rattle.events.specs.Run.{Shown, shown_of}
use Rattle.events.specs.Ports.{is_keyboard, concerns, on_port, outcome_on, ShownBeside, beside_ports}
use Rattle.events.proofs.Ports.{ports_apart, shown_alike, scanner_unshown}
use Rattle.report.specs.Report.{report_from, report_of}
use Rattle.report.specs.Text.{text_of}
use Rattle.report.specs.Reported.{report_length, refusal_in, too_short}
use Rattle.lists.specs.Items.{Item, runs, reports, receives, changes, at_port, PortSeen, Seen, Stepped, port_seen, no_port, status_in, answered, seen_of, step_item, next_item, after_items, seen_items}
use Rattle.lists.specs.Ports.{item_concerns, NoneConcerns, SeenBeside, seen_beside, ListsApart, ScannerUnseen}
use Rattle.lists.proofs.ItemLaws.{short_runs_nothing, long_runs}

-- ---- what is shown of an outcome where another port stands

record Apart (device : Device) (port : Port) (other outcome : Outcome) : Type 0 where
  service : other.service ≡ on_port device port outcome.service
  status : status_in other.service ≡ status_in outcome.service
  beside : beside_ports (shown_of other) ≡ beside_ports (shown_of outcome)
  whole : is_keyboard device ≡ false → shown_of other ≡ shown_of outcome

whole_shown : (device : Device) (port : Port) (outcome : Outcome) → is_keyboard device ≡ false → shown_of (outcome_on device port outcome) ≡ shown_of outcome
whole_shown Keyboard port outcome other = not_both refl other
whole_shown Scanner port outcome other = scanner_unshown port outcome

outcome_apart : (device : Device) (port : Port) (other outcome : Outcome) → other ≡ outcome_on device port outcome → Apart device port other outcome
outcome_apart device port other outcome is =
    record {
      service = ap (λ (o : Outcome). o.service) is;
      status = ap (λ (o : Outcome). status_in o.service) is;
      beside = ap (λ (o : Outcome). beside_ports (shown_of o)) is ∙ shown_alike device port outcome;
      whole = λ scanner. ap shown_of is ∙ whole_shown device port outcome scanner;
    }

event_apart : (device : Device) (port : Port) (service : Service) (event : Event) → concerns device event ≡ false
    → Apart device port (step_of (on_port device port service) event) (step_of service event)
event_apart device port service event other = outcome_apart device port _ _ (ports_apart device port service event other)

-- ---- one item

record StepApart (device : Device) (port : Port) (other stepped : Stepped) : Type 0 where
  service : other.service ≡ on_port device port stepped.service
  beside : seen_beside other.seen ≡ seen_beside stepped.seen
  whole : is_keyboard device ≡ false → other.seen ≡ stepped.seen

abbrev Step : Device → Port → Service → Item → Type 0
Step device port service item = StepApart device port (step_item (on_port device port service) item) (step_item service item)

-- what is seen is made of what is shown and of the status
made_alike : {A B : Type 0} (f : A → ℕ → B) {a b : A} {s t : ℕ} → a ≡ b → s ≡ t → f a s ≡ f b t
made_alike f {b = b} {s = s} shown status = ap (λ x. f x s) shown ∙ ap (f b) status

abbrev beside_answer : PortSeen → ShownBeside → ℕ → SeenBeside
beside_answer at_port_lem shown status = record { shown = shown ∷ []; refusal = refusal_in shown.ans; port = at_port_lem; status = status }

abbrev stepped : Outcome → List Item → PortSeen → Stepped
stepped outcome ran at_port_lem = record { service = outcome.service; ran = ran; seen = seen_of outcome at_port_lem }

answer_apart : {device : Device} {port : Port} {other outcome : Outcome} (ran others : List Item) (at_port_lem : PortSeen) → Apart device port other outcome
    → StepApart device port (stepped other others at_port_lem) (stepped outcome ran at_port_lem)
answer_apart ran others at_port_lem apart =
    record {
      service = apart.service;
      beside = made_alike (beside_answer at_port_lem) apart.beside apart.status;
      whole = λ scanner. made_alike (λ shown. answered shown at_port_lem) (apart.whole scanner) apart.status;
    }

report_apart : (device : Device) (port : Port) (service : Service) (event : Event) (buffer : List ℕ) → concerns device event ≡ false
    → Step device port service (reports event buffer)
unfolding report_of
report_apart device port service event buffer other =
    by_test (λ (_ : ℕ). Step device port service (reports event buffer)) (too_short buffer) 0 0
    (λ test.
    let short = ltb-true _ _ test in
    rw (short_runs_nothing (on_port device port service) event buffer short, short_runs_nothing service event buffer short)
    (record { service = refl; beside = refl; whole = λ _. refl }))
    (λ test.
    let long = ltb-false _ _ test in
    let apart = event_apart device port service event other in
    rw (long_runs (on_port device port service) event buffer long, long_runs service event buffer long)
    (record {
      service = apart.service;
      beside = made_alike (beside_answer no_port) apart.beside apart.status;
      whole = λ scanner. made_alike written (apart.whole scanner) apart.status;
    }))
  where
    written : Shown → ℕ → Seen
    written shown status =
        record {
          shown = shown ∷ [];
          refusal = refusal_in shown.ans;
          buffer = text_of (report_from (tag_of event) shown) ++ drop report_length buffer;
          port = no_port;
          status = status;
        }

frame_apart : (port : Port) (service : Service) (reading : Result ℕ Fault) → Apart Scanner port (on_frame (on_port Scanner port service) reading) (on_frame service reading)
unfolding answered_of
frame_apart port service (Ok byte) = event_apart Scanner port service (Key byte) refl
frame_apart port service (Err fault) = outcome_apart Scanner port _ _ refl

response_apart : (port : Port) (service : Service) (r : Response) → Apart Scanner port (on_response (on_port Scanner port service) r) (on_response service r)
unfolding answered_of
response_apart port service response.Accepted = outcome_apart Scanner port _ _ refl
response_apart port service response.Interrupt = outcome_apart Scanner port _ _ refl
response_apart port service (response.Byte byte) = outcome_apart Scanner port _ _ refl
response_apart port service (response.Key byte) = event_apart Scanner port service (Key byte) refl
response_apart port service (response.Refused refusal) = outcome_apart Scanner port _ _ refl

item_apart : (device : Device) (port : Port) (service : Service) (item : Item) → item_concerns device item ≡ false → Step device port service item
unfolding step_item frame_step_of change_of answered_of port_step_of
item_apart device port service (runs event) other = answer_apart _ _ no_port (event_apart device port service event other)
item_apart device port service (reports event buffer) other = report_apart device port service event buffer other
item_apart Keyboard port service (receives frame) other = not_both refl other
item_apart Scanner port service (receives frame) other = answer_apart _ _ no_port (frame_apart port service (read_frame frame))
item_apart device port service (changes set) other =
    answer_apart _ _ no_port (outcome_apart device port (change_of (on_port device port service) set) (change_of service set) refl)
item_apart Keyboard port service (at_port event) other = not_both refl other
item_apart Scanner port service (at_port event) other =
    let responded = responded_of service.controller event in
    answer_apart _ _ (port_seen responded.response) (response_apart port (with_controller service responded.controller) responded.response)

-- ---- lists

last_apart : (device : Device) (port : Port) (service : Service) (items : List Item) → NoneConcerns device items
    → after_items (on_port device port service) items ≡ on_port device port (after_items service items)
last_apart device port service [] none = refl
last_apart device port service (item ∷ more) none =
    ap (λ (s : Service). after_items s more) (item_apart device port service item none.0).service
    ∙ last_apart device port (next_item service item) more none.1

-- what an item shows by f, the items of a list show
module _ {A : Type 0} (f : Seen → A) (device : Device) (port : Port)
    (one : (service : Service) (item : Item) → item_concerns device item ≡ false → f (step_item (on_port device port service) item).seen ≡ f (step_item service item).seen) where
  each_seen : (service : Service) (items : List Item) → NoneConcerns device items
      → map f (seen_items (on_port device port service) items) ≡ map f (seen_items service items)
  each_seen service [] none = refl
  each_seen service (item ∷ more) none =
      let later = (item_apart device port service item none.0).service in
      ap (λ (s : Service). f (step_item (on_port device port service) item).seen ∷ map f (seen_items s more)) later
      ∙ ap (λ (first : A). first ∷ map f (seen_items (on_port device port (next_item service item)) more)) (one service item none.0)
      ∙ ap (◌∷◌ (f (step_item service item).seen)) (each_seen (next_item service item) more none.1)

-- a port in its own place changes nothing
own : (device : Device) (service : Service) → on_port device (port_of device service.ports) service ≡ service
own Keyboard service = refl
own Scanner service = refl

put_there : (device : Device) (port : Port) (service : Service) → port_of device (on_port device port service).ports ≡ port
put_there Keyboard port service = refl
put_there Scanner port service = refl

pub lists_apart : ListsApart
lists_apart device port service items none =
    let mine = port_of device service.ports in
    let stays = ap (λ (s : Service). after_items s items) (sym (own device service)) ∙ last_apart device mine service items none in
    record {
      left = ap (λ (s : Service). port_of device s.ports) stays ∙ put_there device mine (after_items service items);
      last = last_apart device port service items none;
      seen = each_seen seen_beside device port (λ s item other. (item_apart device port s item other).beside) service items none;
    }

map_id : {A : Type 0} (list : List A) → map (λ (a : A). a) list ≡ list
map_id [] = refl
map_id (a ∷ more) = ap (◌∷◌ a) (map_id more)

pub scanner_unseen : ScannerUnseen
scanner_unseen port service items none =
    sym (map_id _) ∙ each_seen (λ (seen : Seen). seen) Scanner port (λ s item other. (item_apart Scanner port s item other).whole refl) service items none ∙ map_id _
