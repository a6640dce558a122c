-- What is proved of lists of events, over all that a list can hold. EventLaws.antt of proofs/ proves each sentence.
-- Assumes nothing.
use Rattle.std.specs.Prelude.{ℕ, ◌+◌, ◌≤◌, ◌≡◌, List, [], ◌∷◌, map, length}
use Rattle.queue.specs.Queue.{capacity}
use Rattle.queue.specs.Words.{words_of}
use Rattle.line.specs.Laws.{Within}
use Rattle.translation.specs.declared.CodeSet.{CodeSet}
use Rattle.controller.specs.declared.PortEvent.{PortEvent}
use Rattle.state.specs.declared.Service.{Service}
use Rattle.state.specs.State.{new_service}
use Rattle.state.specs.Ranges.{InRange}
use Rattle.events.specs.declared.Event.{Event}
use Rattle.events.specs.Step.{step_of}
use Rattle.events.specs.Frames.{frame_step_of}
use Rattle.events.specs.Sets.{change_of}
use Rattle.events.specs.Controller.{port_step_of}
use Rattle.events.specs.Run.{Shown, shown_of, next, run, after}
use Rattle.events.specs.Sent.{bytes_shown, count_at, carried_on}
use Rattle.events.specs.Queued.{Listed}
use Rattle.lists.specs.Items.{Item, runs, reports, receives, changes, at_port, after_items, ran_items, seen_items, shown_in}

-- what runs: an event, a change of set or a port event, each by the plainest item of that effect
pub data Ran : Type 0 where
  event : Event → Ran
  change : CodeSet → Ran
  ported : PortEvent → Ran

abbrev pub as_item : Ran → Item
as_item (event e) = runs e
as_item (change set) = changes set
as_item (ported e) = at_port e

-- what ran of a list
abbrev pub ran_in : List Item → List Ran
ran_in [] = []
ran_in (runs e ∷ more) = event e ∷ ran_in more
ran_in (reports e buffer ∷ more) = ran_in more
ran_in (receives frame ∷ more) = ran_in more
ran_in (changes set ∷ more) = change set ∷ ran_in more
ran_in (at_port e ∷ more) = ported e ∷ ran_in more

abbrev pub ran_of : Service → List Item → List Ran
ran_of service items = ran_in (ran_items service items)

-- nothing else ran
abbrev pub NothingElseRan : Type 0
NothingElseRan = (service : Service) (items : List Item) → ran_items service items ≡ map as_item (ran_of service items)

-- where no set was changed and no port event ran, a list leaves and shows what its events leave and show: so each law over lists of events is one over such lists
pub record AsRan (service : Service) (items : List Item) (events : List Event) : Type 0 where
  pub leaves : after_items service items ≡ after service events
  pub shows : shown_in (seen_items service items) ≡ run service events

abbrev pub ItemsAsEvents : Type 0
ItemsAsEvents = (service : Service) (items : List Item) (events : List Event) → ran_items service items ≡ map runs events → AsRan service items events

-- the counts of what ran, one after the other: a change of set shows the count as it stands
abbrev pub counts_over : Service → ℕ → List Ran → List ℕ
counts_over service earlier [] = []
counts_over service earlier (event e ∷ more) =
    let count = count_at earlier e (shown_of (step_of service e)) in
    count ∷ counts_over (next service e) (carried_on (next service e).line.phase count) more
counts_over service earlier (change set ∷ more) = earlier ∷ counts_over (change_of service set).service earlier more
counts_over service earlier (ported e ∷ more) =
    let outcome = (port_step_of service e).outcome in
    let count = earlier + bytes_shown (shown_of outcome) in
    count ∷ counts_over outcome.service (carried_on outcome.service.line.phase count) more

-- sent: the count of the bytes shown as sent; at most six at every event, frame and port event, three sends of each byte
pub record SentOverItems : Type 0 where
  pub counted : (set : CodeSet) (locks : ℕ) (items : List Item) →
      let new = new_service set locks in
      map (λ (s : Shown). s.sent) (shown_in (seen_items new items)) ≡ counts_over new 0 (ran_of new items)
  pub event : (set : CodeSet) (locks : ℕ) (items : List Item) (event : Event) → (step_of (after_items (new_service set locks) items) event).sent ≤ 6
  pub frame : (set : CodeSet) (locks : ℕ) (items : List Item) (frame : ℕ) → (frame_step_of (after_items (new_service set locks) items) frame).sent ≤ 6
  pub port : (set : CodeSet) (locks : ℕ) (items : List Item) (event : PortEvent) →
      (port_step_of (after_items (new_service set locks) items) event).outcome.sent ≤ 6
  pub sends : (set : CodeSet) (locks : ℕ) (items : List Item) → Within (after_items (new_service set locks) items).line

-- the queue: every event does to its words what the answer says, and there are at most 15
pub record QueueOverItems : Type 0 where
  pub listed : (set : CodeSet) (locks : ℕ) (items : List Item) (event : Event) → Listed (after_items (new_service set locks) items) event
  pub most : (set : CodeSet) (locks : ℕ) (items : List Item) → length (words_of (after_items (new_service set locks) items).queue) ≤ capacity

-- no item takes a number of the service out of its range
abbrev pub ItemsStayInRange : Type 0
ItemsStayInRange = (service : Service) (items : List Item) → InRange service → InRange (after_items service items)
