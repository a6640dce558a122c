-- The laws that EventLaws.antt of specs/ states: nothing but events, changes of set and port events runs. A change of set leaves line and queue, and a
-- port event does what the key does that it feeds, so what is proved of events carries over.
-- Assumes nothing.
use Rattle.std.specs.Prelude.{Result, Ok, Err}
use Rattle.frame.specs.declared.Fault.{Fault}
use Prim.Native.Nat.{ℕ, ◌+◌, ◌≤◌}
use mathlib.Core.Path.{◌≡◌, refl, ap, sym, ◌∙◌}
use mathlib.Core.List.{List, [], ◌∷◌, ◌++◌, map}
use Rattle.bits.specs.Choice.{when◌then◌else◌}
use Rattle.frame.specs.Frame.{read_frame}
use Rattle.queue.specs.Words.{Whole}
use Rattle.queue.proofs.Laws.{at_most_capacity}
use Rattle.line.specs.State.{new_line, sent_in, sent_of}
use Rattle.line.specs.Laws.{Within}
use Rattle.translation.specs.declared.CodeSet.{CodeSet}
use Rattle.controller.specs.declared.PortEvent.{PortEvent}
use Rattle.state.specs.declared.Service.{Service}
use Rattle.state.specs.State.{new_service, with_controller}
use Rattle.state.specs.Ranges.{InRange}
use Rattle.events.specs.declared.Event.{Event}
use Rattle.events.specs.declared.Event.TheVariants.{Key, Call}
use Rattle.events.specs.declared.Outcome.{Outcome}
use Rattle.events.specs.Outcomes.{answered_of}
use Rattle.events.specs.Functions.{call_of}
use Rattle.events.specs.Step.{step_of}
use Rattle.events.specs.Frames.{on_frame, frame_step_of}
use Rattle.events.specs.Sets.{change_of}
use Rattle.events.specs.Controller.{port_step_of}
use Rattle.events.specs.Run.{Shown, shown_of, next}
use Rattle.events.specs.Sent.{bytes_shown, count_at, carried_on}
use Rattle.events.proofs.SentCounts.{step_counted, counted_on, port_right, within_new}
use Rattle.events.proofs.QueueListed.{listed, whole_next, whole_new}
use Rattle.events.proofs.Controller.{by_response}
use Rattle.events.proofs.Ranges.{stays_in_range}
use Rattle.report.specs.Report.{report_of}
use Rattle.lists.specs.Items.{Item, Stepped, where_ran, step_item, next_item, after_items, ran_items, seen_items, shown_in}
use Rattle.lists.specs.EventLaws.{Ran, event, change, ported, as_item, ran_in, ran_of, NothingElseRan, ItemsAsEvents, counts_over, SentOverItems, QueueOverItems, ItemsStayInRange}
use Rattle.lists.proofs.ItemLaws.{by_item, items_leave, items_show, events_as_items, event_shown, port_shown_lem}

-- ---- what ran

abbrev Plain : List Item → Type 0
Plain ran = ran ≡ map as_item (ran_in ran)

plain_append : (xs ys : List Ran) → Plain (map as_item xs ++ map as_item ys)
plain_append [] [] = refl
plain_append [] (event e ∷ ys) = ap (◌∷◌ (as_item (event e))) (plain_append [] ys)
plain_append [] (change set ∷ ys) = ap (◌∷◌ (as_item (change set))) (plain_append [] ys)
plain_append [] (ported e ∷ ys) = ap (◌∷◌ (as_item (ported e))) (plain_append [] ys)
plain_append (event e ∷ xs) ys = ap (◌∷◌ (as_item (event e))) (plain_append xs ys)
plain_append (change set ∷ xs) ys = ap (◌∷◌ (as_item (change set))) (plain_append xs ys)
plain_append (ported e ∷ xs) ys = ap (◌∷◌ (as_item (ported e))) (plain_append xs ys)

item_plain : (service : Service) (item : Item) → Plain (step_item service item).ran
unfolding step_item
item_plain service =
    by_item (λ (stepped : Stepped). Plain stepped.ran) service (λ e. refl) (λ buffer. refl) (λ e buffer. refl) (λ number _. refl) (λ set. refl)
    (λ e _. refl)

pub nothing_else_ran : NothingElseRan
nothing_else_ran service [] = refl
nothing_else_ran service (item ∷ more) =
    let ran = (step_item service item).ran in
    let later = ran_items (next_item service item) more in
    rw (item_plain service item, nothing_else_ran (next_item service item) more) (plain_append (ran_in ran) (ran_in later))

pub items_as_events : ItemsAsEvents
items_as_events service items events ran =
    let alike = events_as_items service events in
    record {
      leaves = items_leave service items ∙ ap (after_items service) ran ∙ alike.leaves;
      shows = items_show service items ∙ ap (λ (done : List Item). shown_in (seen_items service done)) ran ∙ alike.shows;
    }

-- ---- what carries over

-- what events, changes of set and port events keep, every item keeps
module _ (P : Service → Type 0)
    (by_event : (service : Service) (e : Event) → P service → P (next service e))
    (by_change : (service : Service) (set : CodeSet) → P service → P (change_of service set).service)
    (by_port_event : (service : Service) (e : PortEvent) → P service → P (port_step_of service e).outcome.service) where
  pub step_kept : (service : Service) (item : Item) → P service → P (next_item service item)
  unfolding step_item
  step_kept service item h =
      by_item (λ (stepped : Stepped). P stepped.service) service
      (λ e. by_event service e h) (λ buffer. h) (λ e buffer. by_event service e h) (λ number _. h) (λ set. by_change service set h)
      (λ e _. by_port_event service e h) item

  pub kept : (service : Service) (items : List Item) → P service → P (after_items service items)
  kept service [] h = h
  kept service (item ∷ more) h = kept (next_item service item) more (step_kept service item h)

within_after : (service : Service) (items : List Item) → Within service.line → Within (after_items service items).line
unfolding change_of answered_of
within_after = kept (λ (s : Service). Within s.line) (λ service e w. (step_counted service e w).within) (λ service set w. w)
    (λ service e w. (port_right service e w).within)

port_keeps_whole : (service : Service) (e : PortEvent) → Whole service.queue → Whole (port_step_of service e).outcome.service.queue
unfolding answered_of
port_keeps_whole service e w =
    by_response (λ (o : Outcome). Whole o.service.queue) service e (λ _. w) (λ controller byte. whole_next (with_controller service controller) (Key byte) w)
    (λ _ _. w)

whole_after : (service : Service) (items : List Item) → Whole service.queue → Whole (after_items service items).queue
unfolding change_of answered_of
whole_after = kept (λ (s : Service). Whole s.queue) whole_next (λ service set w. w) port_keeps_whole

-- ---- sent

-- a refused frame shows the count that a refused call shows
frame_at_most_six : (service : Service) (reading : Result ℕ Fault) → ((e : Event) → (step_of service e).sent ≤ 6) → (on_frame service reading).sent ≤ 6
unfolding step_of call_of answered_of when◌then◌else◌
frame_at_most_six service (Ok byte) six = six (Key byte)
frame_at_most_six service (Err fault) six = six (Call 0xFF 0 0)

abbrev sent_by : List Shown → List ℕ
sent_by shown = map (λ (s : Shown). s.sent) shown

-- what is shown as sent from a service on is what is counted
abbrev Counts : Service → List Item → Type 0
Counts service items =
    (earlier : ℕ) → Within service.line → sent_of service.line ≡ earlier →
    sent_by (shown_in (seen_items service items)) ≡ counts_over service earlier (ran_of service items)

module _ (service : Service) (earlier : ℕ) (more : List Item) (w : Within service.line) (e : sent_of service.line ≡ earlier) where
  -- the same one item earlier
  abbrev CountsAt : Stepped → Type 0
  CountsAt stepped =
      Counts stepped.service more →
      sent_by (where_ran stepped.seen.refusal stepped.seen.shown ++ shown_in (seen_items stepped.service more))
      ≡ counts_over service earlier (ran_in (stepped.ran ++ ran_items stepped.service more))

  event_counts : (one : Event) → Counts (next service one) more →
      sent_by (shown_of (step_of service one) ∷ shown_in (seen_items (next service one) more))
      ≡ counts_over service earlier (event one ∷ ran_of (next service one) more)
  event_counts one later =
      let step = counted_on service earlier one w e in
      let count = count_at earlier one (shown_of (step_of service one)) in
      ap (λ (n : ℕ). n ∷ sent_by (shown_in (seen_items (next service one) more))) step.count ∙ ap (◌∷◌ count) (later _ step.within step.later)

  port_counts : (one : PortEvent) → let left = (port_step_of service one).outcome in
      Counts left.service more →
      sent_by (shown_of left ∷ shown_in (seen_items left.service more)) ≡ counts_over service earlier (ported one ∷ ran_of left.service more)
  port_counts one later =
      let left = (port_step_of service one).outcome in
      let step = port_right service one w in
      let now : left.sent ≡ earlier + bytes_shown (shown_of left) = step.sent ∙ ap (λ (n : ℕ). n + bytes_shown (shown_of left)) e in
      ap (λ (n : ℕ). n ∷ sent_by (shown_in (seen_items left.service more))) now
      ∙ ap (◌∷◌ (earlier + bytes_shown (shown_of left))) (later _ step.within (sym step.carried ∙ ap (carried_on left.service.line.phase) now))

  item_counts : (item : Item) → CountsAt (step_item service item)
  unfolding step_item change_of answered_of when◌then◌else◌ report_of
  item_counts =
      by_item CountsAt service
      (λ one later. rw (event_shown service one) (event_counts one later))
      (λ buffer later. later earlier w e)
      (λ one buffer later. rw (event_shown service one) (event_counts one later))
      (λ number above later. simp above (later earlier w e))
      (λ set later. rw e (ap (◌∷◌ earlier) (later earlier w e)))
      (λ one accepted later. rw (port_shown_lem service one accepted) (port_counts one later))

counted : (service : Service) (items : List Item) → Counts service items
counted service [] earlier w e = refl
counted service (item ∷ more) earlier w e = item_counts service earlier more w e item (counted (next_item service item) more)

idle_count : (set : CodeSet) (locks : ℕ) → sent_of (new_service set locks).line ≡ 0
unfolding new_service new_line sent_of sent_in
idle_count set locks = refl

pub sent_over_items : SentOverItems
unfolding frame_step_of
sent_over_items = record {
  counted = λ set locks items. counted (new_service set locks) items 0 (within_new set locks) (idle_count set locks);
  event = λ set locks items e. at_most_six set locks items e;
  frame = λ set locks items frame. frame_at_most_six (after_items (new_service set locks) items) (read_frame frame) (at_most_six set locks items);
  port = λ set locks items e. (port_right (after_items (new_service set locks) items) e (sends set locks items)).most;
  sends = sends;
}
  where
    sends : (set : CodeSet) (locks : ℕ) (items : List Item) → Within (after_items (new_service set locks) items).line
    sends set locks items = within_after (new_service set locks) items (within_new set locks)

    at_most_six : (set : CodeSet) (locks : ℕ) (items : List Item) (e : Event) → (step_of (after_items (new_service set locks) items) e).sent ≤ 6
    at_most_six set locks items e = (step_counted (after_items (new_service set locks) items) e (sends set locks items)).most

-- ---- queue and ranges

pub queue_over_items : QueueOverItems
queue_over_items = record {
  listed = λ set locks items e. listed (after_items (new_service set locks) items) e (whole_after (new_service set locks) items (whole_new set locks));
  most = λ set locks items. at_most_capacity (after_items (new_service set locks) items).queue;
}

pub items_stay_in_range : ItemsStayInRange
items_stay_in_range = kept InRange stays_in_range.event stays_in_range.change stays_in_range.port
