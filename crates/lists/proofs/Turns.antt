-- The laws that Turns.antt of specs/ states, over lists: each item by what it does for a command that is wanted.
-- Assumes nothing.
use Rattle.std.specs.Prelude.{Some}
use Prim.Native.Nat.{ℕ, ◌+◌, ◌*◌, ◌≤◌}
use native.Mathlib.Omega.{arith}
use mathlib.Core.Bool.{Bool, false, ◌||◌}
use mathlib.Core.Path.{◌≡◌, refl, ap}
use mathlib.Core.List.{List, [], ◌∷◌, ◌++◌}
use lib.Dec.{ltb}
use Rattle.bits.specs.Choice.{when◌then◌else◌}
use Rattle.bits.proofs.Choice.{by_test}
use Rattle.line.specs.declared.Kind.{Kind}
use Rattle.line.specs.declared.Kind.TheVariants.{Rate}
use Rattle.line.specs.declared.Line.{Line}
use Rattle.line.specs.State.{wait_rate_of}
use Rattle.line.specs.Poll.{one_more_of, counted_of, send_of, start_of}
use Rattle.line.specs.Inputs.{Input, poll, restart, wait_rate, line_after}
use Rattle.line.specs.Laws.{Within}
use Rattle.line.specs.Turns.{Wanted, Begun, ahead_of}
use Rattle.line.proofs.Within.{new_within, kept}
use Rattle.line.proofs.Turns.{stays_begun, eleven_ahead}
use Rattle.translation.specs.declared.CodeSet.{CodeSet}
use Rattle.controller.specs.declared.PortEvent.{PortEvent}
use Rattle.state.specs.declared.Service.{Service}
use Rattle.state.specs.State.{new_service}
use Rattle.events.specs.declared.Event.{Event}
use Rattle.events.specs.declared.Event.TheVariants.{Call}
use Rattle.events.specs.declared.Outcome.{Outcome}
use Rattle.events.specs.Commands.{led_value, on_line, poll_of, restart_of}
use Rattle.events.specs.Outcomes.{answered_of}
use Rattle.events.specs.Functions.{set_rate_of, call_of}
use Rattle.events.specs.Step.{step_of}
use Rattle.events.specs.Sets.{change_of}
use Rattle.events.specs.Controller.{port_step_of}
use Rattle.events.specs.Run.{Shown, shown_of, next}
use Rattle.events.proofs.LineInputs.{Beside, nothing, replies, Gives, beside, polls, restarts, accepts, gives, port_gives}
use Rattle.report.specs.Report.{report_of}
use Rattle.report.specs.Reported.{refusal_in}
use Rattle.lists.specs.Items.{Item, runs, Stepped, step_item, next_item, after_items, seen_items, shown_in}
use Rattle.lists.specs.Turns.{bytes_before, AllKeep, BeforeItsTurn, BeforeItsF3, shown_by, Fate, starts, waits, InItsTurn}
use Rattle.lists.proofs.EventLaws.{step_kept, kept as items_kept}
use Rattle.lists.proofs.ItemLaws.{by_item}
use Rattle.lists.proofs.TurnsItem.{before_first, before_others, Step, begins, goes, item_step}

-- ---- 1. lists

-- a line reached from a new one, at which the line's law holds
record Reached (line : Line) : Type 0 where
  within : Within line
  begun : Begun line

reached_on : (line : Line) (input : Input) → Reached line → Reached (line_after line input)
reached_on line input r = record { within = kept line input r.within; begun = stays_begun.input line input r.within r.begun }

beside_reached : (line : Line) (outcome : Outcome) → Reached line → Beside line outcome → Reached outcome.service.line
beside_reached line outcome r (nothing l sent silent) = rw l r
beside_reached line outcome r (replies input reply l sent bytes silent) = rw l (reached_on line input r)

event_reached : (service : Service) (event : Event) (outcome : Outcome) → Reached service.line → Gives service event outcome → Reached outcome.service.line
unfolding poll_of on_line restart_of answered_of
event_reached service event outcome r (beside how) = beside_reached service.line outcome r how
event_reached service event outcome r (polls is e) = rw e (reached_on service.line (poll (led_value service.shared.locks)) r)
event_reached service event outcome r (restarts is e) = rw e (reached_on service.line restart r)
event_reached service event outcome r (accepts delay rate is e) = rw e (reached_on service.line (wait_rate (32 * delay + rate)) r)

module _ where
  abbrev AtLine : Service → Type 0
  AtLine service = Reached service.line

  by_event : (service : Service) (event : Event) → AtLine service → AtLine (next service event)
  by_event service event r = event_reached service event (step_of service event) r (gives service event)

  by_change : (service : Service) (set : CodeSet) → AtLine service → AtLine (change_of service set).service
  unfolding change_of answered_of
  by_change service set r = r

  by_port_event : (service : Service) (event : PortEvent) → AtLine service → AtLine (port_step_of service event).outcome.service
  by_port_event service event r = beside_reached service.line (port_step_of service event).outcome r (port_gives service event)

  item_reached : (service : Service) (item : Item) → AtLine service → AtLine (next_item service item)
  item_reached = step_kept AtLine by_event by_change by_port_event

  reached : (set : CodeSet) (locks : ℕ) (items : List Item) → AtLine (after_items (new_service set locks) items)
  unfolding new_service
  reached set locks items = items_kept AtLine by_event by_change by_port_event (new_service set locks) items (record { within = new_within; begun = stays_begun.new })

bytes_before_lem : (kind : Kind) (operand : ℕ) (service : Service) (items : List Item) → Reached service.line → Wanted kind operand service.line →
    AllKeep kind operand service items → bytes_before kind (shown_in (seen_items service items)) ≤ ahead_of kind service.line
bytes_before_lem kind operand service [] r h k = omega arith
bytes_before_lem kind operand service (item ∷ more) r h (k, ks) =
    split (item_step kind operand service r.within r.begun h item k)
    (λ wanted. bytes_before_lem kind operand (next_item service item) more (item_reached service item r) wanted ks)
  where
    stepped : Stepped
    stepped = step_item service item

    later : List Shown
    later = shown_in (seen_items stepped.service more)

    split : Step kind operand service.line stepped →
        (Wanted kind operand stepped.service.line → bytes_before kind later ≤ ahead_of kind stepped.service.line) →
        bytes_before kind (shown_by stepped ++ later) ≤ ahead_of kind service.line
    split (begins shown s first ran l) most = let none = before_first kind shown later first in rw s (omega arith)
    split (goes wanted none falls) most = omega (arith, most wanted, before_others kind (shown_by stepped) later none)

pub before_its_turn : BeforeItsTurn
before_its_turn kind operand set locks earlier later h k =
    let there = after_items (new_service set locks) earlier in
    let r = reached set locks earlier in
    omega (arith, bytes_before_lem kind operand there later r h k, eleven_ahead kind there.line r.within r.begun)

-- a rate that is accepted waits
module _ (service : Service) (delay rate : ℕ) where
  abbrev SetsRate : Outcome → Type 0
  SetsRate outcome = refusal_in (shown_of outcome).ans ≡ 0 → outcome.service.line.rate ≡ Some (32 * delay + rate)

  set_waits : SetsRate (set_rate_of service delay rate)
  unfolding set_rate_of answered_of wait_rate_of when◌then◌else◌
  set_waits =
      by_test SetsRate (ltb 3 delay) _ _ (λ _ none. let z : ◌≡◌ {A = ℕ} 3 0 = none in absurd (omega arith))
      (λ _. by_test SetsRate (ltb 31 rate) _ _ (λ _ none. let z : ◌≡◌ {A = ℕ} 4 0 = none in absurd (omega arith)) (λ _ _. refl))

  event_waits : (event : Event) → runs event ∷ [] ≡ runs (Call 0x03 delay rate) ∷ [] → SetsRate (step_of service event)
  unfolding step_of call_of when◌then◌else◌
  event_waits event ran = let is : event ≡ Call 0x03 delay rate = cc ran in rw is set_waits

  abbrev Accepted : Stepped → Type 0
  Accepted stepped =
      stepped.ran ≡ runs (Call 0x03 delay rate) ∷ [] → stepped.seen.refusal ≡ 0 → stepped.service.line.rate ≡ Some (32 * delay + rate)

  none_ran : {A : Type 0} → [] ≡ runs (Call 0x03 delay rate) ∷ [] → A
  none_ran ran = let z : ◌≡◌ {A = ℕ} 0 1 = cc ran in absurd (omega arith)

  item_waits : (item : Item) → Accepted (step_item service item)
  unfolding step_item report_of
  item_waits =
      by_item Accepted service
      (λ event ran. event_waits event ran)
      (λ buffer ran _. none_ran ran)
      (λ event buffer ran. event_waits event ran)
      (λ number above ran _. none_ran ran)
      (λ set ran _. let z : ◌≡◌ {A = ℕ} 0 1 = cc ran in absurd (omega arith))
      (λ event accepted ran _. let z : ◌≡◌ {A = ℕ} 0 1 = cc ran in absurd (omega arith))

pub before_its_f3 : BeforeItsF3
before_its_f3 set locks earlier item later a k =
    let there = after_items (new_service set locks) earlier in
    let r = item_reached there item (reached set locks earlier) in
    let line = (step_item there item).service.line in
    omega (arith, bytes_before_lem Rate _ _ later r (item_waits there a.delay a.rate item a.ran a.refusal) k, eleven_ahead Rate line r.within r.begun)

-- ---- 2. its own first byte

fate : (kind : Kind) (operand : ℕ) (line : Line) (stepped : Stepped) → Step kind operand line stepped → Fate kind operand stepped
unfolding start_of send_of counted_of one_more_of when◌then◌else◌
fate kind operand line stepped (begins shown s first ran l) =
    starts ran (rw s (ap (λ (t : Bool). t || false) first)) (ap (λ (later : Line). later.phase) l)
fate kind operand line stepped (goes wanted none falls) = waits wanted none

pub in_its_turn : InItsTurn
in_its_turn kind operand set locks earlier item h k =
    let there = after_items (new_service set locks) earlier in
    let r = reached set locks earlier in
    fate kind operand there.line (step_item there item) (item_step kind operand there r.within r.begun h item k)
