-- The law that Laws.antt of specs/ states: what holds at each event, over every list.
-- Assumes nothing.
use Prim.Native.Nat.{ℕ}
use mathlib.Core.Path.{◌≡◌, refl, ap, sym, ◌∙◌, subst}
use mathlib.Core.List.{List, [], ◌∷◌, map}
use Rattle.translation.specs.declared.CodeSet.{CodeSet}
use Rattle.controller.specs.declared.PortEvent.{PortEvent}
use Rattle.controller.specs.declared.Response.{Response}
use Rattle.controller.specs.declared.Response.TheVariants as response
use Rattle.controller.specs.PortEvents.{responded_of}
use Rattle.state.specs.declared.Service.{Service}
use Rattle.state.specs.State.{new_service, with_queue, with_controller}
use Rattle.events.specs.declared.Event.TheVariants.{Key}
use Rattle.events.specs.declared.Outcome.{Outcome}
use Rattle.events.specs.Outcomes.{answered_of}
use Rattle.events.specs.Step.{step_of}
use Rattle.events.specs.Sets.{change_of}
use Rattle.events.specs.Controller.{on_response, port_step_of}
use Rattle.events.specs.Run.{next}
use Rattle.lists.specs.Items.{step_item, after_items}
use Rattle.lists.specs.EventLaws.{Ran, event, change, ported, as_item, ran_of}
use Rattle.lists.proofs.ItemLaws.{items_leave}
use Rattle.lists.proofs.EventLaws.{nothing_else_ran}
use Rattle.former.specs.Former.{former_step_of, former_on_response, former_port_step_of, former_after}
use Rattle.former.specs.Laws.{NoneStores, AsFormerly, OldProgramsSeeNoChange}
use Rattle.former.proofs.Queue.{former_words, former_empty, Settled, settled_empty}
use Rattle.former.proofs.Events.{former_service, stepped}

-- the former service after a list is the present one after it, with the words that an old program knows
record Follows (now former : Service) : Type 0 where
  is : former ≡ former_service now
  settled : Settled now.queue

-- a port event, by the key that it feeds
response_follows : (service : Service) (r : Response) → Settled service.queue → Follows (on_response service r).service (former_on_response (former_service service) r).service
unfolding answered_of
response_follows service response.Accepted s = record { is = refl; settled = s }
response_follows service response.Interrupt s = record { is = refl; settled = s }
response_follows service (response.Byte byte) s = record { is = refl; settled = s }
response_follows service (response.Key byte) s =
    let step = stepped service (Key byte) s refl in record { is = ap (λ (o : Outcome). o.service) step.is; settled = step.settled }
response_follows service (response.Refused refusal) s = record { is = refl; settled = s }

port_follows : (service : Service) (e : PortEvent) → Settled service.queue
    → Follows (port_step_of service e).outcome.service (former_port_step_of (former_service service) e).service
unfolding port_step_of former_port_step_of
port_follows service e s =
    let responded = responded_of service.controller e in response_follows (with_controller service responded.controller) responded.response s

follows : (ran : List Ran) (service : Service) → NoneStores ran → Settled service.queue
    → Follows (after_items service (map as_item ran)) (former_after (former_service service) ran)
unfolding step_item change_of answered_of
follows [] service none s = record { is = refl; settled = s }
follows (event e ∷ more) service none s =
    let step = stepped service e s none.0 in
    subst (λ (o : Outcome). Follows (after_items (next service e) (map as_item more)) (former_after o.service more)) (sym step.is)
    (follows more (next service e) none.1 step.settled)
follows (change set ∷ more) service none s = follows more (change_of service set).service none s
follows (ported e ∷ more) service none s =
    let step = port_follows service e s in
    let left = (port_step_of service e).outcome.service in
    subst (λ (f : Service). Follows (after_items left (map as_item more)) (former_after f more)) (sym step.is) (follows more left none step.settled)

new_follows : (set : CodeSet) (locks : ℕ) → former_service (new_service set locks) ≡ new_service set locks
unfolding new_service
new_follows set locks = ap (with_queue (new_service set locks)) former_empty

settled_new : (set : CodeSet) (locks : ℕ) → Settled (new_service set locks).queue
unfolding new_service
settled_new set locks = settled_empty

pub old_programs_see_no_change : OldProgramsSeeNoChange
old_programs_see_no_change set locks items e none n =
    let new = new_service set locks in
    let ran = ran_of new items in
    let now = after_items new (map as_item ran) in
    let followed = subst (λ (f : Service). Follows now (former_after f ran)) (new_follows set locks) (follows ran new none (settled_new set locks)) in
    rw (items_leave new items ∙ ap (after_items new) (nothing_else_ran new items))
    (subst (λ (f : Service). AsFormerly e (step_of now e) (former_step_of f e)) (sym followed.is)
    (subst (AsFormerly e (step_of now e)) (sym (stepped now e followed.settled n).is)
    (record { answer = refl; sent = refl; beside = refl; words = former_words _ })))
