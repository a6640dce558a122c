-- Demand 3: the two services are equal, so whatever is seen from them is.
-- Assumes nothing.
use Prim.Native.Nat.{ℕ}
use mathlib.Core.Path.{◌≡◌, refl, ap, sym, ◌∙◌}
use mathlib.Core.List.{List, [], ◌∷◌, ◌++◌, map, append_assoc, map-append}
use borrow.Author.Rules.{rules}
use Rattle.frame.specs.Frame.{frame_of}
use Rattle.frame.proofs.OneFrameEach.{one_frame_each}
use Rattle.translation.specs.declared.CodeSet.{CodeSet}
use Rattle.translation.specs.declared.CodeSet.TheVariants.{One, Two}
use Rattle.translation.proofs.Laws.{set_back}
use Rattle.controller.specs.State.{new_controller}
use Rattle.state.specs.declared.Device.{Device}
use Rattle.state.specs.declared.Device.TheVariants.{Keyboard, Scanner}
use Rattle.state.specs.declared.Service.{Service}
use Rattle.state.specs.State.{new_service}
use Rattle.events.specs.declared.Event.{Event}
use Rattle.events.specs.declared.Event.TheVariants.{Key, Empty, Restart}
use Rattle.events.specs.declared.Outcome.{Outcome}
use Rattle.events.specs.Run.{next, after}
use Rattle.events.specs.Resynchronised.{all_up_run, run_at, together, all_up, resynchronisation, set_in, remade}
use Rattle.events.proofs.Lists.{after_append}
use Rattle.events.proofs.Resynchronised.{resynchronises}
use Rattle.events.proofs.Controller.{restart_renews}
use Rattle.events.proofs.SetTwo.{events_keep_set}
use Rattle.lists.specs.Items.{Item, runs, Stepped, step_item, next_item, after_items, ran_items, seen_items, shown_in}
use Rattle.lists.specs.ItemLaws.{receives_byte, AreBytes}
use Rattle.lists.specs.Controller.{bare, typed_items, through_port}
use Rattle.lists.specs.Demand3.{Demand3, Demand3Directly, RunByFrames, RunThroughPort, Demand3OfEvents, Demand3Printed}
use Rattle.lists.proofs.ItemLaws.{accepted_is_key, items_leave, events_as_items, frames_as_keys, after_items_append, ran_items_append}
use Rattle.lists.proofs.Controller.{port_events_feed_keys, through_port_as_keys}
use Rattle.report.proofs.ListLaws.{run_prints}

-- R looks at no controller
restart_alike : (a b : Service) → bare a ≡ bare b → next a Restart ≡ next b Restart
restart_alike a b is =
    sym (ap (λ (o : Outcome). o.service) (restart_renews new_controller a))
    ∙ ap (λ (s : Service). next s Restart) is
    ∙ ap (λ (o : Outcome). o.service) (restart_renews new_controller b)

pub settled_as_new : (turns : List Device) (service : Service) (settling typing : List Item) → ran_items service settling ≡ typing ++ (runs Restart ∷ [])
    → typed_items service typing ≡ map runs (all_up turns (set_in service) ++ (Empty ∷ []))
    → after_items service settling ≡ remade (after_items service settling)
unfolding step_item
settled_as_new turns service settling typing ran typed =
    let run = all_up turns (set_in service) in
    let events = run ++ (Empty ∷ []) in
    let there = after_items service typing in
    let alike : bare there ≡ bare (after service events) =
    (port_events_feed_keys service typing).left
    ∙ ap (λ (items : List Item). bare (after_items service items)) typed
    ∙ ap bare (events_as_items service events).leaves in
    let e : after_items service settling ≡ after service (resynchronisation turns (set_in service)) =
    items_leave service settling
    ∙ ap (after_items service) ran
    ∙ after_items_append service typing (runs Restart ∷ [])
    ∙ restart_alike there (after service events) alike
    ∙ sym (after_append service events (Restart ∷ []))
    ∙ ap (after service) (append_assoc run (Empty ∷ []) (Restart ∷ [])) in
    rw e (resynchronises turns service)

pub demand_3 : Demand3
demand_3 turns set locks most first settling typing further ran typed =
    let start = new_service set locks in
    rw (after_items_append start first settling)
    (ap (λ (s : Service). seen_items s further) (settled_as_new turns (after_items start first) settling typing ran typed))

-- events type themselves
events_type : (service : Service) (events : List Event) → typed_items service (map runs events) ≡ map runs events
unfolding step_item
events_type service [] = refl
events_type service (event ∷ more) = ap (◌∷◌ (runs event)) (events_type (next service event) more)

pub demand_3_directly : Demand3Directly
demand_3_directly turns set locks most first settling further ran =
    let begun = after_items (new_service set locks) first in
    let run = all_up turns (set_in begun) in
    demand_3 turns set locks most first settling (map runs (run ++ (Empty ∷ []))) further
    (ran ∙ ap (map runs) (sym (append_assoc run (Empty ∷ []) (Restart ∷ []))) ∙ map-append runs (run ++ (Empty ∷ [])) (Restart ∷ []))
    (events_type begun (run ++ (Empty ∷ [])))

-- the frames of bytes among events are the K events of these bytes
frames_among : (turns : List Device) (service : Service) (bytes : List ℕ) (events : List Event) → AreBytes bytes
    → ran_items service (together turns (map receives_byte bytes) (map runs events)) ≡ map runs (together turns (map Key bytes) events)
unfolding step_item
frames_among [] service bytes events are =
    ran_items_append service (map receives_byte bytes) (map runs events)
    ∙ rw ((frames_as_keys service bytes are).ran, (events_as_items _ events).ran, map-append)
frames_among (Keyboard ∷ turns) service [] events are = frames_among turns service [] events are
frames_among (Keyboard ∷ turns) service (byte ∷ more) events (small, are) =
    let items = together turns (map receives_byte more) (map runs events) in
    ap (λ (s : Stepped). s.ran ++ ran_items s.service items) (accepted_is_key service (frame_of byte) byte (one_frame_each.read byte small))
    ∙ ap (◌∷◌ (runs (Key byte))) (frames_among turns (next service (Key byte)) more events are)
frames_among (Scanner ∷ turns) service bytes [] are = frames_among turns service bytes [] are
frames_among (Scanner ∷ turns) service bytes (event ∷ more) are = ap (◌∷◌ (runs event)) (frames_among turns (next service event) bytes more are)

run_bytes : (set : CodeSet) → AreBytes (all_up_run set)
run_bytes One = search rules
run_bytes Two = search rules

pub run_by_frames : RunByFrames
run_by_frames turns service set =
    let both = together turns (map receives_byte (all_up_run set)) (map runs (run_at Scanner set)) in
    ran_items_append service both (map runs (Empty ∷ Restart ∷ []))
    ∙ rw (frames_among turns service (all_up_run set) (run_at Scanner set) (run_bytes set), (events_as_items _ (Empty ∷ Restart ∷ [])).ran, map-append)

typed_append : (service : Service) (xs ys : List Item) → typed_items service (xs ++ ys) ≡ typed_items service xs ++ typed_items (after_items service xs) ys
typed_append service [] ys = refl
typed_append service (x ∷ xs) ys = rw (typed_append (next_item service x) xs ys, append_assoc)

pub run_through_port : RunThroughPort
run_through_port service set empty enabled =
    let keys = through_port (all_up_run set) in
    let others = run_at Scanner set ++ (Empty ∷ []) in
    let through = through_port_as_keys service (all_up_run set) empty enabled in
    record {
      ran =
          ran_items_append service (keys ++ map runs others) (runs Restart ∷ [])
          ∙ rw (ran_items_append service keys (map runs others), through.ran, (events_as_items _ others).ran, (events_as_items _ (Restart ∷ [])).ran);
      typed =
          typed_append service keys (map runs others)
          ∙ rw (through.typed, events_type _ others, ← map-append, append_assoc);
    }

-- where every item runs its event
set_after : (service : Service) (events : List Event) → set_in (after service events) ≡ set_in service
set_after service [] = refl
set_after service (event ∷ more) = set_after (next service event) more ∙ events_keep_set service event

set_new : (set : CodeSet) (locks : ℕ) → set_in (new_service set locks) ≡ set
unfolding new_service
set_new set locks = set_back set

pub demand_3_of_events : Demand3OfEvents
demand_3_of_events turns set locks most first further =
    let start = new_service set locks in
    let begun = after_items start (map runs first) in
    let in_force : set_in begun ≡ set = ap set_in (events_as_items start first).leaves ∙ set_after start first ∙ set_new set locks in
    let events = resynchronisation turns set in
    let settled : after_items start (map runs first ++ map runs events) ≡ after start (first ++ events) =
    after_items_append start (map runs first) (map runs events)
    ∙ (events_as_items begun events).leaves
    ∙ ap (λ (s : Service). after s events) (events_as_items start first).leaves
    ∙ sym (after_append start first events) in
    let ran : ran_items begun (map runs events) ≡ map runs (resynchronisation turns (set_in begun)) =
    (events_as_items begun events).ran ∙ ap (λ (s : CodeSet). map runs (resynchronisation turns s)) (sym in_force) in
    let seen =
    demand_3_directly turns set locks most (map runs first) (map runs events) (map runs further) ran in
    let alike = rw settled at (ap shown_in seen) in
    sym (events_as_items _ further).shows ∙ alike ∙ (events_as_items _ further).shows

pub demand_3_printed : Demand3Printed
demand_3_printed turns set locks most first further = run_prints _ _ further (demand_3_of_events turns set locks most first further)
