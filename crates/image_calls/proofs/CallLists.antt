-- Images follow their services over lists of calls, so that demand 3 and the counts of sends hold of images.
-- Assumes nothing.
use Rattle.std.specs.Prelude.{Result, Ok, Err}
use Prim.Native.Nat.{ℕ, ◌≤◌}
use native.Mathlib.Omega.{arith}
use mathlib.Core.Path.{◌≡◌, refl, ap, sym, ◌∙◌}
use mathlib.Core.List.{List, [], ◌∷◌, ◌++◌, map}
use lib.Dec.{eqb}
use borrow.Author.Tests.{eqb-true, le-ltb}
use Rattle.bits.specs.Choice.{when◌then◌else◌}
use Rattle.bits.proofs.Choice.{by_test, either}
use Rattle.bits.proofs.Bytes.{byte_most}
use Rattle.frame.specs.declared.Fault.{Fault}
use Rattle.frame.specs.declared.Fault.TheVariants.{Start, Parity, Stop}
use Rattle.frame.specs.Frame.{read_frame, fault_number}
use Rattle.translation.specs.declared.CodeSet.{CodeSet}
use Rattle.controller.specs.declared.PortEvent.{PortEvent}
use Rattle.controller.specs.PortEvents.{interrupt_in, is_key_in}
use Rattle.state.specs.declared.Service.{Service}
use Rattle.state.specs.State.{new_service, make_of}
use Rattle.state.specs.Flags.{byte17_of}
use Rattle.events.specs.declared.Event.{Event}
use Rattle.events.specs.declared.Event.TheVariants.{Key}
use Rattle.events.specs.declared.Outcome.{Outcome}
use Rattle.events.specs.Outcomes.{answered_of}
use Rattle.events.specs.Step.{step_of}
use Rattle.events.specs.Sets.{change_of}
use Rattle.events.specs.Controller.{port_step_of}
use Rattle.events.specs.Run.{Shown, shown_of, next}
use Rattle.events.specs.Resynchronised.{set_in, standing_locks, remade}
use Rattle.events.proofs.RefusedCalls.{refused_step_lem}
use Rattle.events.proofs.Controller.{refused_port}
use Rattle.events.proofs.Ranges.{stays_in_range}
use Rattle.report.specs.Report.{report_of}
use Rattle.report.specs.Reported.{Reported, too_short, reported_of}
use Rattle.lists.specs.Items.{Item, runs, reports, receives, changes, at_port, Seen, Stepped, no_port, status_in, answered, step_item, after_items, seen_items, shown_in}
use Rattle.lists.specs.ItemLaws.{turned_away}
use Rattle.lists.proofs.ItemLaws.{accepted_is_key, refused_runs_nothing}
use Rattle.lists.proofs.EventLaws.{sent_over_items}
use Rattle.lists.proofs.Demand3.{demand_3}
use Rattle.image.specs.declared.Image.{Image}
use Rattle.image.specs.Image.{image_of, service_of}
use Rattle.image.proofs.ImageLaws.{flag_back, reads_in_range, comes_back}
use Rattle.image_calls.specs.declared.Changed.{Changed}
use Rattle.image_calls.specs.declared.Refused.{Refused}
use Rattle.image_calls.specs.Exports.{shown_to_c, step_in, refused_in, framed_in, tried_in, make_to, change_to}
use Rattle.image_calls.specs.PortCalls.{port_to}
use Rattle.image_calls.specs.CallLists.{Called, status_at, answered_by, call_on, after_calls, seen_calls, Follows, ImagesFollow, made, ImagesForget, ImagesCount}
use Rattle.image_calls.proofs.Events.{outcome_shows, step_shows, tried_by}
use Rattle.image_calls.proofs.ExportLaws.{tags_recognised}

-- ---- one call

next_back : (image : Image) (event : Event) → service_of (image_of (next (service_of image) event)) ≡ next (service_of image) event
next_back image event = comes_back _ (stays_in_range.event (service_of image) event (reads_in_range image))

step_leaves : (image : Image) (event : Event) → service_of (step_in image event).image ≡ next (service_of image) event
unfolding step_in shown_to_c
step_leaves image event =
    by_test (λ (changed : Changed). service_of changed.image ≡ next (service_of image) event) _ _ _
    (λ refused. sym (refused_step_lem (service_of image) event refused)) (λ _. next_back image event)

-- a refused report leaves the image, any other the image of the service that it leaves
untouched : (image : Image) → service_of (tried_in image 9 (service_of image)).image ≡ service_of image
unfolding tried_in when◌then◌else◌
untouched image = refl

report_leaves : (image : Image) (event : Event) (buffer : List ℕ)
    → let told = reported_of (service_of image) event buffer in service_of (tried_in image told.refusal told.service).image ≡ told.service
unfolding reported_of report_of step_in
report_leaves image event buffer =
    let outcome : Outcome = step_of (service_of image) event in
    either (λ (told : Reported). service_of (tried_in image told.refusal told.service).image ≡ told.service) (too_short buffer) _ _
    (untouched image)
    (ap (λ (refused : Refused). service_of refused.image) (sym (tried_by image outcome.service outcome.sent outcome.answer)) ∙ step_leaves image event)

report_refuses : (image : Image) (refusal : ℕ) (after : Service) → (tried_in image refusal after).refusal ≡ refusal
unfolding tried_in
report_refuses image refusal after =
    by_test (λ (tried : Refused). tried.refusal ≡ refusal) (eqb refusal 0) _ _ (λ none. sym (eqb-true refusal 0 none)) (λ _. refl)

-- a call does what its item does
record Alike (stepped : Stepped) (called : Called) : Type 0 where
  leaves : service_of called.image ≡ stepped.service
  shows : called.seen ≡ stepped.seen

event_alike : (image : Image) (event : Event) → Alike (step_item (service_of image) (runs event)) (answered_by (step_in image event))
unfolding step_item
event_alike image event =
    let leaves = step_leaves image event in
    record {
      leaves = leaves;
      shows =
          ap (λ (shown : Shown). answered shown no_port (status_at (step_in image event).image)) (step_shows image event)
          ∙ ap (λ (s : Service). answered (shown_of (step_of (service_of image) event)) no_port (status_in s)) leaves;
    }

refused_alike : (image : Image) (fault : Fault) → Alike (turned_away (service_of image) (fault_number fault)) (answered_by (refused_in image (fault_number fault)))
unfolding refused_in
refused_alike image Start = record { leaves = refl; shows = refl }
refused_alike image Parity = record { leaves = refl; shows = refl }
refused_alike image Stop = record { leaves = refl; shows = refl }

frame_alike : (image : Image) (frame : ℕ) (read : Result ℕ Fault) → read_frame frame ≡ read
    → Alike (step_item (service_of image) (receives frame)) (answered_by (framed_in image read))
frame_alike image frame (Ok byte) is = rw (accepted_is_key (service_of image) frame byte is) (event_alike image (Key byte))
frame_alike image frame (Err fault) is = rw (refused_runs_nothing (service_of image) frame fault is) (refused_alike image fault)

change_alike : (image : Image) (set : CodeSet) → Alike (step_item (service_of image) (changes set)) (answered_by (change_to set image))
unfolding step_item change_of answered_of shown_to_c when◌then◌else◌
change_alike image set =
    let leaves = comes_back _ (stays_in_range.change (service_of image) set (reads_in_range image)) in
    record { leaves = leaves; shows = ap (λ (s : Service). answered (shown_of (change_of (service_of image) set)) no_port (status_in s)) leaves }

port_leaves : (image : Image) (event : PortEvent) → service_of (port_to image event).image ≡ (port_step_of (service_of image) event).outcome.service
unfolding port_to shown_to_c
port_leaves image event =
    let left = (port_step_of (service_of image) event).outcome.service in
    by_test (λ (changed : Changed). service_of changed.image ≡ left) _ _ _
    (λ refused. sym (refused_port (service_of image) event refused))
    (λ _. comes_back left (stays_in_range.port (service_of image) event (reads_in_range image)))

port_alike : (image : Image) (event : PortEvent) → Alike (step_item (service_of image) (at_port event)) (call_on image (at_port event))
unfolding step_item port_to
port_alike image event =
    let step = port_step_of (service_of image) event in
    record {
      leaves = port_leaves image event;
      shows = rw (outcome_shows image step.outcome, flag_back (interrupt_in step.response), flag_back (is_key_in step.response));
    }

alike : (image : Image) (item : Item) → Alike (step_item (service_of image) item) (call_on image item)
unfolding step_item
alike image (runs event) = rw (tags_recognised event) (event_alike image event)
alike image (reports event buffer) =
    let told = reported_of (service_of image) event buffer in
    let leaves = report_leaves image event buffer in
    rw (tags_recognised event)
    (record { leaves = leaves; shows = rw (report_refuses image told.refusal told.service, step_shows image event, leaves) })
alike image (receives frame) = frame_alike image frame (read_frame frame) refl
alike image (changes set) = change_alike image set
alike image (at_port event) = port_alike image event

-- ---- lists

pub images_follow : ImagesFollow
images_follow image [] = record { shown = refl; last = refl }
images_follow image (item ∷ more) =
    let called = call_on image item in
    let one = alike image item in
    let later : Follows called.image more = images_follow called.image more in
    record {
      shown =
          ap (λ (first : Seen). first ∷ seen_calls called.image more) one.shows
          ∙ ap (λ (rest : List Seen). (step_item (service_of image) item).seen ∷ rest) (later.shown ∙ ap (λ (s : Service). seen_items s more) one.leaves);
      last = later.last ∙ ap (λ (s : Service). after_items s more) one.leaves;
    }

-- ---- from xiquepazo_make on

made_image : (set : CodeSet) (image : Image) (locks : ℕ) → locks ≤ 15 → made set image locks ≡ image_of (new_service set locks)
unfolding make_of tried_in when◌then◌else◌
made_image set image locks most =
    let e : make_to set image locks ≡ record { image = image_of (new_service set locks); refusal = 0 } = simp (le-ltb _ _ most) in
    ap (λ (refused : Refused). refused.image) e

new_back : (set : CodeSet) (locks : ℕ) → service_of (image_of (new_service set locks)) ≡ new_service set locks
new_back set locks = comes_back (new_service set locks) (stays_in_range.new set locks)

made_new : (set : CodeSet) (image : Image) (locks : ℕ) → locks ≤ 15 → service_of (made set image locks) ≡ new_service set locks
made_new set image locks most = ap service_of (made_image set image locks most) ∙ new_back set locks

locks_most : (service : Service) → standing_locks service ≤ 15
unfolding byte17_of
locks_most service = let most : byte17_of service ≤ 255 = byte_most _ _ _ _ _ _ _ _ in omega arith

module _ (set : CodeSet) (image : Image) (locks : ℕ) (most : locks ≤ 15) where
  -- the image after calls is one of the service after them
  after_made : (items : List Item) → service_of (after_calls (made set image locks) items) ≡ after_items (new_service set locks) items
  after_made items = (images_follow (made set image locks) items).last ∙ ap (λ (s : Service). after_items s items) (made_new set image locks most)

  seen_made : (items : List Item) → seen_calls (made set image locks) items ≡ seen_items (new_service set locks) items
  seen_made items = (images_follow (made set image locks) items).shown ∙ ap (λ (s : Service). seen_items s items) (made_new set image locks most)

pub images_forget : ImagesForget
images_forget turns image other set locks most first settling typing further ran typed =
    let settled = after_calls (made set image locks) (first ++ settling) in
    let service = after_items (new_service set locks) (first ++ settling) in
    let is : service_of settled ≡ service = after_made set image locks most (first ++ settling) in
    let alike : seen_items service further ≡ seen_items (remade service) further =
    demand_3 turns set locks most first settling typing further
    (rw (after_made set image locks most first) at ran) (rw (after_made set image locks most first) at typed) in
    (images_follow settled further).shown
    ∙ ap (λ (s : Service). seen_items s further) is
    ∙ alike
    ∙ ap (λ (s : Service). seen_items (remade s) further) (sym is)
    ∙ sym (seen_made (set_in (service_of settled)) other (standing_locks (service_of settled)) (locks_most (service_of settled)) further)

pub images_count : ImagesCount
images_count image set locks most items =
    ap (λ (seen : List Seen). map (λ (s : Shown). s.sent) (shown_in seen)) (seen_made set image locks most items)
    ∙ sent_over_items.counted set locks items
