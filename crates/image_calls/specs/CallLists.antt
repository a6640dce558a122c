-- Lists of calls on an image that C keeps, events, reported events, frames, changes of set and port events in any order. CallLists.antt of proofs/ proves each sentence.
-- Assumes nothing.
use Rattle.std.specs.Prelude.{ℕ, ◌/◌, ◌≤◌, ◌≡◌, List, [], ◌∷◌, ◌++◌, map}
use Rattle.translation.specs.declared.CodeSet.{CodeSet}
use Rattle.state.specs.declared.Device.{Device}
use Rattle.state.specs.State.{new_service}
use Rattle.events.specs.Run.{Shown}
use Rattle.events.specs.declared.Event.TheVariants.{Empty, Restart}
use Rattle.events.specs.Resynchronised.{all_up, set_in}
use Rattle.lists.specs.Items.{Item, runs, reports, receives, changes, at_port, PortSeen, Seen, no_port, status_in, answered, where_ran, after_items, ran_items, seen_items, shown_in}
use Rattle.lists.specs.Controller.{typed_items}
use Rattle.lists.specs.EventLaws.{ran_of, counts_over}
use Rattle.image.specs.declared.Image.{Image}
use Rattle.image.specs.ImageLine.{is_set}
use Rattle.image.specs.Image.{service_of}
use Rattle.image_calls.specs.declared.Changed.{Changed}
use Rattle.image_calls.specs.declared.PortShown.{PortShown}
use Rattle.image_calls.specs.Exports.{seen, written, event_to, frame_to, make_to, change_to, report_to, written_to, flags_to}
use Rattle.image_calls.specs.PortCalls.{port_to}

-- an item of a list as the call for C that it is: what the image is after it, and what is seen
pub record Called : Type 0 where
  pub image : Image
  pub seen : Seen

-- the status that a read of 64 would give
abbrev pub status_at : Image → ℕ
status_at image = status_in (service_of image)

abbrev pub answered_by : Changed → Called
answered_by changed = record { image = changed.image; seen = answered (seen changed.shown) no_port (status_at changed.image) }

abbrev pub seen_at_port : PortShown → PortSeen
seen_at_port shown = record { byte = shown.byte; interrupt = is_set shown.interrupt; fed = is_set shown.fed }

abbrev pub call_on : Image → Item → Called
call_on image (runs event) = answered_by (event_to image (written event))
call_on image (reports event buffer) =
    let told = report_to image (written event) buffer in
    record {
      image = told.image;
      seen =
          record {
            shown = where_ran told.refusal (seen (event_to image (written event)).shown ∷ []);
            refusal = told.refusal;
            buffer = written_to image (written event) buffer;
            port = no_port;
            status = status_at told.image;
          };
    }
call_on image (receives frame) = answered_by (frame_to image frame)
call_on image (changes set) = answered_by (change_to set image)
call_on image (at_port event) =
    let called = port_to image event in
    record { image = called.image; seen = answered (seen called.shown.shown) (seen_at_port called.shown) called.shown.status }

abbrev pub after_calls : Image → List Item → Image
after_calls image [] = image
after_calls image (item ∷ more) = after_calls (call_on image item).image more

abbrev pub seen_calls : Image → List Item → List Seen
seen_calls image [] = []
seen_calls image (item ∷ more) = (call_on image item).seen ∷ seen_calls (call_on image item).image more

-- they show and leave what the list shows and leaves on the service that the image means: what is proved of services over lists holds
-- of images
pub record Follows (image : Image) (items : List Item) : Type 0 where
  pub shown : seen_calls image items ≡ seen_items (service_of image) items
  pub last : service_of (after_calls image items) ≡ after_items (service_of image) items

abbrev pub ImagesFollow : Type 0
ImagesFollow = (image : Image) (items : List Item) → Follows image items

-- an image made anew, on set 1 by xiquepazo_make and on set 2 by xiquepazo_make_set_2, whatever it was before
abbrev pub made : CodeSet → Image → ℕ → Image
made set image locks = (make_to set image locks).image

-- the set in force
abbrev pub set_to : Image → CodeSet
set_to image = set_in (service_of image)

-- Demand 3 of images: any calls, the all-up run at both ports in any turns, E and R, and any further calls, with bytes as events, as frames or through
-- port 60, port events anywhere up to R, and refused reports and frames anywhere; the further calls are seen as on an image made on that set with the
-- lock bits that stand
abbrev pub ImagesForget : Type 0
ImagesForget =
    (turns : List Device) (image other : Image) (set : CodeSet) (locks : ℕ) → locks ≤ 15 → (first settling typing further : List Item) →
    let begun = after_calls (made set image locks) first in
    ran_items (service_of begun) settling ≡ typing ++ (runs Restart ∷ []) →
    typed_items (service_of begun) typing ≡ map runs (all_up turns (set_to begun) ++ (Empty ∷ [])) →
    let settled = after_calls (made set image locks) (first ++ settling) in
    seen_calls settled further ≡ seen_calls (made (set_to settled) other ((flags_to settled).byte17 / 16)) further

-- sent counts the bytes that the events that ran show as sent
abbrev pub ImagesCount : Type 0
ImagesCount =
    (image : Image) (set : CodeSet) (locks : ℕ) → locks ≤ 15 → (items : List Item) →
    let new = new_service set locks in
    map (λ (s : Shown). s.sent) (shown_in (seen_calls (made set image locks) items)) ≡ counts_over new 0 (ran_of new items)
