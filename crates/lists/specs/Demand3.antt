-- Demand 3, one claim about whole lists.
-- Assumes nothing.
use Rattle.std.specs.Prelude.{ℕ, ◌≤◌, ◌≡◌, false, List, [], ◌∷◌, ◌++◌, map}
use Rattle.bits.specs.Bits.{bit4}
use Rattle.translation.specs.declared.CodeSet.{CodeSet}
use Rattle.controller.specs.State.{is_full}
use Rattle.state.specs.declared.Device.{Device}
use Rattle.state.specs.declared.Device.TheVariants.{Scanner}
use Rattle.state.specs.declared.Service.{Service}
use Rattle.events.specs.declared.Event.{Event}
use Rattle.events.specs.declared.Event.TheVariants.{Empty, Restart}
use Rattle.state.specs.State.{new_service}
use Rattle.events.specs.Run.{run, after}
use Rattle.events.specs.Resynchronised.{all_up_run, run_at, together, all_up, resynchronisation, set_in, remade}
use Rattle.report.specs.Reported.{texts_of}
use Rattle.lists.specs.Items.{Item, runs, after_items, ran_items, seen_items}
use Rattle.lists.specs.ItemLaws.{receives_byte}
use Rattle.lists.specs.Controller.{typed_items, through_port}

-- The first list is any, from a service newly made on either set with any lock bits. The last of what ran of the list after it is R; what came before R
-- types the all-up run at both ports, in any turns, the keyboard's in the set then in force, and one E, without a change of set. Then every further
-- list is seen alike, item by item, from the service as it stands and from one newly made on that set with its lock bits: answers, words, flag
-- bytes, bytes sent, reports, bytes read at the ports, interrupts and the status. In all three lists a keyboard byte may come as a K event, as its frame
-- or through port 60; port events may stand anywhere up to R, reports that 9 refuses and frames that 11 to 13 refuse anywhere at all; in the first
-- and the further list the set may be changed.
abbrev pub Demand3 : Type 0
Demand3 =
    (turns : List Device) (set : CodeSet) (locks : ℕ) → locks ≤ 15 → (first settling typing further : List Item) →
    let begun = after_items (new_service set locks) first in
    ran_items begun settling ≡ typing ++ (runs Restart ∷ []) →
    typed_items begun typing ≡ map runs (all_up turns (set_in begun) ++ (Empty ∷ [])) →
    let settled = after_items (new_service set locks) (first ++ settling) in
    seen_items settled further ≡ seen_items (remade settled) further

-- So it is where the run comes as events and frames alone.
abbrev pub Demand3Directly : Type 0
Demand3Directly =
    (turns : List Device) (set : CodeSet) (locks : ℕ) → locks ≤ 15 → (first settling further : List Item) →
    let begun = after_items (new_service set locks) first in
    ran_items begun settling ≡ map runs (resynchronisation turns (set_in begun)) →
    let settled = after_items (new_service set locks) (first ++ settling) in
    seen_items settled further ≡ seen_items (remade settled) further

-- The keyboard's run by frames makes such a list, on every service, for either set and in any turns.
abbrev pub RunByFrames : Type 0
RunByFrames =
    (turns : List Device) (service : Service) (set : CodeSet) →
    ran_items service (together turns (map receives_byte (all_up_run set)) (map runs (run_at Scanner set)) ++ map runs (Empty ∷ Restart ∷ []))
    ≡ map runs (resynchronisation turns set)

-- So does the run through port 60, where the buffer is empty and the keyboard enabled.
pub record Settles (service : Service) (set : CodeSet) (typing : List Item) : Type 0 where
  pub ran : ran_items service (typing ++ (runs Restart ∷ [])) ≡ typing ++ (runs Restart ∷ [])
  pub typed : typed_items service typing ≡ map runs (all_up [] set ++ (Empty ∷ []))

abbrev pub RunThroughPort : Type 0
RunThroughPort =
    (service : Service) (set : CodeSet) → is_full service.controller.buffer ≡ false → bit4 service.controller.command ≡ false →
    Settles service set (through_port (all_up_run set) ++ map runs (run_at Scanner set ++ (Empty ∷ [])))

-- What follows where every item runs its event: no event changes the set.
abbrev pub Demand3OfEvents : Type 0
Demand3OfEvents =
    (turns : List Device) (set : CodeSet) (locks : ℕ) → locks ≤ 15 → (first further : List Event) →
    let settled = after (new_service set locks) (first ++ resynchronisation turns set) in
    run settled further ≡ run (remade settled) further

-- The same in print: the two services' texts agree to the byte.
abbrev pub Demand3Printed : Type 0
Demand3Printed =
    (turns : List Device) (set : CodeSet) (locks : ℕ) → locks ≤ 15 → (first further : List Event) →
    let settled = after (new_service set locks) (first ++ resynchronisation turns set) in
    texts_of settled further ≡ texts_of (remade settled) further
