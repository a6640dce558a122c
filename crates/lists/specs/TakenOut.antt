-- Refused items can be taken out of a list: no other is seen otherwise, and the last service is the same. TakenOut.antt of proofs/ proves each
-- sentence.
-- Assumes nothing.
use Rattle.std.specs.Prelude.{◌≡◌, Bool, false, not, List, [], ◌∷◌, ltb}
use Rattle.bits.specs.Choice.{when◌then◌else◌}
use Rattle.frame.specs.Frame.{read_frame}
use Rattle.frame.specs.Laws.{is_accepted}
use Rattle.controller.specs.PortEvents.{is_refused}
use Rattle.state.specs.declared.Service.{Service}
use Rattle.events.specs.Controller.{port_step_of}
use Rattle.lists.specs.Items.{Item, runs, reports, receives, changes, at_port, Seen, step_item, next_item, after_items, seen_items}

-- a test picks items when their turn comes: the list of the others, and what is seen of those in the whole list
abbrev pub others : (Service → Item → Bool) → Service → List Item → List Item
others picked service [] = []
others picked service (item ∷ more) =
    when picked service item then others picked (next_item service item) more else item ∷ others picked (next_item service item) more

abbrev pub seen_of_others : (Service → Item → Bool) → Service → List Item → List Seen
seen_of_others picked service [] = []
seen_of_others picked service (item ∷ more) =
    when picked service item then seen_of_others picked (next_item service item) more
    else (step_item service item).seen ∷ seen_of_others picked (next_item service item) more

pub record TakenOut (picked : Service → Item → Bool) (service : Service) (items : List Item) : Type 0 where
  pub seen : seen_items service (others picked service items) ≡ seen_of_others picked service items
  pub last : after_items service (others picked service items) ≡ after_items service items

-- document 02, W-202: so it is with refused frames, in any list of frames and events
abbrev pub refused_frame : Service → Item → Bool
refused_frame service (runs event) = false
refused_frame service (reports event buffer) = false
refused_frame service (receives frame) = not (is_accepted (read_frame frame))
refused_frame service (changes set) = false
refused_frame service (at_port event) = false

abbrev pub RefusedFramesOut : Type 0
RefusedFramesOut = (service : Service) (items : List Item) → TakenOut refused_frame service items

-- document 02, W-207: and with refused port events, in any list with all else
abbrev pub refused_at_port : Service → Item → Bool
refused_at_port service (runs event) = false
refused_at_port service (reports event buffer) = false
refused_at_port service (receives frame) = false
refused_at_port service (changes set) = false
refused_at_port service (at_port event) = is_refused (port_step_of service event).response

abbrev pub RefusedPortEventsOut : Type 0
RefusedPortEventsOut = (service : Service) (items : List Item) → TakenOut refused_at_port service items

-- and with all that any number refuses
abbrev pub refused : Service → Item → Bool
refused service item = ltb 0 (step_item service item).seen.refusal

abbrev pub RefusedOut : Type 0
RefusedOut = (service : Service) (items : List Item) → TakenOut refused service items
