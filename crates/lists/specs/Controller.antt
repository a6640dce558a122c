-- Document 02, W-207, over lists with all that they can hold. Controller.antt of proofs/ proves each sentence.
-- Assumes nothing.
use Rattle.std.specs.Prelude.{ℕ, ◌≡◌, false, List, [], ◌∷◌, ◌++◌, map}
use Rattle.bits.specs.Bits.{bit4}
use Rattle.controller.specs.declared.Controller.{Controller}
use Rattle.controller.specs.declared.PortEvent.TheVariants.{FromKeyboard, Read60}
use Rattle.controller.specs.declared.Response.{Response}
use Rattle.controller.specs.declared.Response.TheVariants as response
use Rattle.controller.specs.State.{new_controller, is_full}
use Rattle.controller.specs.Laws.{OneOfFour}
use Rattle.state.specs.declared.Service.{Service}
use Rattle.state.specs.State.{with_controller}
use Rattle.events.specs.declared.Event.TheVariants.{Key}
use Rattle.events.specs.Controller.{port_step_of}
use Rattle.events.specs.Run.{Shown, run, after}
use Rattle.lists.specs.Items.{Item, runs, reports, receives, changes, at_port, PortSeen, Seen, next_item, after_items, ran_items, seen_items}

-- 14, 15, 1C or 1D is the status that every item leaves, whatever came before it
abbrev pub StatusesOneOfFour : List Seen → Type 0
StatusesOneOfFour [] = Unit {0}
StatusesOneOfFour (seen ∷ more) = OneOfFour seen.status × StatusesOneOfFour more

abbrev pub StatusesOverItems : Type 0
StatusesOverItems = (service : Service) (items : List Item) → StatusesOneOfFour (seen_items service items)

-- the service beside its controller, and what is seen beside the status
abbrev pub bare : Service → Service
bare service = with_controller service new_controller

pub record SeenWithoutStatus : Type 0 where
  pub shown : List Shown
  pub refusal : ℕ
  pub buffer : List ℕ
  pub port : PortSeen

abbrev pub without_status : Seen → SeenWithoutStatus
without_status seen = record { shown = seen.shown; refusal = seen.refusal; buffer = seen.buffer; port = seen.port }

-- a list without port events does and shows the same whatever the controller is
abbrev pub NoneAtPort : List Item → Type 0
NoneAtPort [] = Unit {0}
NoneAtPort (runs event ∷ more) = NoneAtPort more
NoneAtPort (reports event buffer ∷ more) = NoneAtPort more
NoneAtPort (receives frame ∷ more) = NoneAtPort more
NoneAtPort (changes set ∷ more) = NoneAtPort more
NoneAtPort (at_port event ∷ more) = ⊥

pub record BesideController (controller : Controller) (service : Service) (items : List Item) : Type 0 where
  pub last : bare (after_items (with_controller service controller) items) ≡ bare (after_items service items)
  pub seen : map without_status (seen_items (with_controller service controller) items) ≡ map without_status (seen_items service items)

abbrev pub ControllerUnread : Type 0
ControllerUnread = (controller : Controller) (service : Service) (items : List Item) → NoneAtPort items → BesideController controller service items

-- what a list types: port events as the keys that they feed, all else as it is
abbrev pub keys_in : Response → List Item
keys_in response.Accepted = []
keys_in response.Interrupt = []
keys_in (response.Byte byte) = []
keys_in (response.Key byte) = runs (Key byte) ∷ []
keys_in (response.Refused refusal) = []

abbrev pub typed_by : Service → Item → List Item
typed_by service (runs event) = runs event ∷ []
typed_by service (reports event buffer) = reports event buffer ∷ []
typed_by service (receives frame) = receives frame ∷ []
typed_by service (changes set) = changes set ∷ []
typed_by service (at_port event) = keys_in (port_step_of service event).response

abbrev pub typed_items : Service → List Item → List Item
typed_items service [] = []
typed_items service (item ∷ more) = typed_by service item ++ typed_items (next_item service item) more

-- but for the controller a list leaves what that list leaves: port events do no more than feed keys
pub record AsTyped (service : Service) (items : List Item) : Type 0 where
  pub left : bare (after_items service items) ≡ bare (after_items service (typed_items service items))
  pub free : NoneAtPort (typed_items service items)

abbrev pub PortEventsFeedKeys : Type 0
PortEventsFeedKeys = (service : Service) (items : List Item) → AsTyped service items

-- bytes through the port: each is accepted and read at once
abbrev pub through_port : List ℕ → List Item
through_port [] = []
through_port (byte ∷ more) = at_port (FromKeyboard byte) ∷ at_port Read60 ∷ through_port more

-- of two items of each, what the second shows
abbrev pub shown_at_reads : List Seen → List Shown
shown_at_reads [] = []
shown_at_reads (only ∷ []) = []
shown_at_reads (accepted ∷ read ∷ more) = read.shown ++ shown_at_reads more

-- where nothing stands in the buffer and the keyboard is enabled they all run, and are the K events of these bytes
pub record KeysThroughPort (service : Service) (bytes : List ℕ) : Type 0 where
  pub ran : ran_items service (through_port bytes) ≡ through_port bytes
  pub typed : typed_items service (through_port bytes) ≡ map runs (map Key bytes)
  pub left : bare (after_items service (through_port bytes)) ≡ bare (after service (map Key bytes))
  pub shows : shown_at_reads (seen_items service (through_port bytes)) ≡ run service (map Key bytes)

abbrev pub ThroughPortAsKeys : Type 0
ThroughPortAsKeys =
    (service : Service) (bytes : List ℕ) → is_full service.controller.buffer ≡ false → bit4 service.controller.command ≡ false →
    KeysThroughPort service bytes
