-- Document 02, W-206, over lists: the two ports touch one another only through what they share. Ports.antt of proofs/ proves each sentence.
-- Assumes nothing.
use Rattle.std.specs.Prelude.{ℕ, ◌≡◌, Bool, false, List, [], ◌∷◌, map}
use Rattle.port.specs.declared.Port.{Port}
use Rattle.state.specs.declared.Device.{Device}
use Rattle.state.specs.declared.Device.TheVariants.{Scanner}
use Rattle.state.specs.declared.Service.{Service}
use Rattle.state.specs.State.{port_of}
use Rattle.events.specs.Ports.{is_keyboard, concerns, on_port, ShownBeside, beside_ports}
use Rattle.lists.specs.Items.{Item, runs, reports, receives, changes, at_port, PortSeen, Seen, after_items, seen_items}

-- frames and port events are the keyboard's; a change of set leaves both ports
abbrev pub item_concerns : Device → Item → Bool
item_concerns device (runs event) = concerns device event
item_concerns device (reports event buffer) = concerns device event
item_concerns device (receives frame) = is_keyboard device
item_concerns device (changes set) = false
item_concerns device (at_port event) = is_keyboard device

abbrev pub NoneConcerns : Device → List Item → Type 0
NoneConcerns device [] = Unit {0}
NoneConcerns device (item ∷ more) = (item_concerns device item ≡ false) × NoneConcerns device more

-- what is seen beside the own bits of ports
pub record SeenBeside : Type 0 where
  pub shown : List ShownBeside
  pub refusal : ℕ
  pub port : PortSeen
  pub status : ℕ

abbrev pub seen_beside : Seen → SeenBeside
seen_beside seen = record { shown = map beside_ports seen.shown; refusal = seen.refusal; port = seen.port; status = seen.status }

-- a list that does not concern a device leaves its port, and leaves and shows all else whatever stands there
pub record ListApart (device : Device) (port : Port) (service : Service) (items : List Item) : Type 0 where
  pub left : port_of device (after_items service items).ports ≡ port_of device service.ports
  pub last : after_items (on_port device port service) items ≡ on_port device port (after_items service items)
  pub seen : map seen_beside (seen_items (on_port device port service) items) ≡ map seen_beside (seen_items service items)

abbrev pub ListsApart : Type 0
ListsApart = (device : Device) (port : Port) (service : Service) (items : List Item) → NoneConcerns device items → ListApart device port service items

-- of the scanner's port nothing at all is seen there, in flag bytes and reports too
abbrev pub ScannerUnseen : Type 0
ScannerUnseen =
    (port : Port) (service : Service) (items : List Item) → NoneConcerns Scanner items → seen_items (on_port Scanner port service) items ≡ seen_items service items
