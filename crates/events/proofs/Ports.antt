-- Each port stands for itself: only its own bytes, and what shows it, look at it.
-- Assumes nothing.
use Prim.Native.Nat.{ℕ, ◌/◌}
use mathlib.Core.Path.{◌≡◌, refl}
use mathlib.Core.Bool.{false}
use lib.Dec.{eqb}
use Rattle.bits.specs.Bits.{bit3, byte_of}
use Rattle.bits.proofs.Tests.{not_both, neither}
use Rattle.bits.proofs.Bytes.{upper_half, bits_back}
use Rattle.port.specs.declared.Port.{Port}
use Rattle.port.specs.State.{either_side}
use Rattle.port.specs.KeyByte.{key_byte_of}
use Rattle.controller.specs.declared.Controller.{Controller}
use Rattle.state.specs.declared.Device.{Device}
use Rattle.state.specs.declared.Device.TheVariants.{Keyboard, Scanner}
use Rattle.state.specs.declared.Service.{Service}
use Rattle.state.specs.State.{ports_with}
use Rattle.state.specs.Flags.{byte17_of, byte18_of, byte96_of, byte97_of, status_high}
use Rattle.events.specs.declared.Event.{Event}
use Rattle.events.specs.declared.Event.TheVariants.{Key, Call, Poll, TimeOut, Empty, Restart, Scan}
use Rattle.events.specs.declared.Outcome.{Outcome}
use Rattle.events.specs.Outcomes.{answered_of}
use Rattle.events.specs.Keyboard.{typed_of}
use Rattle.events.specs.Commands.{on_line, poll_of, time_out_of, restart_of}
use Rattle.events.specs.Functions.{status_of, call_of}
use Rattle.events.specs.Step.{empty_of, step_of}
use Rattle.events.specs.Ports.{concerns, on_port, PortsApart, ShownAlike, ScannerUnshown}
use Rattle.events.proofs.Aside.{Apart, effect_apart, key_apart, scan_apart, call_apart}

-- an outcome where another port stands
abbrev PortApart : Device → Port → Outcome → Outcome → Type 0
PortApart device port = Apart (ports_with device port) (λ (controller : Controller). controller)

abbrev other_than : Device → Device
other_than Keyboard = Scanner
other_than Scanner = Keyboard

-- the lemma of both ports: the bytes of one do not look at the other
typed_apart : (device : Device) (port : Port) (service : Service) (byte : ℕ)
    → PortApart (other_than device) port (typed_of device (on_port (other_than device) port service) byte) (typed_of device service byte)
unfolding typed_of
typed_apart Keyboard port service byte = effect_apart _ _ _ (key_byte_of service.ports.keyboard service.shared byte).effect
typed_apart Scanner port service byte = effect_apart _ _ _ (key_byte_of service.ports.scanner service.shared byte).effect

function_apart : (device : Device) (port : Port) (service : Service) (function a b : ℕ) → concerns device (Call function a b) ≡ false
    → PortApart device port (call_of (on_port device port service) function a b) (call_of service function a b)
unfolding status_of answered_of byte17_of status_high
function_apart Keyboard port service function a b other =
    let no = neither (eqb function 0x02) (eqb function 0x12) other in
    call_apart _ _ service function a b (λ holds. not_both holds no.first) (λ holds. not_both holds no.second)
function_apart Scanner port service function a b other = call_apart _ _ service function a b (λ _. record { is = refl }) (λ _. record { is = refl })

-- ---- every event

event_apart : (device : Device) (port : Port) (service : Service) (event : Event) → concerns device event ≡ false
    → PortApart device port (step_of (on_port device port service) event) (step_of service event)
unfolding step_of poll_of time_out_of restart_of empty_of on_line answered_of
event_apart Keyboard port service (Key byte) other = not_both refl other
event_apart Scanner port service (Key byte) other = key_apart _ _ (typed_apart Keyboard port) service byte
event_apart device port service (Call function a b) other = function_apart device port service function a b other
event_apart device port service Poll other = record { is = refl }
event_apart device port service TimeOut other = record { is = refl }
event_apart device port service Empty other = record { is = refl }
event_apart device port service Restart other = record { is = refl }
event_apart Keyboard port service (Scan byte) other = scan_apart _ _ service byte (typed_apart Scanner port service byte)
event_apart Scanner port service (Scan byte) other = not_both refl other

pub ports_apart : PortsApart
ports_apart device port service event other = (event_apart device port service event other).is

-- ---- what is shown

pub scanner_unshown : ScannerUnshown
unfolding byte17_of byte18_of byte96_of byte97_of
scanner_unshown port outcome = refl

-- the locks and the pause in the flag bytes are those of the service
record Shows (service : Service) : Type 0 where
  locks : let l = service.shared.locks in byte17_of service / 16 ≡ byte_of false false false false l.scroll l.num l.caps l.insert / 16
  paused : bit3 (byte18_of service) ≡ service.shared.paused

shows : (service : Service) → Shows service
unfolding byte17_of byte18_of
shows service =
    let m = service.ports.keyboard.modifiers in
    let h = service.ports.keyboard.held in
    let l = service.shared.locks in
    record {
      locks = upper_half m.shift.right m.shift.left (either_side m.ctrl) (either_side m.alt) l.scroll l.num l.caps l.insert;
      paused = (bits_back m.ctrl.left m.alt.left h.sysreq service.shared.paused h.scroll h.num h.caps h.insert).at3;
    }

pub shown_alike : ShownAlike
unfolding byte97_of
shown_alike device port outcome =
    let now = shows outcome.service in
    let other = shows (on_port device port outcome.service) in
    rw (now.locks, now.paused, other.locks, other.paused)
