-- Document 02, W-206, as laws: neither port touches the other. Ports.antt of proofs/ proves each sentence; crate `lists` has them over lists.
-- Assumes nothing.
use Rattle.std.specs.Prelude.{ℕ, ◌/◌, ◌≡◌, Bool, true, false, ◌&&◌, ◌||◌, not, eqb}
use Rattle.bits.specs.Bits.{bit3}
use Rattle.port.specs.declared.Port.{Port}
use Rattle.state.specs.declared.Device.{Device}
use Rattle.state.specs.declared.Device.TheVariants.{Keyboard, Scanner}
use Rattle.state.specs.declared.Service.{Service}
use Rattle.state.specs.State.{ports_with, with_ports}
use Rattle.events.specs.declared.Event.{Event}
use Rattle.events.specs.declared.Event.TheVariants.{Key, Call, Poll, TimeOut, Empty, Restart, Scan}
use Rattle.events.specs.declared.Outcome.{Outcome}
use Rattle.events.specs.Step.{step_of}
use Rattle.events.specs.Run.{Shown, shown_of}

abbrev pub is_keyboard : Device → Bool
is_keyboard Keyboard = true
is_keyboard Scanner = false

-- what reads a device's own bits: its bytes, and for the keyboard functions 02 and 12
abbrev pub concerns : Device → Event → Bool
concerns device (Key byte) = is_keyboard device
concerns device (Call function a b) = is_keyboard device && (eqb function 0x02 || eqb function 0x12)
concerns device Poll = false
concerns device TimeOut = false
concerns device Empty = false
concerns device Restart = false
concerns device (Scan byte) = not (is_keyboard device)

-- another port of a device in a service, and in what an event leaves
abbrev pub on_port : Device → Port → Service → Service
on_port device port service = with_ports service (ports_with device port service.ports) service.shared

abbrev pub outcome_on : Device → Port → Outcome → Outcome
outcome_on device port outcome =
    record { service = on_port device port outcome.service; answer = outcome.answer; sent = outcome.sent }

-- the one law of either port: all other events answer and do the same whatever stands there, and leave it standing
abbrev pub PortsApart : Type 0
PortsApart =
    (device : Device) (port : Port) (service : Service) (event : Event) → concerns device event ≡ false →
    step_of (on_port device port service) event ≡ outcome_on device port (step_of service event)

-- what is shown beside the own bits of ports: ans, word, sent, byte 97, the locks in byte 17 and the pause in byte 18
pub record ShownBeside : Type 0 where
  pub ans : ℕ
  pub word : ℕ
  pub locks : ℕ
  pub paused : Bool
  pub byte97 : ℕ
  pub sent : ℕ

abbrev pub beside_ports : Shown → ShownBeside
beside_ports shown =
    record {
      ans = shown.ans;
      word = shown.word;
      locks = shown.byte17 / 16;
      paused = bit3 shown.byte18;
      byte97 = shown.byte97;
      sent = shown.sent;
    }

-- whatever stands at a port, that much is shown alike
abbrev pub ShownAlike : Type 0
ShownAlike = (device : Device) (port : Port) (outcome : Outcome) → beside_ports (shown_of (outcome_on device port outcome)) ≡ beside_ports (shown_of outcome)

-- and whatever stands at the scanner's, everything
abbrev pub ScannerUnshown : Type 0
ScannerUnshown = (port : Port) (outcome : Outcome) → shown_of (outcome_on Scanner port outcome) ≡ shown_of outcome
