-- What the controller guarantees; crate `lists` has it over lists with all that they can hold. Each sentence is proved in proofs/.
-- Assumes nothing.
use Rattle.std.specs.Prelude.{ℕ, ◌/◌, ◌%◌, ◌≡◌, Bool, true, false, List, [], ◌∷◌, ◌⊎◌}
use Rattle.bits.specs.Choice.{when◌then◌else◌}
use Rattle.bits.specs.Bits.{bit0, bit4}
use Rattle.controller.specs.State.{new_controller, is_full, status_of}
use Rattle.controller.specs.PortEvents.{responds, holding, disabled_of, enabled_of, responded_of}
use Rattle.controller.specs.declared.Buffer.TheVariants as buffer
use Rattle.controller.specs.declared.Controller.{Controller}
use Rattle.controller.specs.declared.PortEvent.{PortEvent}
use Rattle.controller.specs.declared.PortEvent.TheVariants.{FromKeyboard, Read60, Read64, Write60, Write64}
use Rattle.controller.specs.declared.PortRefusal.{PortRefusal}
use Rattle.controller.specs.declared.PortRefusal.TheVariants.{Busy, Command, Unawaited}
use Rattle.controller.specs.declared.Response.{Response}
use Rattle.controller.specs.declared.Response.TheVariants.{Accepted, Interrupt, Byte, Key, Refused}

-- 14 to 16 leave the controller as it was
abbrev pub RefusedChangesNothing : Type 0
RefusedChangesNothing =
    (controller : Controller) (event : PortEvent) (refusal : PortRefusal) → (responded_of controller event).response ≡ Refused refusal →
    (responded_of controller event).controller ≡ controller

-- no other status is ever shown
abbrev pub OneOfFour : ℕ → Type 0
OneOfFour status = (status ≡ 0x14) ⊎ ((status ≡ 0x15) ⊎ ((status ≡ 0x1C) ⊎ (status ≡ 0x1D)))

abbrev pub StatusIsOneOfFour : Type 0
StatusIsOneOfFour = (controller : Controller) → OneOfFour (status_of controller)

-- a keyboard byte that is accepted and read at once is fed, and nothing of it stays but the last byte
pub record ReadAtOnce (controller : Controller) (byte : ℕ) : Type 0 where
  pub accepted : (responded_of controller (FromKeyboard byte)).response ≡ (when bit0 controller.command then Interrupt else Accepted)
  pub fed : responded_of (responded_of controller (FromKeyboard byte)).controller Read60 ≡ responds (holding controller (buffer.Empty byte)) (Key byte)
  pub once : responded_of (holding controller (buffer.Empty byte)) Read60 ≡ responds (holding controller (buffer.Empty byte)) (Byte byte)

abbrev pub KeyReadAtOnce : Type 0
KeyReadAtOnce =
    (controller : Controller) (byte : ℕ) → is_full controller.buffer ≡ false → bit4 controller.command ≡ false → ReadAtOnce controller byte

-- a byte is fed by a read of 60 alone, and only one that came from the keyboard
pub record FedFrom (controller : Controller) (event : PortEvent) (byte : ℕ) : Type 0 where
  pub read : event ≡ Read60
  pub key : controller.buffer ≡ buffer.Key byte

abbrev pub OnlyKeysAreFed : Type 0
OnlyKeysAreFed =
    (controller : Controller) (event : PortEvent) (byte : ℕ) → (responded_of controller event).response ≡ Key byte → FedFrom controller event byte

-- the interrupt is raised by a keyboard byte alone, and only while bit 0 of the command byte is on
abbrev pub is_from_keyboard : PortEvent → Bool
is_from_keyboard (FromKeyboard byte) = true
is_from_keyboard Read60 = false
is_from_keyboard Read64 = false
is_from_keyboard (Write60 byte) = false
is_from_keyboard (Write64 byte) = false

pub record RaisedBy (controller : Controller) (event : PortEvent) : Type 0 where
  pub from_keyboard : is_from_keyboard event ≡ true
  pub enabled : bit0 controller.command ≡ true

abbrev pub OnlyKeysInterrupt : Type 0
OnlyKeysInterrupt =
    (controller : Controller) (event : PortEvent) → (responded_of controller event).response ≡ Interrupt → RaisedBy controller event

-- AD and AE move bit 4 and no other
pub record OtherBitsStay (command moved : ℕ) (bit : Bool) : Type 0 where
  pub fourth : bit4 moved ≡ bit
  pub below : moved % 16 ≡ command % 16
  pub above : moved / 32 ≡ command / 32

pub record BitFourAlone : Type 0 where
  pub disabled : (command : ℕ) → OtherBitsStay command (disabled_of command) true
  pub enabled : (command : ℕ) → OtherBitsStay command (enabled_of command) false

-- cases of the readings, from a new controller
abbrev pub responses_to : Controller → List PortEvent → List Response
responses_to controller [] = []
responses_to controller (event ∷ more) = (responded_of controller event).response ∷ responses_to (responded_of controller event).controller more

pub record ControllerCases : Type 0 where
  pub refused_write_leaves_the_wait :
      responses_to new_controller (Write64 0x60 ∷ Write64 0xFF ∷ Write60 0x00 ∷ []) ≡ Accepted ∷ Refused Command ∷ Accepted ∷ []
  pub enabling_ends_the_wait : responses_to new_controller (Write64 0x60 ∷ Write64 0xAE ∷ Write60 0x00 ∷ []) ≡ Accepted ∷ Accepted ∷ Refused Unawaited ∷ []
  pub held_key_read_while_disabled :
      responses_to new_controller (FromKeyboard 0x1E ∷ Write64 0xAD ∷ Read64 ∷ Read60 ∷ FromKeyboard 0x9E ∷ [])
      ≡ Interrupt ∷ Accepted ∷ Byte 0x1D ∷ Key 0x1E ∷ Refused Busy ∷ []
  pub key_lost_to_an_answer :
      responses_to new_controller (FromKeyboard 0x1E ∷ Write64 0x20 ∷ Read60 ∷ Read60 ∷ Read64 ∷ [])
      ≡ Interrupt ∷ Accepted ∷ Byte 0x01 ∷ Byte 0x01 ∷ Byte 0x1C ∷ []
  pub refused_write_leaves_bit_three :
      responses_to new_controller (Write64 0x60 ∷ Write60 0x00 ∷ Write64 0xFF ∷ Read64 ∷ []) ≡ Accepted ∷ Accepted ∷ Refused Command ∷ Byte 0x14 ∷ []
  pub command_byte_read_back :
      responses_to new_controller (Write64 0xAD ∷ Write64 0x20 ∷ Read60 ∷ Write64 0xAE ∷ Write64 0x20 ∷ Read60 ∷ Write64 0xAA ∷ Read60 ∷ [])
      ≡ Accepted ∷ Accepted ∷ Byte 0x11 ∷ Accepted ∷ Accepted ∷ Byte 0x01 ∷ Accepted ∷ Byte 0x55 ∷ []
