-- Document 02, W-207: the five port events.
-- Assumes nothing.
use Rattle.std.specs.Prelude.{ℕ, ◌+◌, ◌-◌, Bool, false, true, ◌||◌, eqb}
use Rattle.bits.specs.Choice.{when◌then◌else◌}
use Rattle.bits.specs.Bits.{bit0, bit4}
use Rattle.controller.specs.State.{is_full, status_of}
use Rattle.controller.specs.declared.Buffer.{Buffer}
use Rattle.controller.specs.declared.Buffer.TheVariants as buffer
use Rattle.controller.specs.declared.Controller.{Controller}
use Rattle.controller.specs.declared.PortEvent.{PortEvent}
use Rattle.controller.specs.declared.PortEvent.TheVariants.{FromKeyboard, Read60, Read64, Write60, Write64}
use Rattle.controller.specs.declared.PortRefusal.{PortRefusal}
use Rattle.controller.specs.declared.PortRefusal.TheVariants.{Busy, Command, Unawaited}
use Rattle.controller.specs.declared.Response.{Response}
use Rattle.controller.specs.declared.Response.TheVariants.{Accepted, Interrupt, Byte, Key, Refused}
use Rattle.controller.specs.declared.Responded.{Responded}

abbrev pub port_refusal_number : PortRefusal → ℕ
port_refusal_number Busy = 14
port_refusal_number Command = 15
port_refusal_number Unawaited = 16

abbrev pub responds : Controller → Response → Responded
responds controller response = record { controller = controller; response = response }

abbrev pub holding : Controller → Buffer → Controller
holding controller buffer =
    record {
      buffer = buffer;
      command = controller.command;
      awaiting = controller.awaiting;
      commanded = controller.commanded;
    }

-- from the keyboard: 14 while the buffer is full or bit 4 of the command byte is on; the interrupt comes at this moment, by bit 0, or never
unfoldable pub from_keyboard_of : Controller → ℕ → Responded
from_keyboard_of controller byte =
    when is_full controller.buffer || bit4 controller.command then responds controller (Refused Busy)
    else responds (holding controller (buffer.Key byte)) (when bit0 controller.command then Interrupt else Accepted)

-- reading 60: the buffer is emptied, and only a key has to be fed; an empty one gives the byte that was read last
unfoldable pub read60_of : Controller → Buffer → Responded
read60_of controller (buffer.Empty last) = responds controller (Byte last)
read60_of controller (buffer.Key byte) = responds (holding controller (buffer.Empty byte)) (Key byte)
read60_of controller (buffer.Answer byte) = responds (holding controller (buffer.Empty byte)) (Byte byte)

-- writing to 60: the command byte, or 16 where none is awaited
unfoldable pub write60_of : Controller → ℕ → Responded
write60_of controller byte =
    when controller.awaiting then
    responds (record { buffer = controller.buffer; command = byte; awaiting = false; commanded = false }) Accepted
    else responds controller (Refused Unawaited)

-- AD and AE: bit 4 of the command byte is on, and off
unfoldable pub disabled_of : ℕ → ℕ
disabled_of command = when bit4 command then command else command + 16

unfoldable pub enabled_of : ℕ → ℕ
enabled_of command = when bit4 command then command - 16 else command

-- writing to 64: 20 and AA put an answer in the place of what the buffer held, 60 begins a wait, every other listed command ends one; else 15
abbrev pub obeyed_of : Buffer → ℕ → Bool → Responded
obeyed_of buffer command awaiting =
    responds (record { buffer = buffer; command = command; awaiting = awaiting; commanded = true }) Accepted

unfoldable pub write64_of : Controller → ℕ → Responded
write64_of controller byte =
    let held = controller.buffer in
    let command = controller.command in
    when eqb byte 0x20 then obeyed_of (buffer.Answer command) command false
    else when eqb byte 0x60 then obeyed_of held command true
    else when eqb byte 0xAA then obeyed_of (buffer.Answer 0x55) command false
    else when eqb byte 0xAD then obeyed_of held (disabled_of command) false
    else when eqb byte 0xAE then obeyed_of held (enabled_of command) false
    else responds controller (Refused Command)

unfoldable pub responded_of : Controller → PortEvent → Responded
responded_of controller (FromKeyboard byte) = from_keyboard_of controller byte
responded_of controller Read60 = read60_of controller controller.buffer
responded_of controller Read64 = responds controller (Byte (status_of controller))
responded_of controller (Write60 byte) = write60_of controller byte
responded_of controller (Write64 byte) = write64_of controller byte

-- what a response shows: the byte read, 00 where none is; whether interrupt 1 is raised; whether the byte has to be fed
abbrev pub byte_in : Response → ℕ
byte_in Accepted = 0x00
byte_in Interrupt = 0x00
byte_in (Byte byte) = byte
byte_in (Key byte) = byte
byte_in (Refused refusal) = 0x00

abbrev pub interrupt_in : Response → Bool
interrupt_in Accepted = false
interrupt_in Interrupt = true
interrupt_in (Byte byte) = false
interrupt_in (Key byte) = false
interrupt_in (Refused refusal) = false

abbrev pub is_key_in : Response → Bool
is_key_in Accepted = false
is_key_in Interrupt = false
is_key_in (Byte byte) = false
is_key_in (Key byte) = true
is_key_in (Refused refusal) = false

abbrev pub is_refused : Response → Bool
is_refused Accepted = false
is_refused Interrupt = false
is_refused (Byte byte) = false
is_refused (Key byte) = false
is_refused (Refused refusal) = true
