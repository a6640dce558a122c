-- Document 02, W-207: the controller's state, and the status that shows it.
-- Assumes nothing.
use Rattle.std.specs.Prelude.{ℕ, Bool, true, false}
use Rattle.bits.specs.Bits.{byte_of}
use Rattle.controller.specs.declared.Buffer.{Buffer}
use Rattle.controller.specs.declared.Buffer.TheVariants.{Empty, Key, Answer}
use Rattle.controller.specs.declared.Controller.{Controller}

-- as it is made, and as R leaves it: nothing to read, 00 read last, the command byte 01, nothing awaited, the status 14
unfoldable pub new_controller : Controller
new_controller = record { buffer = Empty 0x00; command = 0x01; awaiting = false; commanded = false }

unfoldable pub is_full : Buffer → Bool
is_full (Empty last) = false
is_full (Key byte) = true
is_full (Answer byte) = true

-- bit 0: the buffer is full; bit 3: the last accepted write went to 64; bits 2 and 4 are on
unfoldable pub status_of : Controller → ℕ
status_of controller = byte_of (is_full controller.buffer) false true controller.commanded true false false false
