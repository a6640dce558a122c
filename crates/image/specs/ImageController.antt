-- Document 02, W-207: the controller as numbers, and what any such numbers mean.
-- Assumes nothing.
use Rattle.std.specs.Prelude.{ℕ, ◌+◌, ◌-◌, eqb, replicate}
use Rattle.bits.specs.Choice.{when◌then◌else◌}
use Rattle.bits.specs.Bits.{bit0}
use Rattle.controller.specs.declared.Buffer.{Buffer}
use Rattle.controller.specs.declared.Buffer.TheVariants.{Empty, Key, Answer}
use Rattle.controller.specs.declared.Controller.{Controller}
use Rattle.image.specs.declared.ControllerImage.{ControllerImage}
use Rattle.image.specs.ImageLine.{flag_of, is_set}

-- bit 0 turned over: the command byte of a new controller, 01, has the number 0
unfoldable pub turned_over : ℕ → ℕ
turned_over command = when bit0 command then command - 1 else command + 1

abbrev pub buffer_number : Buffer → ℕ
buffer_number (Empty last) = 0
buffer_number (Key byte) = 1
buffer_number (Answer byte) = 2

-- what it holds, or the byte that was read last
abbrev pub held_in : Buffer → ℕ
held_in (Empty last) = last
held_in (Key byte) = byte
held_in (Answer byte) = byte

unfoldable pub buffer_at : ℕ → ℕ → Buffer
buffer_at number byte = when eqb number 1 then Key byte else when eqb number 2 then Answer byte else Empty byte

unfoldable pub controller_image : Controller → ControllerImage
controller_image controller =
    record {
      buffer = buffer_number controller.buffer;
      byte = held_in controller.buffer;
      command = turned_over controller.command;
      awaiting = flag_of controller.awaiting;
      commanded = flag_of controller.commanded;
      spare = replicate 3 0;
    }

unfoldable pub controller_at : ControllerImage → Controller
controller_at image =
    record {
      buffer = buffer_at image.buffer image.byte;
      command = turned_over image.command;
      awaiting = is_set image.awaiting;
      commanded = is_set image.commanded;
    }

-- the numbers of a new controller
unfoldable pub new_controller_image : ControllerImage
new_controller_image = record { buffer = 0; byte = 0; command = 0; awaiting = 0; commanded = 0; spare = replicate 3 0 }
