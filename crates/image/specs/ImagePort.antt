-- Document 02, W-206: the scanner's port as numbers, and what any such numbers mean.
-- Assumes nothing.
use Rattle.std.specs.Prelude.{ℕ, false}
use Rattle.bits.specs.Bits.{byte_of, bit0, bit1, bit2}
use Rattle.port.specs.declared.Sides.{Sides}
use Rattle.port.specs.declared.Held.{Held}
use Rattle.port.specs.declared.Port.{Port}
use Rattle.image.specs.declared.PortImage.{PortImage}
use Rattle.image.specs.ImageFlags.{prefix_number, prefix_at}
use Rattle.image.specs.ImageLine.{flag_of, is_set}

-- the right key before the left one, as byte 17 has the Shift keys; more bits than two are not read
unfoldable pub sides_number : Sides → ℕ
sides_number sides = byte_of sides.right sides.left false false false false false false

unfoldable pub sides_at : ℕ → Sides
sides_at number = record { left = bit1 number; right = bit0 number }

-- Scroll, Num and Caps, as the lock bits have them
unfoldable pub locks_held_number : Held → ℕ
locks_held_number held = byte_of held.scroll held.num held.caps false false false false false

unfoldable pub port_image : Port → PortImage
port_image port =
    record {
      prefix = prefix_number port.prefix;
      sum = port.sum;
      shift = sides_number port.modifiers.shift;
      ctrl = sides_number port.modifiers.ctrl;
      alt = sides_number port.modifiers.alt;
      locks = locks_held_number port.held;
      insert = flag_of port.held.insert;
      sysreq = flag_of port.held.sysreq;
    }

unfoldable pub port_at : PortImage → Port
port_at image =
    record {
      prefix = prefix_at image.prefix;
      modifiers = record { shift = sides_at image.shift; ctrl = sides_at image.ctrl; alt = sides_at image.alt };
      held =
          record {
            scroll = bit0 image.locks;
            num = bit1 image.locks;
            caps = bit2 image.locks;
            insert = is_set image.insert;
            sysreq = is_set image.sysreq;
          };
      sum = image.sum;
    }

-- the numbers of a port with no key down
unfoldable pub new_port_image : PortImage
new_port_image = record { prefix = 0; sum = 0; shift = 0; ctrl = 0; alt = 0; locks = 0; insert = 0; sysreq = 0 }
