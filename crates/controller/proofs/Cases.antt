-- The cases of the readings, by computation.
-- Assumes nothing.
use mathlib.Core.Path.{refl}
use Rattle.bits.specs.Choice.{when◌then◌else◌}
use Rattle.bits.specs.Bits.{weight_of, byte_of}
use Rattle.controller.specs.State.{new_controller, is_full, status_of}
use Rattle.controller.specs.PortEvents.{from_keyboard_of, read60_of, write60_of, disabled_of, enabled_of, write64_of, responded_of}
use Rattle.controller.specs.Laws.{ControllerCases}

pub controller_cases : ControllerCases
unfolding when◌then◌else◌ weight_of byte_of new_controller is_full status_of from_keyboard_of read60_of write60_of disabled_of enabled_of write64_of responded_of
controller_cases = record {
  refused_write_leaves_the_wait = refl;
  enabling_ends_the_wait = refl;
  held_key_read_while_disabled = refl;
  key_lost_to_an_answer = refl;
  refused_write_leaves_bit_three = refl;
  command_byte_read_back = refl;
}
