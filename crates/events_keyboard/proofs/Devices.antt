-- A byte read by the tests of the code is the byte read as its device's definition has it.
-- Assumes nothing.
use Rattle.std.specs.Prelude.{Option, None, Some}
use Prim.Native.Nat.{ℕ}
use mathlib.Core.Path.{◌≡◌, refl}
use mathlib.Core.Bool.{true, false}
use lib.Dec.{eqb}
use Rattle.bits.specs.Choice.{when◌then◌else◌}
use Rattle.translation.specs.Translation.{translated_of}
use Rattle.state.specs.declared.Device.{Device}
use Rattle.state.specs.declared.Device.TheVariants.{Keyboard, Scanner}
use Rattle.state.specs.declared.Service.{Service}
use Rattle.state.specs.State.{with_codes}
use Rattle.events.specs.Keyboard.{typed_of, read_of, on_passed, key_of, scan_of}
use Rattle.events_keyboard.specs.Devices.{translated_from, acknowledged_from, resent_from, read_from, on_passed_from, byte_from}

pub fa_read : (device : Device) (service : Service) (byte : ℕ) → eqb byte 0xFA ≡ true → acknowledged_from device service ≡ read_from device service byte
unfolding read_of scan_of when◌then◌else◌
fa_read Keyboard service byte fa = simp fa
fa_read Scanner service byte fa = simp fa

pub fe_read : (device : Device) (service : Service) (byte : ℕ) → eqb byte 0xFA ≡ false → eqb byte 0xFE ≡ true → resent_from device service ≡ read_from device service byte
unfolding read_of scan_of when◌then◌else◌
fe_read Keyboard service byte fa fe = simp (fa, fe)
fe_read Scanner service byte fa fe = simp (fa, fe)

pub key_read : (device : Device) (service : Service) (byte : ℕ) → eqb byte 0xFA ≡ false → eqb byte 0xFE ≡ false → typed_of device service byte ≡ read_from device service byte
unfolding read_of scan_of when◌then◌else◌
key_read Keyboard service byte fa fe = simp (fa, fe)
key_read Scanner service byte fa fe = simp (fa, fe)

keyboard_passed : (service : Service) (passed : Option ℕ) → on_passed_from Keyboard service passed ≡ on_passed service passed
keyboard_passed service None = refl
keyboard_passed service (Some byte) = refl

pub byte_read : (device : Device) (service : Service) (byte : ℕ)
    → let translated = translated_from device service.codes byte in
    on_passed_from device (with_codes service translated.codes) translated.passed ≡ byte_from device service byte
unfolding key_of
byte_read Keyboard service byte = keyboard_passed _ (translated_of service.codes byte).passed
byte_read Scanner service byte = refl
