-- The bytes of both devices in one way through the code: what each function promises, by the device.
-- Assumes nothing.
use Rattle.std.specs.Prelude.{ℕ, Option, None, Some}
use Rattle.translation.specs.declared.Codes.{Codes}
use Rattle.translation.specs.declared.Translated.{Translated}
use Rattle.translation.specs.Translation.{translated_of}
use Rattle.state.specs.declared.Device.{Device}
use Rattle.state.specs.declared.Device.TheVariants.{Keyboard, Scanner}
use Rattle.state.specs.declared.Service.{Service}
use Rattle.answers.specs.declared.Answer.TheVariants.{Nothing, Ignored}
use Rattle.events.specs.declared.Outcome.{Outcome}
use Rattle.events.specs.Outcomes.{answered_of}
use Rattle.events.specs.Commands.{acknowledge_of, resend_of}
use Rattle.events.specs.Keyboard.{read_of, key_of, scan_of}

-- a scanner's byte passes as it is
abbrev pub translated_from : Device → Codes → ℕ → Translated
translated_from Keyboard codes byte = translated_of codes byte
translated_from Scanner codes byte = record { codes = codes; passed = Some byte }

-- FA and FE, which from a scanner are no replies
abbrev pub acknowledged_from : Device → Service → Outcome
acknowledged_from Keyboard service = acknowledge_of service
acknowledged_from Scanner service = answered_of service Ignored

abbrev pub resent_from : Device → Service → Outcome
resent_from Keyboard service = resend_of service
resent_from Scanner service = answered_of service Ignored

-- step 1 and those behind it
abbrev pub read_from : Device → Service → ℕ → Outcome
read_from Keyboard service byte = read_of service byte
read_from Scanner service byte = scan_of service byte

abbrev pub on_passed_from : Device → Service → Option ℕ → Outcome
on_passed_from device service None = answered_of service Nothing
on_passed_from device service (Some byte) = read_from device service byte

abbrev pub byte_from : Device → Service → ℕ → Outcome
byte_from Keyboard service byte = key_of service byte
byte_from Scanner service byte = scan_of service byte
