-- Lines as numbers, and what any such numbers mean; the marks are in byte 97.
-- Assumes nothing.
use Rattle.std.specs.Prelude.{ℕ, min, ◌%◌, Bool, true, false, not, eqb, Option, None, Some}
use Rattle.bits.specs.Choice.{when◌then◌else◌}
use Rattle.bits.specs.Bits.{bit4, bit5, bit7}
use Rattle.line.specs.declared.Kind.{Kind}
use Rattle.line.specs.declared.Kind.TheVariants.{Led, Rate}
use Rattle.line.specs.declared.Command.{Command}
use Rattle.line.specs.declared.Phase.{Phase}
use Rattle.line.specs.declared.Phase.TheVariants.{Idle, Awaiting, Ready}
use Rattle.line.specs.declared.Marks.{Marks}
use Rattle.line.specs.declared.Line.{Line}
use Rattle.line.specs.Ranges.{led_values, rate_values}
use Rattle.image.specs.declared.CommandImage.{CommandImage}
use Rattle.image.specs.declared.SettingImage.{SettingImage}
use Rattle.image.specs.declared.LineImage.{LineImage}

-- a flag is 0 or 1, and any other number is read as 1
abbrev pub flag_of : Bool → ℕ
flag_of true = 1
flag_of false = 0

abbrev pub is_set : ℕ → Bool
is_set number = not (eqb number 0)

abbrev pub kind_number : Kind → ℕ
kind_number Led = 0
kind_number Rate = 1

unfoldable pub kind_at : ℕ → Kind
kind_at number = when eqb number 0 then Led else Rate

abbrev pub setting_image : Option ℕ → SettingImage
setting_image None = record { known = 0; value = 0 }
setting_image (Some value) = record { known = 1; value = value }

unfoldable pub setting_at : ℕ → ℕ → Option ℕ
setting_at known value = when eqb known 0 then None else Some value

abbrev pub command_image : ℕ → Command → CommandImage
command_image phase command =
    record {
      phase = phase;
      kind = kind_number command.kind;
      value = command.value;
      operand = flag_of command.operand;
      sends = command.sends;
      sent = command.sent;
    }

-- of a command's value the bits that its kind has
unfoldable pub value_in : ℕ → ℕ → ℕ
value_in kind value = when eqb kind 0 then value % led_values else value % rate_values

-- more sends than a byte has are read as three, more bytes than a command sends as six
abbrev pub command_at : CommandImage → Command
command_at image =
    record {
      kind = kind_at image.kind;
      value = value_in image.kind image.value;
      operand = is_set image.operand;
      sends = min image.sends 3;
      sent = min image.sent 6;
    }

-- an idle line is 0, with the kind whose turn it is; an awaited reply 1, a poll that is due 2
abbrev pub phase_image : Phase → CommandImage
phase_image (Idle turn) = record { phase = 0; kind = kind_number turn; value = 0; operand = 0; sends = 0; sent = 0 }
phase_image (Awaiting command) = command_image 1 command
phase_image (Ready command) = command_image 2 command

-- any other number is an idle line
unfoldable pub phase_at : CommandImage → Phase
phase_at image =
    when eqb image.phase 1 then Awaiting (command_at image)
    else when eqb image.phase 2 then Ready (command_at image)
    else Idle (kind_at image.kind)

abbrev pub marks_at : ℕ → Marks
marks_at byte97 =
    record { done = byte97 % led_values; acknowledged = bit4 byte97; resend = bit5 byte97; abandoned = bit7 byte97 }

unfoldable pub line_image : Line → LineImage
line_image line =
    record {
      command = phase_image line.phase;
      handled = setting_image line.handled;
      rate = setting_image line.rate;
    }

unfoldable pub line_at : LineImage → ℕ → Line
line_at image byte97 =
    record {
      phase = phase_at image.command;
      handled = setting_at image.handled.known (image.handled.value % led_values);
      rate = setting_at image.rate.known (image.rate.value % rate_values);
      marks = marks_at byte97;
    }
