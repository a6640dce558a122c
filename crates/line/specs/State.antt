-- The line's state: how it is made and restarted, what is read off it, and the changes of it that several rules share.
-- Assumes nothing.
use Rattle.std.specs.Prelude.{ℕ, Bool, true, false, eqb, Option, None, Some}
use Rattle.line.specs.declared.Kind.{Kind}
use Rattle.line.specs.declared.Kind.TheVariants.{Led, Rate}
use Rattle.line.specs.declared.Phase.{Phase}
use Rattle.line.specs.declared.Phase.TheVariants.{Idle, Awaiting, Ready}
use Rattle.line.specs.declared.Marks.{Marks}
use Rattle.line.specs.declared.Line.{Line}
use Rattle.line.specs.declared.Answer.{Answer}
use Rattle.line.specs.declared.Outcome.{Outcome}

-- a new line, and the line after R: idle, nothing handled, no rate waiting, byte 97 zero, the LED value's turn
unfoldable pub new_line : Line
new_line =
    record {
      phase = Idle Led;
      handled = None;
      rate = None;
      marks = record { done = 0; acknowledged = false; resend = false; abandoned = false };
    }

-- function 03: the rate waits, whether or not another waited
unfoldable pub wait_rate_of : Line → ℕ → Line
wait_rate_of line rate = record { phase = line.phase; handled = line.handled; rate = Some rate; marks = line.marks }

-- the bytes sent by the command that runs, 0 without one
unfoldable pub sent_in : Phase → ℕ
sent_in (Idle turn) = 0
sent_in (Awaiting command) = command.sent
sent_in (Ready command) = command.sent

unfoldable pub sent_of : Line → ℕ
sent_of line = sent_in line.phase

unfoldable pub is_led_of : Kind → Bool
is_led_of Led = true
is_led_of Rate = false

-- a LED command runs
unfoldable pub led_runs_in : Phase → Bool
led_runs_in (Idle turn) = false
led_runs_in (Awaiting command) = is_led_of command.kind
led_runs_in (Ready command) = is_led_of command.kind

unfoldable pub led_runs_of : Line → Bool
led_runs_of line = led_runs_in line.phase

-- a command passes the turn to the other kind, however it ends
unfoldable pub other_of : Kind → Kind
other_of Led = Rate
other_of Rate = Led

-- the setting is this value
unfoldable pub is_value_of : Option ℕ → ℕ → Bool
is_value_of None value = false
is_value_of (Some known) value = eqb known value

abbrev pub in_phase_of : Line → Phase → Line
in_phase_of line phase = record { phase = phase; handled = line.handled; rate = line.rate; marks = line.marks }

abbrev pub with_marks_of : Line → Marks → Line
with_marks_of line marks = record { phase = line.phase; handled = line.handled; rate = line.rate; marks = marks }

-- an answer that leaves the line as it is
unfoldable pub unchanged_of : Line → Answer → Outcome
unchanged_of line answer = record { line = line; answer = answer; sent = sent_of line }
