-- What a poll sends: document 01, "The line", up to the send; document 02, W-208, for the turns.
-- Assumes nothing.
use Rattle.std.specs.Prelude.{ℕ, ◌+◌, false, ltb, Option, None, Some}
use Rattle.bits.specs.Choice.{when◌then◌else◌}
use Rattle.line.specs.State.{is_value_of, unchanged_of}
use Rattle.line.specs.declared.Kind.{Kind}
use Rattle.line.specs.declared.Kind.TheVariants.{Led, Rate}
use Rattle.line.specs.declared.Command.{Command}
use Rattle.line.specs.declared.Phase.{Phase}
use Rattle.line.specs.declared.Phase.TheVariants.{Idle, Awaiting, Ready}
use Rattle.line.specs.declared.Line.{Line}
use Rattle.line.specs.declared.Answer.TheVariants.{Send, Quiet}
use Rattle.line.specs.declared.Outcome.{Outcome}

-- a rate that waits is a command to start
unfoldable pub waiting_of : Option ℕ → Option (Kind × ℕ)
waiting_of None = None
waiting_of (Some rate) = Some (Rate, rate)

-- so is a LED value that differs from the last handled
unfoldable pub unhandled_of : Option ℕ → ℕ → Option (Kind × ℕ)
unhandled_of handled led = when is_value_of handled led then None else Some (Led, led)

-- the first of two commands, or the only one
unfoldable pub first_of : Option (Kind × ℕ) → Option (Kind × ℕ) → Option (Kind × ℕ)
first_of None second = second
first_of (Some (kind, value)) second = Some (kind, value)

-- a turn decides where both are there
unfoldable pub in_turn_of : Kind → Option (Kind × ℕ) → Option (Kind × ℕ) → Option (Kind × ℕ)
in_turn_of Led led rate = first_of led rate
in_turn_of Rate led rate = first_of rate led

-- which command a poll starts on a line that is idle in the turn of a kind
unfoldable pub next_of : Line → Kind → ℕ → Option (Kind × ℕ)
next_of line turn led = in_turn_of turn (unhandled_of line.handled led) (waiting_of line.rate)

-- a count of sends, which never passes its limit
unfoldable pub one_more_of : ℕ → ℕ → ℕ
one_more_of count most = when ltb count most then count + 1 else most

unfoldable pub first_byte_of : Kind → ℕ
first_byte_of Led = 0xED
first_byte_of Rate = 0xF3

-- the byte under way
unfoldable pub due_of : Command → ℕ
due_of command = when command.operand then command.value else first_byte_of command.kind

-- a send counts for its byte, three in all, and for its command, six in all
unfoldable pub counted_of : Command → Command
counted_of command =
    record {
      kind = command.kind;
      value = command.value;
      operand = command.operand;
      sends = one_more_of command.sends 3;
      sent = one_more_of command.sent 6;
    }

-- a send: bits 4 and 5 of byte 97 are cleared, and the reply is awaited
unfoldable pub send_of : Line → Command → Outcome
send_of line command =
    record {
      line =
          record {
            phase = Awaiting (counted_of command);
            handled = line.handled;
            rate = line.rate;
            marks = record { done = line.marks.done; acknowledged = false; resend = false; abandoned = line.marks.abandoned };
          };
      answer = Send (due_of command);
      sent = (counted_of command).sent;
    }

-- a rate whose command starts no longer waits
unfoldable pub rate_left_of : Option ℕ → Kind → Option ℕ
rate_left_of rate Led = rate
rate_left_of rate Rate = None

-- the start of a command is the first send of its first byte; bit 7 of byte 97 is cleared
unfoldable pub start_of : Line → Kind → ℕ → Outcome
start_of line kind value =
    send_of
    (record {
      phase = line.phase;
      handled = line.handled;
      rate = rate_left_of line.rate kind;
      marks =
          record {
            done = line.marks.done;
            acknowledged = line.marks.acknowledged;
            resend = line.marks.resend;
            abandoned = false;
          };
    })
    (record { kind = kind; value = value; operand = false; sends = 0; sent = 0 })

unfoldable pub start_next_of : Line → Option (Kind × ℕ) → Outcome
start_next_of line None = unchanged_of line Quiet
start_next_of line (Some (kind, value)) = start_of line kind value

unfoldable pub idle_poll_of : Line → Kind → ℕ → Outcome
idle_poll_of line turn led = start_next_of line (next_of line turn led)

-- P, with the LED value that stands now: a poll sends nothing while a reply is awaited
unfoldable pub poll_in : Line → ℕ → Phase → Outcome
poll_in line led (Idle turn) = idle_poll_of line turn led
poll_in line led (Awaiting command) = unchanged_of line Quiet
poll_in line led (Ready command) = send_of line command

unfoldable pub poll_of : Line → ℕ → Outcome
poll_of line led = poll_in line led line.phase
