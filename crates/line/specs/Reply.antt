-- What FA, FE and a time-out do: document 01, "The line", from the reply on, with the marks of byte 97 that they set.
-- Assumes nothing.
use Rattle.std.specs.Prelude.{true, ltb, Some}
use Rattle.bits.specs.Choice.{when◌then◌else◌}
use Rattle.line.specs.State.{is_led_of, other_of, in_phase_of, with_marks_of, unchanged_of}
use Rattle.line.specs.declared.Command.{Command}
use Rattle.line.specs.declared.Phase.{Phase}
use Rattle.line.specs.declared.Phase.TheVariants.{Idle, Awaiting, Ready}
use Rattle.line.specs.declared.Line.{Line}
use Rattle.line.specs.declared.Answer.TheVariants.{Taken, Ignored, GivenUp}
use Rattle.line.specs.declared.Outcome.{Outcome}

-- bit 4: FA taken
unfoldable pub mark_acknowledged_of : Line → Line
mark_acknowledged_of line =
    with_marks_of line
    (record {
      done = line.marks.done;
      acknowledged = true;
      resend = line.marks.resend;
      abandoned = line.marks.abandoned;
    })

-- bit 5: FE taken
unfoldable pub mark_resend_of : Line → Line
mark_resend_of line =
    with_marks_of line
    (record {
      done = line.marks.done;
      acknowledged = line.marks.acknowledged;
      resend = true;
      abandoned = line.marks.abandoned;
    })

-- bits 0 to 2: the value of a LED command that is done
unfoldable pub mark_done_of : Line → Command → Line
mark_done_of line command =
    when is_led_of command.kind then
    with_marks_of line
    (record {
      done = command.value;
      acknowledged = line.marks.acknowledged;
      resend = line.marks.resend;
      abandoned = line.marks.abandoned;
    })
    else line

-- bit 7: a command given up
unfoldable pub mark_abandoned_of : Line → Line
mark_abandoned_of line =
    with_marks_of line
    (record {
      done = line.marks.done;
      acknowledged = line.marks.acknowledged;
      resend = line.marks.resend;
      abandoned = true;
    })

-- the line without its command: done or given up, a LED value is handled and the turn passes
unfoldable pub ended_of : Line → Command → Line
ended_of line command =
    record {
      phase = Idle (other_of command.kind);
      handled = when is_led_of command.kind then Some command.value else line.handled;
      rate = line.rate;
      marks = line.marks;
    }

-- the operand is the byte under way, with sends of its own
unfoldable pub operand_of : Command → Command
operand_of command = record { kind = command.kind; value = command.value; operand = true; sends = 0; sent = command.sent }

-- FA: the next poll sends the operand, or the command is done
unfoldable pub acknowledged_of : Line → Command → Outcome
acknowledged_of line command =
    record {
      line =
          when command.operand then ended_of (mark_done_of line command) command
          else in_phase_of line (Ready (operand_of command));
      answer = Taken;
      sent = command.sent;
    }

-- FE or T: the next poll sends the byte again, or after the third send the command is given up
unfoldable pub failed_of : Line → Command → Outcome
failed_of line command =
    when ltb command.sends 3 then
    record { line = in_phase_of line (Ready command); answer = Taken; sent = command.sent }
    else
    record { line = ended_of (mark_abandoned_of line) command; answer = GivenUp; sent = command.sent }

-- FA, FE and T count only while a reply is awaited
unfoldable pub reply_in : Line → (Command → Outcome) → Phase → Outcome
reply_in line taken (Idle turn) = unchanged_of line Ignored
reply_in line taken (Awaiting command) = taken command
reply_in line taken (Ready command) = unchanged_of line Ignored

unfoldable pub acknowledge_of : Line → Outcome
acknowledge_of line = reply_in line (acknowledged_of (mark_acknowledged_of line)) line.phase

-- FE sets its mark, also where it gives up
unfoldable pub resend_of : Line → Outcome
resend_of line = reply_in line (failed_of (mark_resend_of line)) line.phase

-- T sets no mark of its own
unfoldable pub time_out_of : Line → Outcome
time_out_of line = reply_in line (failed_of line) line.phase
