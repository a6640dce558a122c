-- All that can happen to a line, as inputs of one type, so that a law can speak of lists of them.
-- Assumes nothing.
use Rattle.std.specs.Prelude.{ℕ, List, [], ◌∷◌}
use Rattle.line.specs.State.{new_line, wait_rate_of, sent_of}
use Rattle.line.specs.Poll.{poll_of}
use Rattle.line.specs.Reply.{acknowledge_of, resend_of, time_out_of}
use Rattle.line.specs.declared.Line.{Line}

-- a poll comes with the LED value of its moment
pub data Input : Type 0 where
  poll : ℕ → Input
  acknowledge resend time_out restart : Input
  wait_rate : ℕ → Input

-- the line after an input
abbrev pub line_after : Line → Input → Line
line_after line (poll led) = (poll_of line led).line
line_after line acknowledge = (acknowledge_of line).line
line_after line resend = (resend_of line).line
line_after line time_out = (time_out_of line).line
line_after line restart = new_line
line_after line (wait_rate rate) = wait_rate_of line rate

-- the line after a list of inputs
abbrev pub line_after_all : Line → List Input → Line
line_after_all line [] = line
line_after_all line (input ∷ inputs) = line_after_all (line_after line input) inputs

-- the count of bytes sent that is shown at an input: 0 at a restart
abbrev pub sent_at : Line → Input → ℕ
sent_at line (poll led) = (poll_of line led).sent
sent_at line acknowledge = (acknowledge_of line).sent
sent_at line resend = (resend_of line).sent
sent_at line time_out = (time_out_of line).sent
sent_at line restart = 0
sent_at line (wait_rate rate) = sent_of line
