-- Each byte has one reply at most.
-- Assumes nothing.
use Prim.Native.Nat.{ℕ, ◌+◌, ◌≤◌}
use native.Mathlib.Omega.{arith}
use mathlib.Core.List.{List, [], ◌∷◌}
use Rattle.line.specs.State.{new_line, wait_rate_of, unchanged_of}
use Rattle.line.specs.Poll.{send_of, start_of, poll_of}
use Rattle.line.specs.Reply.{mark_resend_of, ended_of, failed_of, reply_in, acknowledge_of, resend_of, time_out_of}
use Rattle.line.specs.Inputs.{Input, poll, acknowledge, resend, time_out, restart, wait_rate, line_after, line_after_all}
use Rattle.line.specs.Laws.{sends_by}
use Rattle.line.specs.Turns.{bytes_at, taken_by, replies_at, total_over, OneReplyEach}
use Rattle.line.specs.declared.Phase.{Phase}
use Rattle.line.specs.declared.Phase.TheVariants.{Idle, Awaiting, Ready}
use Rattle.line.specs.declared.Line.{Line}
use Rattle.line.specs.declared.Outcome.{Outcome}
use Rattle.line.proofs.Cases.{poll_cases, acknowledge_cases, failed_cases}

-- replies that are awaited
abbrev awaited_in : Phase → ℕ
awaited_in (Idle turn) = 0
awaited_in (Awaiting command) = 1
awaited_in (Ready command) = 0

one_awaited : (phase : Phase) → awaited_in phase ≤ 1
one_awaited (Idle turn) = omega arith
one_awaited (Awaiting command) = omega arith
one_awaited (Ready command) = omega arith

-- a byte sent is a reply awaited, and a reply taken one less
abbrev Answered : Line → Outcome → Type 0
Answered line outcome = taken_by outcome.answer + awaited_in outcome.line.phase ≤ sends_by outcome.answer + awaited_in line.phase

module _ (line : Line) where
  poll_answered : (led : ℕ) → Answered line (poll_of line led)
  unfolding unchanged_of start_of send_of
  poll_answered led = poll_cases (Answered line) line led (omega arith) (λ turn kind value e n. omega arith) (λ command e. omega arith)

  acknowledge_answered : Answered line (acknowledge_of line)
  unfolding unchanged_of ended_of
  acknowledge_answered =
      acknowledge_cases (Answered line) line (omega arith) (λ command e t. simp e (omega arith)) (λ command e t. simp e (omega arith))

  failed_answered : (marked : Line) → Answered line (reply_in line (failed_of marked) line.phase)
  unfolding unchanged_of ended_of
  failed_answered marked =
      failed_cases (Answered line) line marked (omega arith) (λ command e b. simp e (omega arith)) (λ command e b. simp e (omega arith))

answered : (line : Line) (input : Input) → replies_at line input + awaited_in (line_after line input).phase ≤ bytes_at line input + awaited_in line.phase
unfolding resend_of time_out_of new_line wait_rate_of
answered line (poll led) = poll_answered line led
answered line acknowledge = acknowledge_answered line
answered line resend = failed_answered line (mark_resend_of line)
answered line time_out = failed_answered line line
answered line restart = omega arith
answered line (wait_rate rate) = omega arith

answered_all : (line : Line) (inputs : List Input) →
    total_over replies_at line inputs + awaited_in (line_after_all line inputs).phase ≤ total_over bytes_at line inputs + awaited_in line.phase
answered_all line [] = omega arith
answered_all line (input ∷ inputs) = omega (arith, answered line input, answered_all (line_after line input) inputs)

pub one_reply_each : OneReplyEach
one_reply_each line inputs = omega (arith, answered_all line inputs, one_awaited line.phase)
