-- The operand that a command sends is the value fixed at its start.
-- Assumes nothing.
use Rattle.std.specs.Prelude.{None, Some}
use Prim.Native.Nat.{ℕ}
use mathlib.Core.Path.{◌≡◌, refl}
use mathlib.Core.Logic.{⊎_elim}
use Rattle.bits.specs.Choice.{when◌then◌else◌}
use Rattle.line.specs.State.{new_line, wait_rate_of, unchanged_of}
use Rattle.line.specs.Poll.{waiting_of, unhandled_of, first_of, in_turn_of, next_of, one_more_of, due_of, counted_of, send_of, start_of, start_next_of, idle_poll_of, poll_in, poll_of}
use Rattle.line.specs.Reply.{operand_of, mark_resend_of, ended_of, failed_of, reply_in, acknowledge_of, resend_of, time_out_of}
use Rattle.line.specs.Inputs.{poll, acknowledge, resend, time_out, restart, wait_rate}
use Rattle.line.specs.Laws.{KeepsIn, OperandStays, StartsWith, LedStarts, SendsOperand}
use Rattle.line.specs.declared.Kind.{Kind}
use Rattle.line.specs.declared.Kind.TheVariants.{Led, Rate}
use Rattle.line.specs.declared.Phase.{Phase}
use Rattle.line.specs.declared.Phase.TheVariants.{Idle, Awaiting, Ready}
use Rattle.line.specs.declared.Line.{Line}
use Rattle.line.specs.declared.Outcome.{Outcome}
use Rattle.line.proofs.Cases.{poll_cases, acknowledge_cases, failed_cases}

keeps_itself : (phase : Phase) → KeepsIn phase phase
keeps_itself (Idle turn) = tt
keeps_itself (Awaiting command) = record { kind = refl; value = refl }
keeps_itself (Ready command) = record { kind = refl; value = refl }

to_idle : (phase : Phase) (turn : Kind) → KeepsIn phase (Idle turn)
to_idle (Idle now) turn = tt
to_idle (Awaiting command) turn = tt
to_idle (Ready command) turn = tt

module _ (line : Line) where
  poll_keeps : (led : ℕ) → KeepsIn line.phase (poll_of line led).line.phase
  unfolding unchanged_of start_of send_of counted_of
  poll_keeps led =
      poll_cases (λ (o : Outcome). KeepsIn line.phase o.line.phase) line led (keeps_itself line.phase)
      (λ turn kind value e n. rw e tt)
      (λ command e. rw e (record { kind = refl; value = refl }))

  acknowledge_keeps : KeepsIn line.phase (acknowledge_of line).line.phase
  unfolding unchanged_of ended_of operand_of
  acknowledge_keeps =
      acknowledge_cases (λ (o : Outcome). KeepsIn line.phase o.line.phase) line (keeps_itself line.phase)
      (λ command e t. to_idle line.phase _)
      (λ command e t. rw e (record { kind = refl; value = refl }))

  failed_keeps : (marked : Line) → KeepsIn line.phase (reply_in line (failed_of marked) line.phase).line.phase
  unfolding unchanged_of ended_of
  failed_keeps marked =
      failed_cases (λ (o : Outcome). KeepsIn line.phase o.line.phase) line marked (keeps_itself line.phase)
      (λ command e b. rw e (record { kind = refl; value = refl }))
      (λ command e b. to_idle line.phase _)

pub operand_stays : OperandStays
unfolding resend_of time_out_of new_line wait_rate_of
operand_stays line (poll led) = poll_keeps line led
operand_stays line acknowledge = acknowledge_keeps line
operand_stays line resend = failed_keeps line (mark_resend_of line)
operand_stays line time_out = failed_keeps line line
operand_stays line restart = to_idle line.phase _
operand_stays line (wait_rate rate) = keeps_itself line.phase

pub starts_with : StartsWith
unfolding poll_of poll_in idle_poll_of start_next_of start_of send_of counted_of one_more_of when◌then◌else◌
starts_with line turn led kind value e n = simp (e, n)

pub led_starts : LedStarts
unfolding next_of unhandled_of in_turn_of first_of waiting_of when◌then◌else◌
led_starts line turn led due first = rw due (⊎_elim (λ now. rw now refl) (λ none. rw none (alone turn)) first)
  where
    alone : (turn : Kind) → in_turn_of turn (Some (Led, led)) (waiting_of None) ≡ Some (Led, led)
    alone Led = refl
    alone Rate = refl

pub sends_operand : SendsOperand
unfolding poll_of poll_in send_of due_of when◌then◌else◌
sends_operand line led command e t = simp (e, t)
