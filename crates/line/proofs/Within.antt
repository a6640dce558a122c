-- Each call keeps the counts within their limits: three sends of a byte, and a command's count beside them.
-- Assumes nothing.
use Prim.Native.Nat.{ℕ, ◌+◌, ◌<◌, ◌≤◌}
use native.Mathlib.Omega.{arith}
use mathlib.Core.Bool.{Bool}
use mathlib.Core.List.{List, [], ◌∷◌}
use mathlib.Core.Path.{◌≡◌}
use borrow.Author.Tests.{lt-ltb}
use Rattle.bits.specs.Choice.{when◌then◌else◌}
use Rattle.bits.proofs.Choice.{either}
use Rattle.line.specs.State.{new_line, wait_rate_of, unchanged_of}
use Rattle.line.specs.Poll.{one_more_of, counted_of, send_of, start_of, poll_of}
use Rattle.line.specs.Reply.{operand_of, mark_resend_of, ended_of, failed_of, reply_in, acknowledge_of, resend_of, time_out_of}
use Rattle.line.specs.Inputs.{Input, poll, acknowledge, resend, time_out, restart, wait_rate, line_after, line_after_all}
use Rattle.line.specs.Laws.{Counted, Within, ThreeSends}
use Rattle.line.specs.declared.Command.{Command}
use Rattle.line.specs.declared.Line.{Line}
use Rattle.line.specs.declared.Outcome.{Outcome}
use Rattle.line.proofs.Cases.{poll_cases, acknowledge_cases, failed_cases}

pub one_more : (count most : ℕ) → count < most → one_more_of count most ≡ count + 1
unfolding one_more_of when◌then◌else◌
one_more count most h = simp (lt-ltb count most h)

-- the share of the first byte in a command's count
pub earlier : (operand : Bool) → (when operand then 3 else 0) ≤ 3
earlier operand = either (λ (n : ℕ). n ≤ 3) operand 3 0 (omega arith) (omega arith)

-- a send that is left for its byte is left for its command
pub sent_below : (command : Command) → Counted command 2 → command.sent < 6
sent_below command h = omega (arith, h.each, h.all, earlier command.operand)

-- ---- each call keeps the counts within their limits

send_within : (line : Line) (command : Command) → Counted command 2 → Within (send_of line command).line
unfolding send_of counted_of
send_within line command h =
    let one : one_more_of command.sends 3 ≡ command.sends + 1 = one_more command.sends 3 (omega (arith, h.each)) in
    let two : one_more_of command.sent 6 ≡ command.sent + 1 = one_more command.sent 6 (sent_below command h) in
    record { each = omega (arith, h.each); all = omega (arith, h.all) }

module _ (line : Line) where
  pub poll_within : (led : ℕ) → Within line → Within (poll_of line led).line
  unfolding unchanged_of start_of
  poll_within led h =
      poll_cases (λ (o : Outcome). Within o.line) line led h
      (λ turn kind value e n. send_within _ _ (record { each = omega arith; all = omega arith }))
      (λ command e. send_within line command (rw e at h))

  pub acknowledge_within : Within line → Within (acknowledge_of line).line
  unfolding unchanged_of ended_of operand_of when◌then◌else◌
  acknowledge_within h =
      acknowledge_cases (λ (o : Outcome). Within o.line) line h (λ command e t. tt)
      (λ command e t.
      let k : Counted command 3 = rw e at h in
      let a : command.sent ≤ command.sends + 0 = simp t at k.all in
      record { each = omega arith; all = omega (arith, k.each) })

  failed_within : (marked : Line) → Within line → Within (reply_in line (failed_of marked) line.phase).line
  unfolding unchanged_of ended_of
  failed_within marked h =
      failed_cases (λ (o : Outcome). Within o.line) line marked h
      (λ command e b. let k : Counted command 3 = rw e at h in record { each = omega arith; all = k.all })
      (λ command e b. tt)

  pub resend_within : Within line → Within (resend_of line).line
  unfolding resend_of
  resend_within = failed_within (mark_resend_of line)

  pub time_out_within : Within line → Within (time_out_of line).line
  unfolding time_out_of
  time_out_within = failed_within line

  pub wait_rate_within : (rate : ℕ) → Within line → Within (wait_rate_of line rate)
  unfolding wait_rate_of
  wait_rate_within rate h = h

pub new_within : Within new_line
unfolding new_line
new_within = tt

pub kept : (line : Line) (input : Input) → Within line → Within (line_after line input)
kept line (poll led) h = poll_within line led h
kept line acknowledge h = acknowledge_within line h
kept line resend h = resend_within line h
kept line time_out h = time_out_within line h
kept line restart h = new_within
kept line (wait_rate rate) h = wait_rate_within line rate h

pub kept_all : (line : Line) (inputs : List Input) → Within line → Within (line_after_all line inputs)
kept_all line [] h = h
kept_all line (input ∷ inputs) h = kept_all (line_after line input) inputs (kept line input h)

pub three_sends : ThreeSends
three_sends inputs = kept_all new_line inputs new_within
