-- The counts are true ones, that no limit cuts short; so no command sends more than six bytes.
-- Assumes nothing.
use Prim.Native.Nat.{ℕ, ◌+◌, ◌<◌, ◌≤◌}
use native.Mathlib.Omega.{arith}
use mathlib.Core.Path.{◌≡◌, refl, ap}
use borrow.Author.Tests.{lt-ltb}
use Rattle.bits.specs.Choice.{when◌then◌else◌}
use Rattle.line.specs.State.{new_line, sent_in, sent_of, unchanged_of}
use Rattle.line.specs.Poll.{one_more_of, counted_of, send_of, start_of, poll_of}
use Rattle.line.specs.Reply.{operand_of, mark_resend_of, ended_of, failed_of, reply_in, acknowledge_of, resend_of, time_out_of}
use Rattle.line.specs.Inputs.{Input, poll, acknowledge, resend, time_out, restart, wait_rate, line_after_all, sent_at}
use Rattle.line.specs.Laws.{Counted, WithinIn, Within, SixBytes, sends_by, CarriedIn, Counts, TrueCounts, sends_in, SendCounts, SendsAgain}
use Rattle.line.specs.declared.Command.{Command}
use Rattle.line.specs.declared.Phase.{Phase}
use Rattle.line.specs.declared.Phase.TheVariants.{Idle, Awaiting, Ready}
use Rattle.line.specs.declared.Line.{Line}
use Rattle.line.specs.declared.Answer.{Answer}
use Rattle.line.specs.declared.Answer.TheVariants.{Quiet, Taken, Ignored, GivenUp}
use Rattle.line.specs.declared.Outcome.{Outcome}
use Rattle.line.proofs.Cases.{poll_cases, acknowledge_cases, failed_cases}
use Rattle.line.proofs.Within.{one_more, earlier, sent_below, three_sends}

sent_at_lem : (line : Line) (phase : Phase) → line.phase ≡ phase → sent_of line ≡ sent_in phase
unfolding sent_of
sent_at_lem line phase e = ap sent_in e

carried_in : (phase : Phase) → CarriedIn phase (sent_in phase)
unfolding sent_in
carried_in (Idle turn) = tt
carried_in (Awaiting command) = refl
carried_in (Ready command) = refl

most_in : (phase : Phase) → WithinIn phase → sent_in phase ≤ 6
unfolding sent_in
most_in (Idle turn) h = omega arith
most_in (Awaiting command) h = omega (arith, h.each, h.all, earlier command.operand)
most_in (Ready command) h = omega (arith, h.each, h.all, earlier command.operand)

module _ (line : Line) (h : Within line) where
  pub sent_most : sent_of line ≤ 6
  unfolding sent_of
  sent_most = most_in line.phase h

  -- an outcome that sends nothing shows the count that stands
  stands : (later : Line) (answer : Answer) (count : ℕ) → sends_by answer ≡ 0 → sent_of line ≡ count →
      CarriedIn later.phase count → Counts line (record { line = later; answer = answer; sent = count })
  stands later answer count n e k = record { shown = omega arith; most = omega (arith, sent_most); carried = k }

  unchanged : (answer : Answer) → sends_by answer ≡ 0 → Counts line (unchanged_of line answer)
  unfolding unchanged_of sent_of
  unchanged answer n = stands line answer (sent_of line) n refl (carried_in line.phase)

  pub poll_counts : (led : ℕ) → Counts line (poll_of line led)
  unfolding start_of send_of counted_of one_more_of sent_in when◌then◌else◌
  poll_counts led =
      poll_cases (Counts line) line led (unchanged Quiet refl)
      (λ turn kind value e n. record { shown = simp (sent_at_lem line (Idle turn) e); most = omega arith; carried = refl })
      (λ command e.
      let k : Counted command 2 = rw e at h in
      let one : one_more_of command.sent 6 ≡ command.sent + 1 = one_more command.sent 6 (sent_below command k) in
      record {
        shown = omega (arith, sent_at_lem line (Ready command) e);
        most = omega (arith, sent_below command k);
        carried = refl;
      })

  pub acknowledge_counts : Counts line (acknowledge_of line)
  unfolding ended_of operand_of sent_in
  acknowledge_counts =
      acknowledge_cases (Counts line) line (unchanged Ignored refl)
      (λ command e t. stands _ Taken command.sent refl (sent_at_lem line (Awaiting command) e) tt)
      (λ command e t. stands _ Taken command.sent refl (sent_at_lem line (Awaiting command) e) refl)

  failed_counts : (marked : Line) → Counts line (reply_in line (failed_of marked) line.phase)
  unfolding ended_of sent_in
  failed_counts marked =
      failed_cases (Counts line) line marked (unchanged Ignored refl)
      (λ command e b. stands _ Taken command.sent refl (sent_at_lem line (Awaiting command) e) refl)
      (λ command e b. stands _ GivenUp command.sent refl (sent_at_lem line (Awaiting command) e) tt)

  pub resend_counts : Counts line (resend_of line)
  unfolding resend_of
  resend_counts = failed_counts (mark_resend_of line)

  pub time_out_counts : Counts line (time_out_of line)
  unfolding time_out_of
  time_out_counts = failed_counts line

pub true_counts : TrueCounts
true_counts line h =
    record {
      poll = poll_counts line h;
      acknowledge = acknowledge_counts line h;
      resend = resend_counts line h;
      time_out = time_out_counts line h;
    }

pub send_counts : SendCounts
unfolding unchanged_of start_of send_of counted_of one_more_of when◌then◌else◌
send_counts line led h =
    poll_cases (λ (o : Outcome). sends_in o.line.phase ≡ sends_in line.phase + sends_by o.answer) line led (omega arith)
    (λ turn kind value e n. simp e)
    (λ command e.
    let k : Counted command 2 = rw e at h in
    let one : one_more_of command.sends 3 ≡ command.sends + 1 = one_more command.sends 3 (omega (arith, k.each)) in
    simp e one)

-- the line that FE or T leaves before the third send
again : (line marked : Line) (command : Command) → line.phase ≡ Awaiting command → command.sends < 3 →
    (reply_in line (failed_of marked) line.phase).line.phase ≡ Ready command
unfolding reply_in failed_of when◌then◌else◌
again line marked command e b = simp (e, lt-ltb command.sends 3 b)

pub sends_again : SendsAgain
unfolding resend_of time_out_of
sends_again line command e b = (again line (mark_resend_of line) command e b, again line line command e b)

-- ---- no command sends more than six bytes

most_at : (line : Line) → Within line → (input : Input) → sent_at line input ≤ 6
most_at line h (poll led) = (poll_counts line h led).most
most_at line h acknowledge = (acknowledge_counts line h).most
most_at line h resend = (resend_counts line h).most
most_at line h time_out = (time_out_counts line h).most
most_at line h restart = omega arith
most_at line h (wait_rate rate) = sent_most line h

pub six_bytes : SixBytes
six_bytes inputs = most_at (line_after_all new_line inputs) (three_sends inputs)
