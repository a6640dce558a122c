-- No input takes a number of the line out of its range.
-- Assumes nothing.
use Rattle.std.specs.Prelude.{Option, None, Some}
use Prim.Native.Nat.{ℕ, ◌≤◌, ◌<◌}
use native.Mathlib.Omega.{arith}
use mathlib.Core.Bool.{true, true≢false}
use mathlib.Core.Path.{◌≡◌, sym}
use borrow.Author.Tests.{ltb-true}
use lib.Dec.{ltb}
use Rattle.bits.proofs.Choice.{by_test, either}
use Rattle.line.specs.State.{new_line, wait_rate_of, unchanged_of, is_led_of}
use Rattle.line.specs.Poll.{one_more_of, counted_of, send_of, rate_left_of, start_of, waiting_of, unhandled_of, first_of, in_turn_of, next_of, poll_of}
use Rattle.line.specs.Reply.{mark_acknowledged_of, mark_resend_of, mark_done_of, mark_abandoned_of, operand_of, ended_of, failed_of, reply_in, acknowledge_of, resend_of, time_out_of}
use Rattle.line.specs.Inputs.{Input, poll, acknowledge, resend, time_out, restart, wait_rate, line_after}
use Rattle.line.specs.Ranges.{led_values, rate_values, values_of, SettingBelow, CommandInRange, LineInRange, InputInRange, LineStaysInRange}
use Rattle.line.specs.declared.Kind.{Kind}
use Rattle.line.specs.declared.Kind.TheVariants.{Led, Rate}
use Rattle.line.specs.declared.Command.{Command}
use Rattle.line.specs.declared.Phase.TheVariants.{Awaiting}
use Rattle.line.specs.declared.Line.{Line}
use Rattle.line.specs.declared.Outcome.{Outcome}
use Rattle.line.proofs.Cases.{poll_cases, acknowledge_cases, failed_cases}

-- ---- a send

one_more_within : (count most : ℕ) → one_more_of count most ≤ most
unfolding one_more_of
one_more_within count most =
    by_test (λ (n : ℕ). n ≤ most) (ltb count most) _ _ (λ t. let less : count < most = ltb-true count most t in omega arith) (λ _. omega arith)

send_in : (line : Line) (command : Command) → LineInRange line → command.value < values_of command.kind → LineInRange (send_of line command).line
unfolding send_of counted_of
send_in line command h v =
    record {
      phase = record { value = v; sends = one_more_within command.sends 3; sent = one_more_within command.sent 6 };
      handled = h.handled;
      rate = h.rate;
      done = h.done;
    }

-- ---- the start of a command

abbrev NextInRange : Option (Kind × ℕ) → Type 0
NextInRange None = Unit {0}
NextInRange (Some (kind, value)) = value < values_of kind

waiting_in : (rate : Option ℕ) → SettingBelow rate_values rate → NextInRange (waiting_of rate)
unfolding waiting_of
waiting_in None h = tt
waiting_in (Some rate) h = h

first_in : (first second : Option (Kind × ℕ)) → NextInRange first → NextInRange second → NextInRange (first_of first second)
unfolding first_of
first_in None second f s = s
first_in (Some (kind, value)) second f s = f

in_turn_in : (turn : Kind) (led rate : Option (Kind × ℕ)) → NextInRange led → NextInRange rate → NextInRange (in_turn_of turn led rate)
unfolding in_turn_of
in_turn_in Led led rate l r = search (first_in, l, r)
in_turn_in Rate led rate l r = search (first_in, l, r)

next_in : (line : Line) (turn : Kind) (led : ℕ) → LineInRange line → led < led_values → NextInRange (next_of line turn led)
unfolding next_of unhandled_of
next_in line turn led h l = in_turn_in turn _ _ (either NextInRange _ _ _ tt l) (waiting_in line.rate h.rate)

left_in_lem : (rate : Option ℕ) (kind : Kind) → SettingBelow rate_values rate → SettingBelow rate_values (rate_left_of rate kind)
unfolding rate_left_of
left_in_lem rate Led h = h
left_in_lem rate Rate h = tt

start_in : (line : Line) (kind : Kind) (value : ℕ) → LineInRange line → value < values_of kind → LineInRange (start_of line kind value).line
unfolding start_of
start_in line kind value h v =
    send_in _ _ (record { phase = h.phase; handled = h.handled; rate = left_in_lem line.rate kind h.rate; done = h.done }) v

-- ---- the end of a command

led_value_lem : (kind : Kind) (value : ℕ) → is_led_of kind ≡ true → value < values_of kind → value < led_values
unfolding is_led_of
led_value_lem Led value e v = v
led_value_lem Rate value e v = absurd (true≢false (sym e))

ended_in : (line : Line) (command : Command) → LineInRange line → CommandInRange command → LineInRange (ended_of line command)
unfolding ended_of
ended_in line command h k =
    record {
      phase = tt;
      handled = by_test (SettingBelow led_values) (is_led_of command.kind) _ _ (λ e. led_value_lem command.kind command.value e k.value) (λ _. h.handled);
      rate = h.rate;
      done = h.done;
    }

done_in : (line : Line) (command : Command) → LineInRange line → CommandInRange command → LineInRange (mark_done_of line command)
unfolding mark_done_of
done_in line command h k =
    by_test LineInRange (is_led_of command.kind) _ _
    (λ e. record { phase = h.phase; handled = h.handled; rate = h.rate; done = led_value_lem command.kind command.value e k.value }) (λ _. h)

-- ---- each call

module _ (line : Line) (h : LineInRange line) where
  awaited : (command : Command) → line.phase ≡ Awaiting command → CommandInRange command
  awaited command e = rw e at h.phase

  poll_in_lem : (led : ℕ) → led < led_values → LineInRange (poll_of line led).line
  unfolding unchanged_of
  poll_in_lem led l =
      poll_cases (λ (o : Outcome). LineInRange o.line) line led h
      (λ turn kind value e n. let found : NextInRange (Some (kind, value)) = rw n at (next_in line turn led h l) in start_in line kind value h found)
      (λ command e. let k : CommandInRange command = rw e at h.phase in send_in line command h k.value)

  acknowledge_in : LineInRange (acknowledge_of line).line
  unfolding unchanged_of mark_acknowledged_of operand_of
  acknowledge_in =
      let marked : LineInRange (mark_acknowledged_of line) = record { phase = h.phase; handled = h.handled; rate = h.rate; done = h.done } in
      acknowledge_cases (λ (o : Outcome). LineInRange o.line) line h
      (λ command e t. let k = awaited command e in ended_in _ command (done_in (mark_acknowledged_of line) command marked k) k)
      (λ command e t.
      let k = awaited command e in
      record { phase = record { value = k.value; sends = omega arith; sent = k.sent }; handled = h.handled; rate = h.rate; done = h.done })

  failed_in : (marked : Line) → LineInRange marked → LineInRange (reply_in line (failed_of marked) line.phase).line
  unfolding unchanged_of mark_abandoned_of
  failed_in marked m =
      failed_cases (λ (o : Outcome). LineInRange o.line) line marked h
      (λ command e b. record { phase = awaited command e; handled = m.handled; rate = m.rate; done = m.done })
      (λ command e b. ended_in (mark_abandoned_of marked) command (record { phase = m.phase; handled = m.handled; rate = m.rate; done = m.done }) (awaited command e))

  input_in : (input : Input) → InputInRange input → LineInRange (line_after line input)
  unfolding resend_of mark_resend_of time_out_of new_line wait_rate_of
  input_in (poll led) i = poll_in_lem led i
  input_in acknowledge i = acknowledge_in
  input_in resend i = failed_in (mark_resend_of line) (record { phase = h.phase; handled = h.handled; rate = h.rate; done = h.done })
  input_in time_out i = failed_in line h
  input_in restart i = record { phase = tt; handled = tt; rate = tt; done = omega arith }
  input_in (wait_rate rate) i = record { phase = h.phase; handled = h.handled; rate = i; done = h.done }

pub line_stays_in_range : LineStaysInRange
unfolding new_line
line_stays_in_range = record { new = record { phase = tt; handled = tt; rate = tt; done = omega arith }; input = λ line input i h. input_in line h input i }
