-- A LED value that was given up is not started again while the locks stand.
-- Assumes nothing.
use Rattle.std.specs.Prelude.{Option, None, Some}
use Prim.Native.Nat.{ℕ, ◌≤◌}
use native.Mathlib.Omega.{arith}
use mathlib.Core.Bool.{false}
use mathlib.Core.List.{[], ◌∷◌}
use mathlib.Core.Path.{◌≡◌, refl, sym}
use borrow.Author.Tests.{le-ltb, eq-eqb}
use Rattle.bits.specs.Choice.{when◌then◌else◌}
use Rattle.line.specs.State.{wait_rate_of, is_led_of, led_runs_in, led_runs_of, is_value_of, unchanged_of}
use Rattle.line.specs.Poll.{waiting_of, unhandled_of, first_of, in_turn_of, next_of, first_byte_of, due_of, counted_of, send_of, start_of, poll_of}
use Rattle.line.specs.Reply.{mark_acknowledged_of, mark_abandoned_of, operand_of, mark_resend_of, mark_done_of, ended_of, failed_of, reply_in, acknowledge_of, resend_of, time_out_of}
use Rattle.line.specs.Inputs.{Input, poll, acknowledge, resend, time_out, restart, wait_rate, line_after}
use Rattle.line.specs.Laws.{Settled, Abandons, GivesUp, Standing, StaysSettled, NoSecondStart, NotStartedAgain}
use Rattle.line.specs.declared.Kind.{Kind}
use Rattle.line.specs.declared.Kind.TheVariants.{Led, Rate}
use Rattle.line.specs.declared.Command.{Command}
use Rattle.line.specs.declared.Phase.TheVariants.{Awaiting}
use Rattle.line.specs.declared.Line.{Line}
use Rattle.line.specs.declared.Answer.TheVariants.{Send}
use Rattle.line.specs.declared.Outcome.{Outcome}
use Rattle.line.proofs.Cases.{same_start, poll_cases, acknowledge_cases, failed_cases}

-- ---- giving up settles the value

gives_up_at : (line marked : Line) (command : Command) → line.phase ≡ Awaiting command → command.kind ≡ Led → 3 ≤ command.sends →
    Abandons command.value (reply_in line (failed_of marked) line.phase)
unfolding reply_in failed_of ended_of is_led_of led_runs_of led_runs_in when◌then◌else◌
gives_up_at line marked command e k b =
    simp (e, le-ltb command.sends 3 b) (record { answer = refl; settled = record { handled = simp k; rests = refl } })

pub gives_up : GivesUp
unfolding resend_of time_out_of
gives_up line command e k b = (gives_up_at line (mark_resend_of line) command e k b, gives_up_at line line command e k b)

-- ---- a settled value stays settled

-- with its value handled, only a waiting rate starts
waiting_rate : (rate : Option ℕ) (kind : Kind) (value : ℕ) → waiting_of rate ≡ Some (kind, value) → kind ≡ Rate
unfolding waiting_of
waiting_rate None kind value e = cc
waiting_rate (Some known) kind value e = sym (same_start e).0

alone : (turn : Kind) (rate : Option ℕ) (kind : Kind) (value : ℕ) → in_turn_of turn None (waiting_of rate) ≡ Some (kind, value) → kind ≡ Rate
unfolding in_turn_of first_of waiting_of
alone Led rate kind value e = waiting_rate rate kind value e
alone Rate None kind value e = cc
alone Rate (Some known) kind value e = sym (same_start e).0

next_rate : (value : ℕ) (line : Line) → line.handled ≡ Some value → (turn kind : Kind) (operand : ℕ) →
    next_of line turn value ≡ Some (kind, operand) → kind ≡ Rate
unfolding next_of unhandled_of is_value_of when◌then◌else◌
next_rate value line h turn kind operand e =
    alone turn line.rate kind operand (simp (h, eq-eqb value value refl) at e)

module _ (value : ℕ) (line : Line) (s : Settled value line) where
  pub poll_settled : Settled value (poll_of line value).line
  unfolding unchanged_of start_of send_of counted_of led_runs_of led_runs_in is_led_of
  poll_settled =
      poll_cases (λ (o : Outcome). Settled value o.line) line value s
      (λ turn kind operand e n. record { handled = s.handled; rests = simp (next_rate value line s.handled turn kind operand n) })
      (λ command e. record { handled = s.handled; rests = simp e at s.rests })

  -- the command whose reply is awaited is no LED command
  rate_runs : (command : Command) → line.phase ≡ Awaiting command → is_led_of command.kind ≡ false
  unfolding led_runs_of led_runs_in
  rate_runs command e = simp e at s.rests

  -- and its end leaves the value that is handled
  ended_settled : (marked : Line) (command : Command) → marked.handled ≡ line.handled → is_led_of command.kind ≡ false →
      Settled value (ended_of marked command)
  unfolding ended_of led_runs_of led_runs_in when◌then◌else◌
  ended_settled marked command m r = record { handled = simp (r, m) s.handled; rests = refl }

  pub acknowledge_settled : Settled value (acknowledge_of line).line
  unfolding unchanged_of mark_acknowledged_of mark_done_of operand_of led_runs_of led_runs_in when◌then◌else◌
  acknowledge_settled =
      acknowledge_cases (λ (o : Outcome). Settled value o.line) line s
      (λ command e t. ended_settled _ command (simp (rate_runs command e)) (rate_runs command e))
      (λ command e t. record { handled = s.handled; rests = rate_runs command e })

  failed_settled : (marked : Line) → marked.handled ≡ line.handled → Settled value (reply_in line (failed_of marked) line.phase).line
  unfolding unchanged_of mark_abandoned_of led_runs_of led_runs_in
  failed_settled marked m =
      failed_cases (λ (o : Outcome). Settled value o.line) line marked s
      (λ command e b. record { handled = rw m s.handled; rests = rate_runs command e })
      (λ command e b. ended_settled _ command m (rate_runs command e))

  pub resend_settled : Settled value (resend_of line).line
  unfolding resend_of mark_resend_of
  resend_settled = failed_settled (mark_resend_of line) refl

  pub time_out_settled : Settled value (time_out_of line).line
  unfolding time_out_of
  time_out_settled = failed_settled line refl

  pub wait_rate_settled : (rate : ℕ) → Settled value (wait_rate_of line rate)
  unfolding wait_rate_of led_runs_of
  wait_rate_settled rate = record { handled = s.handled; rests = s.rests }

  pub settled_after : (input : Input) → Standing value input → Settled value (line_after line input)
  settled_after (poll led) e = rw e poll_settled
  settled_after acknowledge h = acknowledge_settled
  settled_after resend h = resend_settled
  settled_after time_out h = time_out_settled
  settled_after restart h = absurd h
  settled_after (wait_rate rate) h = wait_rate_settled rate

pub stays_settled : StaysSettled
stays_settled value line [] h s = s
stays_settled value line (input ∷ inputs) h s =
    stays_settled value (line_after line input) inputs h.1 (settled_after value line s input h.0)

pub not_started_again : NotStartedAgain
not_started_again line command e k b inputs h =
    let g : Abandons command.value (resend_of line) × Abandons command.value (time_out_of line) = gives_up line command e k b in (
      (stays_settled command.value (resend_of line).line inputs h g.0.settled).rests,
      (stays_settled command.value (time_out_of line).line inputs h g.1.settled).rests,
    )

-- ---- a settled value is not started

pub no_second_start : NoSecondStart
unfolding unchanged_of start_of send_of due_of first_byte_of when◌then◌else◌
no_second_start value line idle i s =
    poll_cases (λ (o : Outcome). o.answer ≡ Send 0xED → ⊥) line value
    (λ q. let z : ◌≡◌ {A = ℕ} 0 1 = cc in omega arith)
    (λ turn kind operand e n q.
    let r : kind ≡ Rate = next_rate value line s.handled turn kind operand n in
    let z : ◌≡◌ {A = ℕ} 0xF3 0xED = cc in
    omega arith)
    (λ command e q. let z : ◌≡◌ {A = ℕ} 0 1 = cc in omega arith)
