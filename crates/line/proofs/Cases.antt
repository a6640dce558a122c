-- The cases of each call, once for every law: what holds of each of its outcomes holds of the call.
-- Assumes nothing.
use Rattle.std.specs.Prelude.{Option, None, Some}
use Prim.Native.Nat.{ℕ, ◌<◌, ◌≤◌}
use mathlib.Core.Bool.{true, false}
use mathlib.Core.Path.{◌≡◌, refl, ap}
use Rattle.std.proofs.lemmas.Option.{same_Some}
use lib.Dec.{ltb}
use borrow.Author.Tests.{ltb-true, ltb-false}
use Rattle.bits.proofs.Choice.{by_test}
use Rattle.bits.proofs.Tests.{not_both}
use Rattle.line.specs.State.{is_led_of, other_of, in_phase_of, unchanged_of}
use Rattle.line.specs.Poll.{next_of, send_of, start_of, start_next_of, idle_poll_of, poll_in, poll_of}
use Rattle.line.specs.Reply.{mark_acknowledged_of, mark_done_of, mark_abandoned_of, ended_of, operand_of, acknowledged_of, failed_of, reply_in, acknowledge_of}
use Rattle.line.specs.declared.Kind.{Kind}
use Rattle.line.specs.declared.Kind.TheVariants.{Led, Rate}
use Rattle.line.specs.declared.Command.{Command}
use Rattle.line.specs.declared.Phase.{Phase}
use Rattle.line.specs.declared.Phase.TheVariants.{Idle, Awaiting, Ready}
use Rattle.line.specs.declared.Line.{Line}
use Rattle.line.specs.declared.Answer.{Answer}
use Rattle.line.specs.declared.Answer.TheVariants.{Quiet, Taken, Ignored, GivenUp}
use Rattle.line.specs.declared.Outcome.{Outcome}

abbrev pub outcome : Line → Answer → Command → Outcome
outcome line answer command = record { line = line; answer = answer; sent = command.sent }

-- whose turn a command leaves, by its test
pub after_led : (kind : Kind) → is_led_of kind ≡ true → other_of kind ≡ Rate
unfolding other_of is_led_of
after_led Led t = refl
after_led Rate t = not_both t refl

pub after_rate : (kind : Kind) → is_led_of kind ≡ false → other_of kind ≡ Led
unfolding other_of is_led_of
after_rate Led t = not_both refl t
after_rate Rate t = refl

-- commands to start that are equal have one kind and one operand
pub same_start : {kind other : Kind} {value operand : ℕ} →
    ◌≡◌ {A = Option (Kind × ℕ)} (Some (kind, value)) (Some (other, operand)) → (kind ≡ other) × (value ≡ operand)
same_start {kind} {other} {value} {operand} e =
    let same = same_Some {A = Kind × ℕ} (kind, value) (other, operand) e in
    (ap (λ (start : Kind × ℕ). start.0) same, ap (λ (start : Kind × ℕ). start.1) same)

module _ (P : Outcome → Type 0) (line : Line) where
  -- ---- a poll
  next_cases : (next : Option (Kind × ℕ)) → P (unchanged_of line Quiet) → ((kind : Kind) (value : ℕ) → next ≡ Some (kind, value) → P (start_of line kind value)) → P (start_next_of line next)
  unfolding start_next_of
  next_cases None quiet start = quiet
  next_cases (Some (kind, value)) quiet start = start kind value refl

  poll_in_lem : (led : ℕ) (phase : Phase) → P (unchanged_of line Quiet) →
      ((turn kind : Kind) (value : ℕ) → phase ≡ Idle turn → next_of line turn led ≡ Some (kind, value) → P (start_of line kind value)) →
      ((command : Command) → phase ≡ Ready command → P (send_of line command)) → P (poll_in line led phase)
  unfolding poll_in idle_poll_of
  poll_in_lem led (Idle turn) quiet start ready = next_cases (next_of line turn led) quiet (λ kind value. start turn kind value refl)
  poll_in_lem led (Awaiting command) quiet start ready = quiet
  poll_in_lem led (Ready command) quiet start ready = ready command refl

  pub poll_cases : (led : ℕ) → P (unchanged_of line Quiet) →
      ((turn kind : Kind) (value : ℕ) → line.phase ≡ Idle turn → next_of line turn led ≡ Some (kind, value) → P (start_of line kind value)) →
      ((command : Command) → line.phase ≡ Ready command → P (send_of line command)) → P (poll_of line led)
  unfolding poll_of
  poll_cases led = poll_in_lem led line.phase

  -- ---- a reply
  reply_in_lem : (taken : Command → Outcome) (phase : Phase) → P (unchanged_of line Ignored) →
      ((command : Command) → phase ≡ Awaiting command → P (taken command)) → P (reply_in line taken phase)
  unfolding reply_in
  reply_in_lem taken (Idle turn) ignored awaited = ignored
  reply_in_lem taken (Awaiting command) ignored awaited = awaited command refl
  reply_in_lem taken (Ready command) ignored awaited = ignored

  pub acknowledge_cases : P (unchanged_of line Ignored) →
      ((command : Command) → line.phase ≡ Awaiting command → command.operand ≡ true →
      P (outcome (ended_of (mark_done_of (mark_acknowledged_of line) command) command) Taken command)) →
      ((command : Command) → line.phase ≡ Awaiting command → command.operand ≡ false →
      P (outcome (in_phase_of (mark_acknowledged_of line) (Ready (operand_of command))) Taken command)) → P (acknowledge_of line)
  unfolding acknowledge_of acknowledged_of
  acknowledge_cases ignored ends goes =
      reply_in_lem (acknowledged_of (mark_acknowledged_of line)) line.phase ignored
      (λ command e. by_test (λ (l : Line). P (outcome l Taken command)) command.operand _ _ (ends command e) (goes command e))

  -- FE and T, each with the line that it marks
  pub failed_cases : (marked : Line) → P (unchanged_of line Ignored) →
      ((command : Command) → line.phase ≡ Awaiting command → command.sends < 3 → P (outcome (in_phase_of marked (Ready command)) Taken command)) →
      ((command : Command) → line.phase ≡ Awaiting command → 3 ≤ command.sends →
      P (outcome (ended_of (mark_abandoned_of marked) command) GivenUp command)) → P (reply_in line (failed_of marked) line.phase)
  unfolding failed_of
  failed_cases marked ignored again gives =
      reply_in_lem (failed_of marked) line.phase ignored
      (λ command e.
      by_test P (ltb command.sends 3) _ _
      (λ t. again command e (ltb-true command.sends 3 t))
      (λ t. gives command e (ltb-false command.sends 3 t)))
