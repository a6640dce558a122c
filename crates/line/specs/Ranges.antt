-- The range of every number of a line, which no input leaves. Ranges.antt of proofs/ proves it.
-- Assumes nothing.
use Rattle.std.specs.Prelude.{ℕ, ◌<◌, ◌≤◌, Option, None, Some}
use Rattle.line.specs.State.{new_line}
use Rattle.line.specs.Inputs.{Input, poll, acknowledge, resend, time_out, restart, wait_rate, line_after}
use Rattle.line.specs.declared.Kind.{Kind}
use Rattle.line.specs.declared.Kind.TheVariants.{Led, Rate}
use Rattle.line.specs.declared.Command.{Command}
use Rattle.line.specs.declared.Phase.{Phase}
use Rattle.line.specs.declared.Phase.TheVariants.{Idle, Awaiting, Ready}
use Rattle.line.specs.declared.Line.{Line}

-- a LED value has three bits, a delay and rate seven
abbrev pub led_values : ℕ
led_values = 8

abbrev pub rate_values : ℕ
rate_values = 128

abbrev pub values_of : Kind → ℕ
values_of Led = led_values
values_of Rate = rate_values

abbrev pub SettingBelow : ℕ → Option ℕ → Type 0
SettingBelow values None = Unit {0}
SettingBelow values (Some value) = value < values

-- three sends of a byte, six bytes of a command
pub record CommandInRange (command : Command) : Type 0 where
  pub value : command.value < values_of command.kind
  pub sends : command.sends ≤ 3
  pub sent : command.sent ≤ 6

abbrev pub PhaseInRange : Phase → Type 0
PhaseInRange (Idle turn) = Unit {0}
PhaseInRange (Awaiting command) = CommandInRange command
PhaseInRange (Ready command) = CommandInRange command

pub record LineInRange (line : Line) : Type 0 where
  pub phase : PhaseInRange line.phase
  pub handled : SettingBelow led_values line.handled
  pub rate : SettingBelow rate_values line.rate
  pub done : line.marks.done < led_values

-- the value that an input brings
abbrev pub InputInRange : Input → Type 0
InputInRange (poll led) = led < led_values
InputInRange acknowledge = Unit {0}
InputInRange resend = Unit {0}
InputInRange time_out = Unit {0}
InputInRange restart = Unit {0}
InputInRange (wait_rate rate) = rate < rate_values

pub record LineStaysInRange : Type 0 where
  pub new : LineInRange new_line
  pub input : (line : Line) (input : Input) → InputInRange input → LineInRange line → LineInRange (line_after line input)
