-- What the line guarantees whatever comes in, each law a proposition of its own, for proofs/ to prove.
-- Assumes nothing.
use Rattle.std.specs.Prelude.{ℕ, ◌+◌, ◌<◌, ◌≤◌, true, false, List, [], ◌∷◌, ◌⊎◌, ◌≡◌, None, Some}
use Rattle.bits.specs.Choice.{when◌then◌else◌}
use Rattle.line.specs.State.{new_line, sent_of, led_runs_of, is_value_of}
use Rattle.line.specs.Poll.{next_of, poll_of}
use Rattle.line.specs.Reply.{acknowledge_of, resend_of, time_out_of}
use Rattle.line.specs.Inputs.{Input, poll, acknowledge, resend, time_out, restart, wait_rate, line_after, line_after_all, sent_at}
use Rattle.line.specs.declared.Kind.{Kind}
use Rattle.line.specs.declared.Kind.TheVariants.{Led}
use Rattle.line.specs.declared.Command.{Command}
use Rattle.line.specs.declared.Phase.{Phase}
use Rattle.line.specs.declared.Phase.TheVariants.{Idle, Awaiting, Ready}
use Rattle.line.specs.declared.Line.{Line}
use Rattle.line.specs.declared.Answer.{Answer}
use Rattle.line.specs.declared.Answer.TheVariants.{Send, Quiet, Taken, Ignored, GivenUp}
use Rattle.line.specs.declared.Outcome.{Outcome}

-- ---- 1. three sends of a byte, six bytes of a command

-- the byte under way was sent at most so often; what the command sent besides is at most three sends of its first byte
pub record Counted (command : Command) (most : ℕ) : Type 0 where
  pub each : command.sends ≤ most
  pub all : command.sent ≤ command.sends + (when command.operand then 3 else 0)

-- a byte that is still to be sent has a send left
abbrev pub WithinIn : Phase → Type 0
WithinIn (Idle turn) = Unit {0}
WithinIn (Awaiting command) = Counted command 3
WithinIn (Ready command) = Counted command 2

abbrev pub Within : Line → Type 0
Within line = WithinIn line.phase

-- from a new line on no byte is sent more than three times; SendCounts says that the count is a true one
abbrev pub ThreeSends : Type 0
ThreeSends = (inputs : List Input) → Within (line_after_all new_line inputs)

-- and no command sends more than six bytes; TrueCounts says the same of this count
abbrev pub SixBytes : Type 0
SixBytes = (inputs : List Input) (input : Input) → sent_at (line_after_all new_line inputs) input ≤ 6

-- bytes that an answer sends
abbrev pub sends_by : Answer → ℕ
sends_by (Send byte) = 1
sends_by Quiet = 0
sends_by Taken = 0
sends_by Ignored = 0
sends_by GivenUp = 0

-- a command that runs on has this count
abbrev pub CarriedIn : Phase → ℕ → Type 0
CarriedIn (Idle turn) count = Unit {0}
CarriedIn (Awaiting command) count = command.sent ≡ count
CarriedIn (Ready command) count = command.sent ≡ count

-- the count shown is the one before and the byte sent now, at most six, and goes on with the command: no limit cuts it short
pub record Counts (line : Line) (outcome : Outcome) : Type 0 where
  pub shown : outcome.sent ≡ sent_of line + sends_by outcome.answer
  pub most : outcome.sent ≤ 6
  pub carried : CarriedIn outcome.line.phase outcome.sent

-- so it is at every call that answers
pub record TrueCount (line : Line) : Type 0 where
  pub poll : (led : ℕ) → Counts line (poll_of line led)
  pub acknowledge : Counts line (acknowledge_of line)
  pub resend : Counts line (resend_of line)
  pub time_out : Counts line (time_out_of line)

abbrev pub TrueCounts : Type 0
TrueCounts = (line : Line) → Within line → TrueCount line

-- sends of the byte under way
abbrev pub sends_in : Phase → ℕ
sends_in (Idle turn) = 0
sends_in (Awaiting command) = command.sends
sends_in (Ready command) = command.sends

-- a poll that sends adds one to the sends of the byte under way, any other poll none
abbrev pub SendCounts : Type 0
SendCounts =
    (line : Line) (led : ℕ) → Within line → sends_in (poll_of line led).line.phase ≡ sends_in line.phase + sends_by (poll_of line led).answer

-- FE and T before the third send leave the command and its counts as they are, for the next poll to send
abbrev pub SendsAgain : Type 0
SendsAgain =
    (line : Line) (command : Command) → line.phase ≡ Awaiting command → command.sends < 3 →
    ((resend_of line).line.phase ≡ Ready command) × ((time_out_of line).line.phase ≡ Ready command)

-- ---- 2. a LED value that was given up is not started again while the locks stand

-- the LED value is handled, and no LED command runs
pub record Settled (value : ℕ) (line : Line) : Type 0 where
  pub handled : line.handled ≡ Some value
  pub rests : led_runs_of line ≡ false

-- a command is given up, and leaves this LED value settled
pub record Abandons (value : ℕ) (outcome : Outcome) : Type 0 where
  pub answer : outcome.answer ≡ GivenUp
  pub settled : Settled value outcome.line

-- FE and T after the third send of either byte give a LED command up
abbrev pub GivesUp : Type 0
GivesUp =
    (line : Line) (command : Command) → line.phase ≡ Awaiting command → command.kind ≡ Led → 3 ≤ command.sends →
    Abandons command.value (resend_of line) × Abandons command.value (time_out_of line)

-- the locks stand at a LED value, and the line is not restarted
abbrev pub Standing : ℕ → Input → Type 0
Standing value (poll led) = led ≡ value
Standing value acknowledge = Unit {0}
Standing value resend = Unit {0}
Standing value time_out = Unit {0}
Standing value restart = ⊥
Standing value (wait_rate rate) = Unit {0}

abbrev pub AllStanding : ℕ → List Input → Type 0
AllStanding value [] = Unit {0}
AllStanding value (input ∷ inputs) = Standing value input × AllStanding value inputs

-- a settled value stays so while the locks stand
abbrev pub StaysSettled : Type 0
StaysSettled =
    (value : ℕ) (line : Line) (inputs : List Input) → AllStanding value inputs → Settled value line → Settled value (line_after_all line inputs)

-- and an idle poll then sends no ED
abbrev pub NoSecondStart : Type 0
NoSecondStart = (value : ℕ) (line : Line) (turn : Kind) → line.phase ≡ Idle turn → Settled value line → (poll_of line value).answer ≡ Send 0xED → ⊥

-- so whatever follows the giving up, no LED command runs while the locks stand
abbrev pub NotStartedAgain : Type 0
NotStartedAgain =
    (line : Line) (command : Command) → line.phase ≡ Awaiting command → command.kind ≡ Led → 3 ≤ command.sends →
    (inputs : List Input) → AllStanding command.value inputs →
    (led_runs_of (line_after_all (resend_of line).line inputs) ≡ false) × (led_runs_of (line_after_all (time_out_of line).line inputs) ≡ false)

-- ---- 3. the operand is the value fixed at the start

-- one command at two moments
pub record Same (command later : Command) : Type 0 where
  pub kind : later.kind ≡ command.kind
  pub value : later.value ≡ command.value

-- a command that runs later is this one
abbrev pub HoldsIn : Command → Phase → Type 0
HoldsIn command (Idle turn) = Unit {0}
HoldsIn command (Awaiting later) = Same command later
HoldsIn command (Ready later) = Same command later

-- a command that runs stays the one that runs, until it ends
abbrev pub KeepsIn : Phase → Phase → Type 0
KeepsIn (Idle turn) later = Unit {0}
KeepsIn (Awaiting command) later = HoldsIn command later
KeepsIn (Ready command) later = HoldsIn command later

-- no input changes the operand of a command that runs, neither a new rate nor a poll after the locks changed
abbrev pub OperandStays : Type 0
OperandStays = (line : Line) (input : Input) → KeepsIn line.phase (line_after line input).phase

-- a LED command has the LED value of its first poll
abbrev pub LedValueNow : Type 0
LedValueNow = (line : Line) (turn : Kind) (led value : ℕ) → next_of line turn led ≡ Some (Led, value) → value ≡ led

-- a command starts with its operand, and one send of one byte
abbrev pub StartsWith : Type 0
StartsWith =
    (line : Line) (turn : Kind) (led : ℕ) (kind : Kind) (value : ℕ) → line.phase ≡ Idle turn → next_of line turn led ≡ Some (kind, value) →
    (poll_of line led).line.phase ≡ Awaiting (record { kind = kind; value = value; operand = false; sends = 1; sent = 1 })

-- a due LED value that has the turn or is alone starts
abbrev pub LedStarts : Type 0
LedStarts =
    (line : Line) (turn : Kind) (led : ℕ) → is_value_of line.handled led ≡ false → (turn ≡ Led) ⊎ (line.rate ≡ None) →
    next_of line turn led ≡ Some (Led, led)

-- the poll that sends the operand sends that value, whatever the LED value is by then
abbrev pub SendsOperand : Type 0
SendsOperand =
    (line : Line) (led : ℕ) (command : Command) → line.phase ≡ Ready command → command.operand ≡ true →
    (poll_of line led).answer ≡ Send command.value
