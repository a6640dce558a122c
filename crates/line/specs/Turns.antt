-- Turns, document 02, W-208: what a due LED value and a waiting rate wait for. Turns.antt of proofs/ proves each sentence.
-- Assumes nothing.
use Rattle.std.specs.Prelude.{ℕ, ◌+◌, ◌-◌, ◌≤◌, false, List, [], ◌∷◌, ◌≡◌, Option, Some}
use Rattle.bits.specs.Choice.{when◌then◌else◌}
use Rattle.line.specs.State.{new_line, is_led_of, other_of, is_value_of}
use Rattle.line.specs.Poll.{first_byte_of, start_of, poll_of}
use Rattle.line.specs.Reply.{acknowledge_of, resend_of, time_out_of}
use Rattle.line.specs.Inputs.{Input, poll, acknowledge, resend, time_out, restart, wait_rate, line_after}
use Rattle.line.specs.Laws.{Within, sends_by, Standing}
use Rattle.line.specs.declared.Kind.{Kind}
use Rattle.line.specs.declared.Kind.TheVariants.{Led, Rate}
use Rattle.line.specs.declared.Command.{Command}
use Rattle.line.specs.declared.Phase.{Phase}
use Rattle.line.specs.declared.Phase.TheVariants.{Idle, Awaiting, Ready}
use Rattle.line.specs.declared.Line.{Line}
use Rattle.line.specs.declared.Answer.{Answer}
use Rattle.line.specs.declared.Answer.TheVariants.{Send, Quiet, Taken, Ignored, GivenUp}
use Rattle.line.specs.declared.Outcome.{Outcome}

-- ---- 1. the bytes ahead of a command

-- to a command are left: three sends of the byte under way less those made, and three of an operand that is still to come
abbrev pub left_of : Command → ℕ
left_of command = 3 - command.sends + (when command.operand then 0 else 3)

abbrev pub left_in : Phase → ℕ
left_in (Idle turn) = 0
left_in (Awaiting command) = left_of command
left_in (Ready command) = left_of command

-- whose turn it is, or will be when the command that runs has ended
abbrev pub turn_in : Phase → Kind
turn_in (Idle turn) = turn
turn_in (Awaiting command) = other_of command.kind
turn_in (Ready command) = other_of command.kind

-- the other kind's command goes first where the turn is its
abbrev pub first_in_turn : Kind → Kind → ℕ
first_in_turn Led Led = 0
first_in_turn Led Rate = 6
first_in_turn Rate Led = 6
first_in_turn Rate Rate = 0

-- what may be sent before a command of a kind starts
abbrev pub ahead_of : Kind → Line → ℕ
ahead_of kind line = left_in line.phase + first_in_turn kind (turn_in line.phase)

-- a command that runs has sent a byte
abbrev pub BegunIn : Phase → Type 0
BegunIn (Idle turn) = Unit {0}
BegunIn (Awaiting command) = 1 ≤ command.sent
BegunIn (Ready command) = 1 ≤ command.sent

abbrev pub Begun : Line → Type 0
Begun line = BegunIn line.phase

pub record StaysBegun : Type 0 where
  pub new : Begun new_line
  pub input : (line : Line) (input : Input) → Within line → Begun line → Begun (line_after line input)

-- so at most 5 and 6 are ahead
abbrev pub ElevenAhead : Type 0
ElevenAhead = (kind : Kind) (line : Line) → Within line → Begun line → ahead_of kind line ≤ 11

-- ---- 2. a command that is wanted

-- the LED value started last: that of the LED command that runs, else the last handled
abbrev pub started_in : Option ℕ → Phase → Option ℕ
started_in handled (Idle turn) = handled
started_in handled (Awaiting command) = when is_led_of command.kind then Some command.value else handled
started_in handled (Ready command) = when is_led_of command.kind then Some command.value else handled

abbrev pub started_of : Line → Option ℕ
started_of line = started_in line.handled line.phase

-- a LED value is due where another was started last; a rate waits
abbrev pub Wanted : Kind → ℕ → Line → Type 0
Wanted Led value line = is_value_of (started_of line) value ≡ false
Wanted Rate rate line = line.rate ≡ Some rate

-- no other rate comes, and no R
abbrev pub KeepsRate : Input → Type 0
KeepsRate (poll led) = Unit {0}
KeepsRate acknowledge = Unit {0}
KeepsRate resend = Unit {0}
KeepsRate time_out = Unit {0}
KeepsRate restart = ⊥
KeepsRate (wait_rate rate) = ⊥

-- an input that leaves the command wanted: the locks stand at the LED value, or the rate is kept
abbrev pub Keeps : Kind → ℕ → Input → Type 0
Keeps Led value input = Standing value input
Keeps Rate rate input = KeepsRate input

-- ---- 3. it comes to its turn

-- the bytes that an input has the line send
abbrev pub bytes_at : Line → Input → ℕ
bytes_at line (poll led) = sends_by (poll_of line led).answer
bytes_at line acknowledge = sends_by (acknowledge_of line).answer
bytes_at line resend = sends_by (resend_of line).answer
bytes_at line time_out = sends_by (time_out_of line).answer
bytes_at line restart = 0
bytes_at line (wait_rate rate) = 0

-- the first byte of a kind's command is the one byte that it has sent
pub record SendsFirst (kind : Kind) (outcome : Outcome) : Type 0 where
  pub answer : outcome.answer ≡ Send (first_byte_of kind)
  pub sent : outcome.sent ≡ 1

abbrev pub SendsFirstAt : Kind → Line → Input → Type 0
SendsFirstAt kind line (poll led) = SendsFirst kind (poll_of line led)
SendsFirstAt kind line acknowledge = ⊥
SendsFirstAt kind line resend = ⊥
SendsFirstAt kind line time_out = ⊥
SendsFirstAt kind line restart = ⊥
SendsFirstAt kind line (wait_rate rate) = ⊥

-- a wanted command starts with its operand, or stays wanted; then no first byte of its kind is sent, and each byte sent is one less ahead of it
pub data Fate (kind : Kind) (operand : ℕ) (line : Line) (input : Input) : Type 0 where
  starts : (led : ℕ) → input ≡ poll led → poll_of line led ≡ start_of line kind operand → Fate kind operand line input
  waits :
      Wanted kind operand (line_after line input) → (SendsFirstAt kind line input → ⊥) →
      bytes_at line input + ahead_of kind (line_after line input) ≤ ahead_of kind line → Fate kind operand line input

abbrev pub ComesToItsTurn : Type 0
ComesToItsTurn =
    (kind : Kind) (operand : ℕ) (line : Line) (input : Input) → Within line → Begun line → Wanted kind operand line →
    Keeps kind operand input → Fate kind operand line input

-- ---- 4. the replies meanwhile

-- FA, FE or a time-out, where one is awaited
abbrev pub taken_by : Answer → ℕ
taken_by (Send byte) = 0
taken_by Quiet = 0
taken_by Taken = 1
taken_by Ignored = 0
taken_by GivenUp = 1

abbrev pub replies_at : Line → Input → ℕ
replies_at line (poll led) = taken_by (poll_of line led).answer
replies_at line acknowledge = taken_by (acknowledge_of line).answer
replies_at line resend = taken_by (resend_of line).answer
replies_at line time_out = taken_by (time_out_of line).answer
replies_at line restart = 0
replies_at line (wait_rate rate) = 0

-- over a list of inputs
abbrev pub total_over : (Line → Input → ℕ) → Line → List Input → ℕ
total_over counted line [] = 0
total_over counted line (input ∷ inputs) = counted line input + total_over counted (line_after line input) inputs

-- each byte has one reply at most, and a byte sent before may have its reply yet: so twelve replies at most go with eleven bytes
abbrev pub OneReplyEach : Type 0
OneReplyEach = (line : Line) (inputs : List Input) → total_over replies_at line inputs ≤ total_over bytes_at line inputs + 1
