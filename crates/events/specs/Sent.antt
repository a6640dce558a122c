-- `sent` is no invention: it counts what the list's own answers show as sent.
-- Assumes nothing.
use Rattle.std.specs.Prelude.{ℕ, ◌+◌, ◌≤◌, ◌≡◌, List, [], ◌∷◌, map, eqb}
use Rattle.bits.specs.Choice.{when◌then◌else◌}
use Rattle.line.specs.declared.Phase.{Phase}
use Rattle.line.specs.declared.Phase.TheVariants.{Idle, Awaiting, Ready}
use Rattle.line.specs.Laws.{Within}
use Rattle.translation.specs.declared.CodeSet.{CodeSet}
use Rattle.state.specs.declared.Service.{Service}
use Rattle.events.specs.declared.Event.{Event}
use Rattle.events.specs.declared.Event.TheVariants.{Key, Call, Poll, TimeOut, Empty, Restart, Scan}
use Rattle.state.specs.State.{new_service}
use Rattle.events.specs.Step.{step_of}
use Rattle.events.specs.Run.{Shown, shown_of, next, run, after}

-- the bytes that an event shows as sent: one with ans 0C
abbrev pub bytes_shown : Shown → ℕ
bytes_shown shown = when eqb shown.ans 0x0C then 1 else 0

-- the count at an event, given the bytes that its command showed before; R shows none
abbrev pub count_at : ℕ → Event → Shown → ℕ
count_at earlier (Key byte) shown = earlier + bytes_shown shown
count_at earlier (Call function a b) shown = earlier + bytes_shown shown
count_at earlier Poll shown = earlier + bytes_shown shown
count_at earlier TimeOut shown = earlier + bytes_shown shown
count_at earlier Empty shown = earlier + bytes_shown shown
count_at earlier Restart shown = 0
count_at earlier (Scan byte) shown = earlier + bytes_shown shown

-- a count goes on while its command runs
abbrev pub carried_on : Phase → ℕ → ℕ
carried_on (Idle turn) count = 0
carried_on (Awaiting command) count = count
carried_on (Ready command) count = count

-- the counts of a list, event by event, of the command that runs or ends there
abbrev pub counts_of : Service → ℕ → List Event → List ℕ
counts_of service earlier [] = []
counts_of service earlier (event ∷ more) =
    let count = count_at earlier event (shown_of (step_of service event)) in
    count ∷ counts_of (next service event) (carried_on (next service event).line.phase count) more

-- over every list from a new service, sent is that count
abbrev pub SentIsCounted : Type 0
SentIsCounted =
    (set : CodeSet) (locks : ℕ) (events : List Event) →
    map (λ (s : Shown). s.sent) (run (new_service set locks) events) ≡ counts_of (new_service set locks) 0 events

-- it is at most six at every event
abbrev pub SentAtMostSix : Type 0
SentAtMostSix =
    (set : CodeSet) (locks : ℕ) (events : List Event) (event : Event) → (step_of (after (new_service set locks) events) event).sent ≤ 6

-- and no byte is sent more than three times: `Within` of the line counts the sends of the byte under way
abbrev pub ThreeSendsEach : Type 0
ThreeSendsEach = (set : CodeSet) (locks : ℕ) (events : List Event) → Within (after (new_service set locks) events).line
