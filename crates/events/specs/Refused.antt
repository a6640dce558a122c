-- Refused C events change nothing, and no event is refused by a number above 5.
-- Assumes nothing.
use Rattle.std.specs.Prelude.{◌≤◌, ◌≡◌, Bool, List, [], ◌∷◌, ltb}
use Rattle.bits.specs.Choice.{when◌then◌else◌}
use Rattle.state.specs.declared.Service.{Service}
use Rattle.events.specs.declared.Event.{Event}
use Rattle.events.specs.Step.{step_of}
use Rattle.events.specs.Run.{Shown, shown_of, next, run, after}

-- a refusal shows 80 plus its number
abbrev pub is_refusal : Shown → Bool
is_refusal shown = ltb 0x7F shown.ans

-- a list without the events that are refused when their turn comes
abbrev pub accepted : Service → List Event → List Event
accepted service [] = []
accepted service (event ∷ more) =
    when is_refusal (shown_of (step_of service event)) then accepted (next service event) more
    else event ∷ accepted (next service event) more

-- what is shown, without the refusals
abbrev pub unrefused : List Shown → List Shown
unrefused [] = []
unrefused (shown ∷ more) = when is_refusal shown then unrefused more else shown ∷ unrefused more

-- taking the refused events out of a list changes no other answer and not the last service
pub record RefusedChangeNothing (service : Service) (events : List Event) : Type 0 where
  pub shown : run service (accepted service events) ≡ unrefused (run service events)
  pub last : after service (accepted service events) ≡ after service events

abbrev pub RefusedCallsChangeNothing : Type 0
RefusedCallsChangeNothing = (service : Service) (events : List Event) → RefusedChangeNothing service events

-- the numbers above 5 are for calls that run no event
abbrev pub AtMostFive : Type 0
AtMostFive = (service : Service) (event : Event) → (shown_of (step_of service event)).ans ≤ 0x85
