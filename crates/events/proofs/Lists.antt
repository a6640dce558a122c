-- Runs over lists that are put together.
-- Assumes nothing.
use mathlib.Core.Path.{◌≡◌, refl, ap}
use mathlib.Core.List.{List, [], ◌∷◌, ◌++◌}
use Rattle.state.specs.declared.Service.{Service}
use Rattle.events.specs.declared.Event.{Event}
use Rattle.events.specs.Step.{step_of}
use Rattle.events.specs.Run.{shown_of, next, run, after}

pub after_append : (service : Service) (xs ys : List Event) → after service (xs ++ ys) ≡ after (after service xs) ys
after_append service [] ys = refl
after_append service (x ∷ xs) ys = after_append (next service x) xs ys

pub run_append : (service : Service) (xs ys : List Event) → run service (xs ++ ys) ≡ run service xs ++ run (after service xs) ys
run_append service [] ys = refl
run_append service (x ∷ xs) ys = ap (◌∷◌ (shown_of (step_of service x))) (run_append (next service x) xs ys)
