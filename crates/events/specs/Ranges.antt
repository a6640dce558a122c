-- No event, no change of set and no port event takes a number of the service out of its range. Ranges.antt of proofs/ proves it.
-- Assumes nothing.
use Rattle.std.specs.Prelude.{ℕ}
use Rattle.translation.specs.declared.CodeSet.{CodeSet}
use Rattle.controller.specs.declared.PortEvent.{PortEvent}
use Rattle.state.specs.declared.Service.{Service}
use Rattle.state.specs.State.{new_service}
use Rattle.state.specs.Ranges.{InRange}
use Rattle.events.specs.declared.Event.{Event}
use Rattle.events.specs.Sets.{change_of}
use Rattle.events.specs.Controller.{port_step_of}
use Rattle.events.specs.Run.{next}

pub record StaysInRange : Type 0 where
  pub new : (set : CodeSet) (locks : ℕ) → InRange (new_service set locks)
  pub event : (service : Service) (event : Event) → InRange service → InRange (next service event)
  pub change : (service : Service) (set : CodeSet) → InRange service → InRange (change_of service set).service
  pub port : (service : Service) (event : PortEvent) → InRange service → InRange (port_step_of service event).outcome.service
