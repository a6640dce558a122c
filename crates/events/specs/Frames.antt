-- Document 02, W-202: what a frame does to the service of a board without a controller chip.
-- Assumes nothing.
use Rattle.frame.specs.declared.Fault.{Fault}
use Rattle.std.specs.Prelude.{ℕ, Result, Ok, Err}
use Rattle.frame.specs.Frame.{read_frame}
use Rattle.answers.specs.declared.Refusal.TheVariants.{Frame}
use Rattle.answers.specs.declared.Answer.TheVariants.{Refused}
use Rattle.state.specs.declared.Service.{Service}
use Rattle.events.specs.declared.Event.TheVariants.{Key}
use Rattle.events.specs.declared.Outcome.{Outcome}
use Rattle.events.specs.Outcomes.{answered_of}
use Rattle.events.specs.Step.{step_of}

-- a byte is a K event; a fault feeds nothing
abbrev pub on_frame : Service → Result ℕ Fault → Outcome
on_frame service (Ok byte) = step_of service (Key byte)
on_frame service (Err fault) = answered_of service (Refused (Frame fault))

unfoldable pub frame_step_of : Service → ℕ → Outcome
frame_step_of service frame = on_frame service (read_frame frame)
