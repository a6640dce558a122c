-- One event.
-- Assumes nothing.
use Rattle.queue.specs.Queue.{empty_queue}
use Rattle.state.specs.declared.Service.{Service}
use Rattle.events.specs.declared.Event.{Event}
use Rattle.events.specs.declared.Event.TheVariants.{Key, Call, Poll, TimeOut, Empty, Restart, Scan}
use Rattle.answers.specs.declared.Answer.TheVariants.{Done}
use Rattle.events.specs.declared.Outcome.{Outcome}
use Rattle.state.specs.State.{with_queue}
use Rattle.events.specs.Outcomes.{answered_of}
use Rattle.events.specs.Keyboard.{key_of, scan_of}
use Rattle.events.specs.Functions.{call_of}
use Rattle.events.specs.Commands.{poll_of, time_out_of, restart_of}

-- E: the queue is emptied
unfoldable pub empty_of : Service → Outcome
empty_of service = answered_of (with_queue service empty_queue) Done

unfoldable pub step_of : Service → Event → Outcome
step_of service (Key byte) = key_of service byte
step_of service (Call function a b) = call_of service function a b
step_of service Poll = poll_of service
step_of service TimeOut = time_out_of service
step_of service Empty = empty_of service
step_of service Restart = restart_of service
step_of service (Scan byte) = scan_of service byte
