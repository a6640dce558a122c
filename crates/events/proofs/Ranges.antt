-- Every event keeps a service in range, since the queue's calls and the line's inputs do.
-- Assumes nothing.
use Rattle.std.specs.Prelude.{Option, None, Some}
use Prim.Native.Nat.{ℕ, ◌+◌, ◌*◌, ◌<◌, ◌≤◌}
use native.Mathlib.Omega.{arith}
use mathlib.Core.Bool.{Bool, true, false}
use lib.Dec.{ltb, lit≤}
use borrow.Author.Tests.{ltb-false}
use Rattle.bits.specs.Bits.{byte_of, weight_of}
use Rattle.bits.proofs.Choice.{by_test, either}
use Rattle.word.specs.declared.Word.{Word}
use Rattle.word.specs.OldWord.{old_word_of}
use Rattle.port.specs.declared.Effect.{Effect}
use Rattle.port.specs.declared.Effect.TheVariants as effect
use Rattle.port.specs.KeyByte.{key_byte_of}
use Rattle.queue.specs.Queue as queue
use Rattle.queue.proofs.Laws.{queue_stays_in_range}
use Rattle.line.specs.Inputs as input
use Rattle.line.specs.Ranges.{led_values, rate_values, InputInRange}
use Rattle.line.proofs.Ranges.{line_stays_in_range}
use Rattle.translation.specs.Translation.{translated_of}
use Rattle.state.specs.declared.Device.{Device}
use Rattle.state.specs.declared.Device.TheVariants.{Keyboard, Scanner}
use Rattle.controller.specs.declared.Controller.{Controller}
use Rattle.controller.specs.declared.PortEvent.{PortEvent}
use Rattle.state.specs.declared.Service.{Service}
use Rattle.state.specs.State.{new_service, port_of, with_line, with_controller}
use Rattle.state.specs.Ranges.{InRange}
use Rattle.answers.specs.declared.Answer.{Answer}
use Rattle.events.specs.declared.Event.{Event}
use Rattle.events.specs.declared.Event.TheVariants.{Key, Call, Poll, TimeOut, Empty, Restart, Scan}
use Rattle.events.specs.declared.Outcome.{Outcome}
use Rattle.events.specs.Outcomes.{answered_of, offered_of}
use Rattle.events.specs.Keyboard.{broken_of, on_effect, typed_of, read_of, on_passed, key_of, scan_of}
use Rattle.events.specs.Commands.{led_value, on_line, poll_of, acknowledge_of, resend_of, time_out_of, restart_of}
use Rattle.events.specs.Functions.{as_stored, for_old_program, take_of, look_of, status_of, set_rate_of, call_of}
use Rattle.events.specs.Step.{empty_of, step_of}
use Rattle.events.specs.Sets.{change_of}
use Rattle.events.specs.Controller.{port_step_of}
use Rattle.events.specs.Ranges.{StaysInRange}
use Rattle.events.proofs.Controller.{by_response}
use Rattle.events.proofs.Calls.{call_by}

-- the service that an outcome leaves
record Left (outcome : Outcome) : Type 0 where
  left : InRange outcome.service

-- ---- events beside the line

answered_in : (service : Service) (answer : Answer) → InRange service → Left (answered_of service answer)
unfolding answered_of
answered_in service answer h = record { left = h }

offered_in : (service : Service) (word : Word) (kept full : Answer) → InRange service → Left (offered_of service word kept full)
unfolding offered_of
offered_in service word kept full h = answered_in _ _ (record { queue = queue_stays_in_range.put service.queue word h.queue; line = h.line })

effect_in : (service : Service) (e : Effect) → InRange service → Left (on_effect service e)
unfolding on_effect broken_of
effect_in service effect.Nothing h = answered_in service _ h
effect_in service (effect.Put word) h = offered_in service word _ _ h
effect_in service effect.Break h =
    answered_in _ _ (record { queue = queue_stays_in_range.put queue.empty_queue _ queue_stays_in_range.empty; line = h.line })
effect_in service effect.RestartAsked h = answered_in service _ h
effect_in service effect.Overrun h = answered_in service _ h

typed_in : (device : Device) (service : Service) (byte : ℕ) → InRange service → Left (typed_of device service byte)
unfolding typed_of
typed_in device service byte h =
    effect_in _ (key_byte_of (port_of device service.ports) service.shared byte).effect (record { queue = h.queue; line = h.line })

-- ---- events of the line

line_in : (service : Service) (i : input.Input) → InputInRange i → InRange service → InRange (with_line service (input.line_after service.line i))
line_in service i fits h = record { queue = h.queue; line = line_stays_in_range.input service.line i fits h.line }

led_in : (scroll num caps : Bool) → byte_of scroll num caps false false false false false < led_values
unfolding byte_of weight_of
led_in true true true = lit≤ tt
led_in true true false = lit≤ tt
led_in true false true = lit≤ tt
led_in true false false = lit≤ tt
led_in false true true = lit≤ tt
led_in false true false = lit≤ tt
led_in false false true = lit≤ tt
led_in false false false = lit≤ tt

read_in : (service : Service) (byte : ℕ) → InRange service → Left (read_of service byte)
unfolding read_of acknowledge_of resend_of on_line
read_in service byte h =
    either Left _ _ _ (record { left = line_in service input.acknowledge tt h })
    (either Left _ _ _ (record { left = line_in service input.resend tt h })
    (typed_in Keyboard service byte h))

passed_in : (service : Service) (p : Option ℕ) → InRange service → Left (on_passed service p)
passed_in service None h = answered_in service _ h
passed_in service (Some byte) h = read_in service byte h

key_in : (service : Service) (byte : ℕ) → InRange service → Left (key_of service byte)
unfolding key_of
key_in service byte h = passed_in _ (translated_of service.codes byte).passed (record { queue = h.queue; line = h.line })

poll_in_lem : (service : Service) → InRange service → Left (poll_of service)
unfolding poll_of on_line led_value
poll_in_lem service h =
    let locks = service.shared.locks in
    record { left = line_in service (input.poll (led_value locks)) (led_in locks.scroll locks.num locks.caps) h }

-- ---- functions

rate_in : (service : Service) (delay rate : ℕ) → InRange service → Left (set_rate_of service delay rate)
unfolding set_rate_of
rate_in service delay rate h =
    by_test Left (ltb 3 delay) _ _ (λ _. answered_in service _ h)
    (λ short. by_test Left (ltb 31 rate) _ _ (λ _. answered_in service _ h)
    (λ slow.
    let low : delay ≤ 3 = ltb-false 3 delay short in
    let few : rate ≤ 31 = ltb-false 31 rate slow in
    let pair : 32 * delay + rate < rate_values = omega arith in
    answered_in _ _ (line_in service (input.wait_rate (32 * delay + rate)) pair h)))

old_in : (service : Service) → InRange service → InRange (for_old_program service)
unfolding for_old_program
old_in service h = record { queue = queue_stays_in_range.past service.queue h.queue; line = h.line }

take_in : (returned : Word → Word) (service : Service) → InRange service → Left (take_of returned service)
unfolding take_of
take_in returned service h = answered_in _ _ (record { queue = queue_stays_in_range.take service.queue h.queue; line = h.line })

look_in : (returned : Word → Word) (service : Service) → InRange service → Left (look_of returned service)
unfolding look_of
look_in returned service h = answered_in service _ h

call_in_lem : (service : Service) (function a b : ℕ) → InRange service → Left (call_of service function a b)
unfolding status_of
call_in_lem service function a b h =
    call_by Left service function a b
    (take_in old_word_of (for_old_program service) (old_in service h))
    (look_in old_word_of (for_old_program service) (old_in service h))
    (take_in as_stored service h)
    (look_in as_stored service h)
    (λ high low. answered_in service _ h)
    (λ _. rate_in service a b h)
    (offered_in service _ _ _ h)
    (answered_in service _ h)

-- ---- every event

step_in_lem : (service : Service) (event : Event) → InRange service → Left (step_of service event)
unfolding step_of time_out_of on_line empty_of restart_of scan_of
step_in_lem service (Key byte) h = key_in service byte h
step_in_lem service (Call function a b) h = call_in_lem service function a b h
step_in_lem service Poll h = poll_in_lem service h
step_in_lem service TimeOut h = record { left = line_in service input.time_out tt h }
step_in_lem service Empty h = answered_in _ _ (record { queue = queue_stays_in_range.empty; line = h.line })
step_in_lem service Restart h = record { left = record { queue = h.queue; line = line_stays_in_range.new } }
step_in_lem service (Scan byte) h = either Left _ _ _ (answered_in service _ h) (typed_in Scanner service byte h)

port_in_lem : (service : Service) (event : PortEvent) → InRange service → Left (port_step_of service event).outcome
port_in_lem service event h =
    let with_any : (controller : Controller) → InRange (with_controller service controller) = λ _. record { queue = h.queue; line = h.line } in
    by_response Left service event
    (λ controller. answered_in _ _ (with_any controller))
    (λ controller byte. step_in_lem _ (Key byte) (with_any controller))
    (λ controller refusal. answered_in _ _ (with_any controller))

pub stays_in_range : StaysInRange
unfolding new_service change_of
stays_in_range =
    record {
      new = λ set locks. record { queue = queue_stays_in_range.empty; line = line_stays_in_range.new };
      event = λ service event h. (step_in_lem service event h).left;
      change = λ service set h. (answered_in _ _ (record { queue = h.queue; line = h.line })).left;
      port = λ service event h. (port_in_lem service event h).left;
    }
