-- What each event gives the line: one input or none. Only a poll shows a byte.
-- Assumes nothing.
use Rattle.std.specs.Prelude.{Option, None, Some}
use Prim.Native.Nat.{ℕ, ◌+◌, ◌*◌}
use mathlib.Core.Path.{◌≡◌, refl, ap}
use mathlib.Core.Bool.{true, false}
use lib.Dec.{eqb}
use borrow.Author.Tests.{eqb-true}
use Rattle.bits.specs.Choice.{when◌then◌else◌}
use Rattle.bits.proofs.Choice.{either}
use Rattle.port.specs.declared.Effect.{Effect}
use Rattle.port.specs.declared.Effect.TheVariants as effect
use Rattle.port.specs.KeyByte.{key_byte_of}
use Rattle.word.specs.declared.Word.{Word}
use Rattle.word.specs.OldWord.{old_word_of}
use Rattle.queue.specs.Queue as queue
use Rattle.line.specs.declared.Answer.{Answer as LineAnswer}
use Rattle.line.specs.declared.Answer.TheVariants as line-answer
use Rattle.line.specs.declared.Line.{Line}
use Rattle.line.specs.declared.Outcome.{Outcome as LineOutcome}
use Rattle.line.specs.State.{wait_rate_of, sent_of, unchanged_of}
use Rattle.line.specs.Inputs.{Input, poll, acknowledge, resend, time_out, restart, wait_rate, line_after, sent_at}
use Rattle.line.specs.Reply as reply
use Rattle.line.specs.Laws.{sends_by}
use Rattle.line.specs.Turns.{bytes_at}
use Rattle.line.proofs.Cases.{acknowledge_cases, failed_cases}
use Rattle.translation.specs.Translation.{translated_of}
use Rattle.controller.specs.declared.PortEvent.{PortEvent}
use Rattle.controller.specs.declared.PortRefusal.{PortRefusal}
use Rattle.controller.specs.declared.PortRefusal.TheVariants.{Busy, Command, Unawaited}
use Rattle.state.specs.declared.Device.{Device}
use Rattle.state.specs.declared.Device.TheVariants.{Keyboard, Scanner}
use Rattle.state.specs.declared.Service.{Service}
use Rattle.state.specs.State.{port_of, with_codes, with_controller, with_line}
use Rattle.answers.specs.declared.Refusal.TheVariants.{Port}
use Rattle.answers.specs.declared.Answer.{Answer}
use Rattle.answers.specs.declared.Answer.TheVariants.{Taken, Done, Refused}
use Rattle.answers.specs.Answers.{ans_of}
use Rattle.events.specs.declared.Event.{Event}
use Rattle.events.specs.declared.Event.TheVariants.{Key, Call, Poll, TimeOut, Empty, Restart, Scan}
use Rattle.events.specs.declared.Outcome.{Outcome}
use Rattle.events.specs.Outcomes.{answered_of, offered_of}
use Rattle.events.specs.Keyboard.{broken_of, on_effect, typed_of, read_of, on_passed, key_of, scan_of}
use Rattle.events.specs.Commands.{line_answer, on_line, poll_of, acknowledge_of, resend_of, time_out_of, restart_of}
use Rattle.events.specs.Functions.{as_stored, oldest_answer, for_old_program, take_of, look_of, status_of, set_rate_of, call_of}
use Rattle.events.specs.Step.{empty_of, step_of}
use Rattle.events.specs.Controller.{port_step_of}
use Rattle.events.proofs.Calls.{call_by}
use Rattle.events.proofs.Controller.{by_response}

abbrev pub IsReply : Input → Type 0
IsReply (poll led) = ⊥
IsReply acknowledge = Unit {0}
IsReply resend = Unit {0}
IsReply time_out = Unit {0}
IsReply restart = ⊥
IsReply (wait_rate rate) = ⊥

-- an answer that sends no byte
pub record Silent (answer : Answer) : Type 0 where
  pub silent : eqb (ans_of answer) 0x0C ≡ false

abbrev pub bytes_in : Answer → ℕ
bytes_in answer = when eqb (ans_of answer) 0x0C then 1 else 0

pub none_shown : (answer : Answer) → Silent answer → bytes_in answer ≡ 0
unfolding when◌then◌else◌
none_shown answer h = simp h.silent

pub bytes_of_line : (answer : LineAnswer) (when_taken : Answer) → Silent when_taken → bytes_in (line_answer answer when_taken) ≡ sends_by answer
unfolding when◌then◌else◌
bytes_of_line (line-answer.Send byte) when_taken h = refl
bytes_of_line line-answer.Quiet when_taken h = refl
bytes_of_line line-answer.Taken when_taken h = none_shown when_taken h
bytes_of_line line-answer.Ignored when_taken h = refl
bytes_of_line line-answer.GivenUp when_taken h = refl

-- what neither polls nor restarts the line nor hands it a rate leaves it as it is or brings it a reply; it sends no byte, and shows the line's count
pub data Beside (line : Line) (outcome : Outcome) : Type 0 where
  nothing : outcome.service.line ≡ line → outcome.sent ≡ sent_of line → Silent outcome.answer → Beside line outcome
  replies :
      (input : Input) → IsReply input → outcome.service.line ≡ line_after line input → outcome.sent ≡ sent_at line input →
      bytes_in outcome.answer ≡ bytes_at line input → Silent outcome.answer → Beside line outcome

pub data Gives (service : Service) (event : Event) (outcome : Outcome) : Type 0 where
  beside : Beside service.line outcome → Gives service event outcome
  polls : event ≡ Poll → outcome ≡ poll_of service → Gives service event outcome
  restarts : event ≡ Restart → outcome ≡ restart_of service → Gives service event outcome
  accepts :
      (delay rate : ℕ) → event ≡ Call 0x03 delay rate →
      outcome ≡ answered_of (with_line service (wait_rate_of service.line (32 * delay + rate))) Done → Gives service event outcome

-- ---- replies

module _ (line : Line) (when_taken : Answer) (h : Silent when_taken) where
  abbrev SilentAs : LineOutcome → Type 0
  SilentAs outcome = Silent (line_answer outcome.answer when_taken)

  acknowledge_silent : SilentAs (reply.acknowledge_of line)
  unfolding unchanged_of
  acknowledge_silent = acknowledge_cases SilentAs line (record { silent = refl }) (λ _ _ _. h) (λ _ _ _. h)

  failed_silent : (marked : Line) → SilentAs (reply.reply_in line (reply.failed_of marked) line.phase)
  unfolding unchanged_of
  failed_silent marked = failed_cases SilentAs line marked (record { silent = refl }) (λ _ _ _. h) (λ _ _ _. record { silent = refl })

acknowledge_beside : (service : Service) → Beside service.line (acknowledge_of service)
unfolding acknowledge_of on_line
acknowledge_beside service =
    let taken : Silent Taken = record { silent = refl } in
    replies acknowledge tt refl refl (bytes_of_line (reply.acknowledge_of service.line).answer Taken taken) (acknowledge_silent service.line Taken taken)

resend_beside : (service : Service) → Beside service.line (resend_of service)
unfolding resend_of on_line reply.resend_of
resend_beside service =
    let taken : Silent Taken = record { silent = refl } in
    replies resend tt refl refl (bytes_of_line (reply.resend_of service.line).answer Taken taken)
    (failed_silent service.line Taken taken (reply.mark_resend_of service.line))

time_out_beside : (service : Service) → Beside service.line (time_out_of service)
unfolding time_out_of on_line reply.time_out_of
time_out_beside service =
    let done : Silent Done = record { silent = refl } in
    replies time_out tt refl refl (bytes_of_line (reply.time_out_of service.line).answer Done done) (failed_silent service.line Done done service.line)

-- ---- bytes of either device

answered_beside : (line : Line) (service : Service) (answer : Answer) → service.line ≡ line → Silent answer → Beside line (answered_of service answer)
unfolding answered_of
answered_beside line service answer e h = nothing e (ap sent_of e) h

effect_beside : (service : Service) (e : Effect) → Beside service.line (on_effect service e)
unfolding on_effect offered_of broken_of
effect_beside service effect.Nothing = answered_beside _ service _ refl (record { silent = refl })
effect_beside service (effect.Put word) = answered_beside _ _ _ refl (either Silent _ _ _ (record { silent = refl }) (record { silent = refl }))
effect_beside service effect.Break = answered_beside _ _ _ refl (record { silent = refl })
effect_beside service effect.RestartAsked = answered_beside _ service _ refl (record { silent = refl })
effect_beside service effect.Overrun = answered_beside _ service _ refl (record { silent = refl })

typed_beside : (device : Device) (service : Service) (byte : ℕ) → Beside service.line (typed_of device service byte)
unfolding typed_of
typed_beside device service byte = effect_beside _ (key_byte_of (port_of device service.ports) service.shared byte).effect

scan_beside : (service : Service) (byte : ℕ) → Beside service.line (scan_of service byte)
unfolding scan_of
scan_beside service byte =
    either (Beside service.line) _ _ _ (answered_beside _ service _ refl (record { silent = refl })) (typed_beside Scanner service byte)

read_beside : (service : Service) (byte : ℕ) → Beside service.line (read_of service byte)
unfolding read_of
read_beside service byte =
    either (Beside service.line) _ _ _ (acknowledge_beside service)
    (either (Beside service.line) _ _ _ (resend_beside service) (typed_beside Keyboard service byte))

passed_beside : (service : Service) (p : Option ℕ) → Beside service.line (on_passed service p)
passed_beside service None = answered_beside _ service _ refl (record { silent = refl })
passed_beside service (Some byte) = read_beside service byte

key_beside : (service : Service) (byte : ℕ) → Beside service.line (key_of service byte)
unfolding key_of
key_beside service byte =
    let translated = translated_of service.codes byte in passed_beside (with_codes service translated.codes) translated.passed

-- ---- calls

silent_oldest : (returned : Word → Word) (oldest : Option Word) → Silent (oldest_answer returned oldest)
silent_oldest returned None = record { silent = refl }
silent_oldest returned (Some word) = record { silent = refl }

module _ (service : Service) (function a b : ℕ) where
  abbrev Called : Outcome → Type 0
  Called = Gives service (Call function a b)

  answered_called : (later : Service) (answer : Answer) → later.line ≡ service.line → Silent answer → Called (answered_of later answer)
  answered_called later answer e h = beside (answered_beside service.line later answer e h)

  rate_called : eqb function 0x03 ≡ true → Called (set_rate_of service a b)
  unfolding set_rate_of
  rate_called t =
      either Called _ _ _ (answered_called service _ refl (record { silent = refl }))
      (either Called _ _ _ (answered_called service _ refl (record { silent = refl }))
      (accepts a b (ap (λ (f : ℕ). Call f a b) (eqb-true function 0x03 t)) refl))

  call_gives : Called (call_of service function a b)
  unfolding for_old_program take_of look_of status_of offered_of
  call_gives =
      call_by Called service function a b
      (answered_called _ _ refl (silent_oldest old_word_of (queue.take_of (for_old_program service).queue).oldest))
      (answered_called _ _ refl (silent_oldest old_word_of (queue.oldest_of (for_old_program service).queue)))
      (answered_called _ _ refl (silent_oldest as_stored (queue.take_of service.queue).oldest))
      (answered_called _ _ refl (silent_oldest as_stored (queue.oldest_of service.queue)))
      (λ high low. answered_called _ _ refl (record { silent = refl }))
      rate_called
      (answered_called _ _ refl (either Silent _ _ _ (record { silent = refl }) (record { silent = refl })))
      (answered_called _ _ refl (record { silent = refl }))

-- ---- every event, and every port event

pub gives : (service : Service) (event : Event) → Gives service event (step_of service event)
unfolding step_of empty_of
gives service (Key byte) = beside (key_beside service byte)
gives service (Call function a b) = call_gives service function a b
gives service Poll = polls refl refl
gives service TimeOut = beside (time_out_beside service)
gives service Empty = beside (answered_beside _ _ Done refl (record { silent = refl }))
gives service Restart = restarts refl refl
gives service (Scan byte) = beside (scan_beside service byte)

refused_silent : (refusal : PortRefusal) → Silent (Refused (Port refusal))
refused_silent Busy = record { silent = refl }
refused_silent Command = record { silent = refl }
refused_silent Unawaited = record { silent = refl }

pub port_gives : (service : Service) (event : PortEvent) → Beside service.line (port_step_of service event).outcome
unfolding step_of
port_gives service event =
    by_response (Beside service.line) service event
    (λ _. answered_beside _ _ _ refl (record { silent = refl }))
    (λ controller byte. key_beside (with_controller service controller) byte)
    (λ _ refusal. answered_beside _ _ _ refl (refused_silent refusal))
