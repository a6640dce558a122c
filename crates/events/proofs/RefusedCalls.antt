-- Refused C events change nothing, so they can be taken out of any list.
-- Assumes nothing.
use Rattle.std.specs.Prelude.{Option, None, Some}
use Prim.Native.Nat.{ℕ}
use mathlib.Core.Path.{◌≡◌, refl, ap, sym, ◌∙◌}
use mathlib.Core.Bool.{Bool, true, false, true≢false}
use mathlib.Core.List.{List, [], ◌∷◌}
use lib.Dec.{ltb}
use native.Mathlib.Omega.{arith}
use borrow.Author.Tests.{lt-ltb, le-ltb, ltb-false}
use Rattle.bits.specs.Choice.{when◌then◌else◌}
use Rattle.bits.proofs.Choice.{either}
use Rattle.word.specs.declared.Word.{Word}
use Rattle.word.specs.Word.{code_of, ascii_of, word_with}
use Rattle.word.specs.OldWord.{old_word_of}
use Rattle.port.specs.declared.Effect.{Effect}
use Rattle.port.specs.declared.Effect.TheVariants as effect
use Rattle.port.specs.KeyByte.{key_byte_of}
use Rattle.queue.specs.declared.Queue.{Queue}
use Rattle.queue.specs.Queue.{AfterPut}
use Rattle.queue.specs.Queue as queue
use Rattle.line.specs.declared.Answer.{Answer as LineAnswer}
use Rattle.line.specs.declared.Answer.TheVariants as line-answer
use Rattle.line.specs.declared.Outcome.{Outcome as LineOutcome}
use Rattle.translation.specs.Translation.{translated_of}
use Rattle.state.specs.declared.Device.{Device}
use Rattle.state.specs.declared.Device.TheVariants.{Keyboard, Scanner}
use Rattle.state.specs.declared.Service.{Service}
use Rattle.events.specs.declared.Event.{Event}
use Rattle.events.specs.declared.Event.TheVariants.{Key, Call, Poll, TimeOut, Empty, Restart, Scan}
use Rattle.answers.specs.declared.Refusal.{Refusal}
use Rattle.answers.specs.declared.Refusal.TheVariants as refusal
use Rattle.answers.specs.declared.Answer.{Answer}
use Rattle.answers.specs.declared.Answer.TheVariants.{Taken, Done, Stored, Refused}
use Rattle.events.specs.declared.Outcome.{Outcome}
use Rattle.state.specs.State.{port_of, with_queue}
use Rattle.answers.specs.Answers.{ans_of}
use Rattle.events.specs.Outcomes.{answered_of, offered_of}
use Rattle.events.specs.Keyboard.{broken_of, on_effect, typed_of, read_of, on_passed, key_of, scan_of}
use Rattle.events.specs.Commands.{line_answer, on_line, poll_of, acknowledge_of, resend_of, time_out_of, restart_of}
use Rattle.events.specs.Functions.{as_stored, oldest_answer, for_old_program, take_of, look_of, status_of, set_rate_of, call_of}
use Rattle.events.specs.Step.{empty_of, step_of}
use Rattle.events.specs.Run.{shown_of, next, run, after}
use Rattle.events.specs.Refused.{is_refusal, accepted, RefusedChangeNothing, RefusedCallsChangeNothing, AtMostFive}
use Rattle.events.proofs.Calls.{call_by}

-- a refusal leaves the service as it was, and is one of 2 to 5
record Keeps (service : Service) (outcome : Outcome) : Type 0 where
  kept : is_refusal (shown_of outcome) ≡ true → outcome.service ≡ service
  few : ltb 0x85 (shown_of outcome).ans ≡ false

-- an answer that is no refusal
record Accepts (answer : Answer) : Type 0 where
  low : ltb 0x7F (ans_of answer) ≡ false

low_few : (answer : Answer) → Accepts answer → ltb 0x85 (ans_of answer) ≡ false
low_few answer h = le-ltb 0x85 (ans_of answer) (omega (arith, ltb-false 0x7F (ans_of answer) h.low))

accepting : {service : Service} {outcome : Outcome} → Accepts outcome.answer → Keeps service outcome
accepting h = record { kept = λ e. absurd (true≢false (sym e ∙ h.low)); few = low_few _ h }

unchanged : {service : Service} (outcome : Outcome) → outcome.service ≡ service → ltb 0x85 (shown_of outcome).ans ≡ false → Keeps service outcome
unchanged outcome e few = record { kept = λ _. e; few = few }

-- ---- the answers of keys and of the line

accept_oldest : (returned : Word → Word) (oldest : Option Word) → Accepts (oldest_answer returned oldest)
accept_oldest returned None = record { low = refl }
accept_oldest returned (Some word) = record { low = refl }

accept_line : (answer : LineAnswer) (when_taken : Answer) → Accepts when_taken → Accepts (line_answer answer when_taken)
accept_line (line-answer.Send byte) when_taken h = record { low = refl }
accept_line line-answer.Quiet when_taken h = record { low = refl }
accept_line line-answer.Taken when_taken h = h
accept_line line-answer.Ignored when_taken h = record { low = refl }
accept_line line-answer.GivenUp when_taken h = record { low = refl }

-- an outcome that is no refusal
abbrev Accepted : Outcome → Type 0
Accepted outcome = Accepts outcome.answer

effect_accepted : (service : Service) (e : Effect) → Accepted (on_effect service e)
unfolding on_effect answered_of offered_of broken_of
effect_accepted service effect.Nothing = record { low = refl }
effect_accepted service (effect.Put word) = either Accepts _ _ _ (record { low = refl }) (record { low = refl })
effect_accepted service effect.Break = record { low = refl }
effect_accepted service effect.RestartAsked = record { low = refl }
effect_accepted service effect.Overrun = record { low = refl }

typed_accepted : (device : Device) (service : Service) (byte : ℕ) → Accepted (typed_of device service byte)
unfolding typed_of
typed_accepted device service byte = effect_accepted _ (key_byte_of (port_of device service.ports) service.shared byte).effect

line_accepted : (service : Service) (after : LineOutcome) (when_taken : Answer) → Accepts when_taken → Accepted (on_line service after when_taken)
unfolding on_line
line_accepted service after when_taken h = accept_line after.answer when_taken h

acknowledge_accepted : (service : Service) → Accepted (acknowledge_of service)
unfolding acknowledge_of
acknowledge_accepted service = line_accepted service _ Taken (record { low = refl })

resend_accepted : (service : Service) → Accepted (resend_of service)
unfolding resend_of
resend_accepted service = line_accepted service _ Taken (record { low = refl })

read_accepted : (service : Service) (byte : ℕ) → Accepted (read_of service byte)
unfolding read_of
read_accepted service byte =
    either Accepted _ _ _ (acknowledge_accepted service) (either Accepted _ _ _ (resend_accepted service) (typed_accepted Keyboard service byte))

passed_accepted : (service : Service) (p : Option ℕ) → Accepted (on_passed service p)
unfolding answered_of
passed_accepted service None = record { low = refl }
passed_accepted service (Some byte) = read_accepted service byte

-- a K event is never refused
key_accepts : (service : Service) (byte : ℕ) → Accepted (key_of service byte)
unfolding key_of
key_accepts service byte = passed_accepted _ (translated_of service.codes byte).passed

-- ---- functions

-- a word that is not stored leaves the queue
record Unstored (q : Queue) (after : AfterPut) : Type 0 where
  kept : after.stored ≡ false → after.queue ≡ q

put_unstored : (q : Queue) (word : Word) → Unstored q (queue.put_of q word)
unfolding queue.put_of
put_unstored q word =
    either (Unstored q) _ _ _ (record { kept = λ e. absurd (true≢false e) }) (record { kept = λ _. refl })

store_keeps : (service : Service) (word : Word) (after : AfterPut) → Unstored service.queue after
    → (stored : Bool) → after.stored ≡ stored → Keeps service (answered_of (with_queue service after.queue) (when after.stored then Stored word else Refused refusal.Full))
unfolding answered_of when◌then◌else◌
store_keeps service word after h true e = record { kept = λ r. absurd (true≢false (sym r ∙ simp e)); few = simp e }
store_keeps service word after h false e = record { kept = λ _. ap (with_queue service) (h.kept e); few = simp e }

take_keeps : (returned : Word → Word) (before service : Service) → Keeps before (take_of returned service)
unfolding take_of answered_of
take_keeps returned before service = accepting (accept_oldest returned (queue.take_of service.queue).oldest)

look_keeps : (returned : Word → Word) (before service : Service) → Keeps before (look_of returned service)
unfolding look_of answered_of
look_keeps returned before service = accepting (accept_oldest returned (queue.oldest_of service.queue))

call_keeps : (service : Service) (function a b : ℕ) → Keeps service (call_of service function a b)
unfolding status_of set_rate_of offered_of answered_of
call_keeps service function a b =
    let word = word_with (code_of a) (ascii_of b) in
    call_by (Keeps service) service function a b
    (take_keeps old_word_of service (for_old_program service))
    (look_keeps old_word_of service (for_old_program service))
    (take_keeps as_stored service service)
    (look_keeps as_stored service service)
    (λ high low. accepting (record { low = refl }))
    (λ _. either (Keeps service) _ _ _ (unchanged _ refl refl) (either (Keeps service) _ _ _ (unchanged _ refl refl) (accepting (record { low = refl }))))
    (store_keeps service word (queue.put_of service.queue word) (put_unstored service.queue word) _ refl)
    (unchanged _ refl refl)

step_keeps : (service : Service) (event : Event) → Keeps service (step_of service event)
unfolding step_of poll_of time_out_of empty_of answered_of restart_of scan_of
step_keeps service (Key byte) = accepting (key_accepts service byte)
step_keeps service (Call function a b) = call_keeps service function a b
step_keeps service Poll = accepting (line_accepted service _ Taken (record { low = refl }))
step_keeps service TimeOut = accepting (line_accepted service _ Done (record { low = refl }))
step_keeps service Empty = accepting (record { low = refl })
step_keeps service Restart = accepting (record { low = refl })
step_keeps service (Scan byte) = accepting (either Accepted _ _ _ (record { low = refl }) (typed_accepted Scanner service byte))

-- a refused event leaves the service, whether its number or its answer is known
pub refused_step_lem : (service : Service) (event : Event) → is_refusal (shown_of (step_of service event)) ≡ true → next service event ≡ service
refused_step_lem service event refused = (step_keeps service event).kept refused

pub key_accepted : (service : Service) (byte : ℕ) → is_refusal (shown_of (step_of service (Key byte))) ≡ false
unfolding step_of
key_accepted service byte = (key_accepts service byte).low

pub refused_answer : (service : Service) (event : Event) (refusal : Refusal) → (step_of service event).answer ≡ Refused refusal → next service event ≡ service
refused_answer service event refusal refused = refused_step_lem service event (rw refused (lt-ltb 0x7F (ans_of (Refused refusal)) (omega arith)))

pub at_most_five : AtMostFive
at_most_five service event = ltb-false 0x85 _ (step_keeps service event).few

-- ---- lists

-- the two sides of the claim for a list with one event more
taken_out : (service : Service) (event : Event) (more : List Event) (refused : Bool) → is_refusal (shown_of (step_of service event)) ≡ refused
    → RefusedChangeNothing (next service event) more → RefusedChangeNothing service (event ∷ more)
unfolding when◌then◌else◌
taken_out service event more true e h =
    let same : next service event ≡ service = refused_step_lem service event e in
    record {
      shown = simp e (ap (λ (s : Service). run s (accepted (next service event) more)) (sym same) ∙ h.shown);
      last = simp e (ap (λ (s : Service). after s (accepted (next service event) more)) (sym same) ∙ h.last);
    }
taken_out service event more false e h =
    record { shown = simp e (ap (◌∷◌ (shown_of (step_of service event))) h.shown); last = simp e h.last }

pub refused_calls_change_nothing : RefusedCallsChangeNothing
refused_calls_change_nothing service [] = record { shown = refl; last = refl }
refused_calls_change_nothing service (event ∷ more) =
    taken_out service event more _ refl (refused_calls_change_nothing (next service event) more)
