-- Every event: the former service is the present one with the words that an old program knows, and stays it.
-- Assumes nothing.
use Rattle.std.specs.Prelude.{Option, None, Some}
use Prim.Native.Nat.{ℕ}
use mathlib.Core.Path.{◌≡◌, refl, ap, sym, ◌∙◌, subst}
use mathlib.Core.Bool.{true, false}
use lib.Dec.{eqb}
use Rattle.bits.specs.Choice.{when◌then◌else◌}
use Rattle.bits.proofs.Choice.{by_test, both}
use Rattle.bits.proofs.Tests.{not_both}
use Rattle.word.specs.declared.Word.{Word}
use Rattle.word.specs.OldWord.{old_word_of}
use Rattle.port.specs.declared.Decoded.{Decoded}
use Rattle.port.specs.declared.Effect.{Effect}
use Rattle.port.specs.declared.Effect.TheVariants as effect
use Rattle.port.specs.Prefix.{reading_of}
use Rattle.port.specs.KeyByte.{key_byte_of}
use Rattle.queue.specs.declared.Queue.{Queue}
use Rattle.queue.specs.Queue as queue
use Rattle.line.specs.declared.Answer.{Answer as LineAnswer}
use Rattle.line.specs.declared.Answer.TheVariants as line-answer
use Rattle.line.specs.declared.Outcome.{Outcome as LineOutcome}
use Rattle.line.specs.State.{sent_of}
use Rattle.translation.specs.Translation.{translated_of}
use Rattle.state.specs.declared.Device.{Device}
use Rattle.state.specs.declared.Device.TheVariants.{Keyboard, Scanner}
use Rattle.state.specs.declared.Service.{Service}
use Rattle.state.specs.State.{port_of, ports_with, with_ports, with_queue, with_line, with_codes}
use Rattle.state.specs.Flags.{byte17_of, status_high}
use Rattle.answers.specs.declared.Answer.{Answer}
use Rattle.answers.specs.declared.Answer.TheVariants.{Put, Dropped, Taken, Done}
use Rattle.events.specs.declared.Event.{Event}
use Rattle.events.specs.declared.Event.TheVariants.{Key, Call, Poll, TimeOut, Empty, Restart, Scan}
use Rattle.events.specs.declared.Outcome.{Outcome}
use Rattle.events.specs.Outcomes.{outcome, answered_of, offered_of}
use Rattle.events.specs.Keyboard.{broken_of, on_effect, typed_of, read_of, on_passed, key_of, scan_of}
use Rattle.events.specs.Commands.{line_answer, on_line, poll_of, acknowledge_of, resend_of, time_out_of, restart_of}
use Rattle.events.specs.Functions.{as_stored, oldest_answer, for_old_program, take_of, look_of, status_of, set_rate_of, call_of}
use Rattle.events.specs.Step.{empty_of, step_of}
use Rattle.events.specs.Queued.{is_old_read}
use Rattle.events.proofs.Calls.{call_both}
use Rattle.former.specs.Former.{former_typed_of, former_read_of, former_on_passed, former_key_of, former_scan_of, former_call_of, former_step_of}
use Rattle.former.specs.Laws.{stores, as_old_answer, told_at}
use Rattle.former.proofs.Queue.{former_queue, former_oldest, former_empty, former_oldest_lem, former_rest, former_put, former_past, Settled, settled_empty, settled_rest, settled_past, settled_put}
use Rattle.former.proofs.Port.{former_effect, KeptEffect, reading_decoded}

abbrev pub former_service : Service → Service
former_service service = with_queue service (former_queue service.queue)

-- the former outcome is the present one, its answer told so
pub record Told (told : Answer → Answer) (now former : Outcome) : Type 0 where
  pub is : former ≡ outcome (former_service now.service) (told now.answer) now.sent
  pub settled : Settled now.service.queue

-- an event that is no read of an old program, and one that is
abbrev Became : Outcome → Outcome → Type 0
Became = Told as_old_answer

abbrev Read : Outcome → Outcome → Type 0
Read = Told (λ (answer : Answer). answer)

-- an answer without a word of the queue
answered_became : (service : Service) (answer : Answer) → as_old_answer answer ≡ answer → Settled service.queue
    → Became (answered_of service answer) (answered_of (former_service service) answer)
unfolding answered_of
answered_became service answer e s = record { is = ap (λ (a : Answer). outcome (former_service service) a (sent_of service.line)) (sym e); settled = s }

-- ---- keys

put_became : (service : Service) (word : Word) → KeptEffect (effect.Put word) → Settled service.queue
    → Became (offered_of service word (Put word) (Dropped word)) (offered_of (former_service service) (old_word_of word) (Put (old_word_of word)) (Dropped (old_word_of word)))
unfolding offered_of answered_of
put_became service word k s =
    let after = queue.put_of service.queue word in
    record {
      is =
          rw (former_put service.queue word)
          (ap (λ (a : Answer). outcome (former_service (with_queue service after.queue)) a (sent_of service.line))
          (both (λ (former now : Answer). former ≡ as_old_answer now) after.stored refl refl));
      settled = settled_put service.queue word k s;
    }

broken_became : (service : Service) → Became (broken_of service) (broken_of (former_service service))
unfolding broken_of answered_of queue.put_of queue.empty_queue old_word_of when◌then◌else◌
broken_became service = record { is = refl; settled = record { alike = refl } }

effect_became : (service : Service) (e : Effect) → KeptEffect e → Settled service.queue
    → Became (on_effect service e) (on_effect (former_service service) (former_effect e))
unfolding on_effect
effect_became service effect.Nothing k s = answered_became service _ refl s
effect_became service (effect.Put word) k s = put_became service word k s
effect_became service effect.Break k s = broken_became service
effect_became service effect.RestartAsked k s = answered_became service _ refl s
effect_became service effect.Overrun k s = answered_became service _ refl s

typed_became : (device : Device) (service : Service) (byte : ℕ) → Settled service.queue
    → Became (typed_of device service byte) (former_typed_of device (former_service service) byte)
unfolding typed_of key_byte_of former_typed_of
typed_became device service byte s =
    let port = port_of device service.ports in
    let decoded = reading_decoded (reading_of port.prefix byte) port service.shared in
    subst
    (λ (d : Decoded).
    Became (typed_of device service byte)
    (on_effect (with_ports (former_service service) (ports_with device d.port service.ports) d.shared) d.effect))
    (sym decoded.is) (effect_became (with_ports service _ _) _ decoded.kept s)

-- ---- the line

line_answer_stays : (answer : LineAnswer) (taken : Answer) → as_old_answer taken ≡ taken → as_old_answer (line_answer answer taken) ≡ line_answer answer taken
line_answer_stays (line-answer.Send byte) taken e = refl
line_answer_stays line-answer.Quiet taken e = refl
line_answer_stays line-answer.Taken taken e = e
line_answer_stays line-answer.Ignored taken e = refl
line_answer_stays line-answer.GivenUp taken e = refl

line_became : (service : Service) (after : LineOutcome) (taken : Answer) → as_old_answer taken ≡ taken → Settled service.queue
    → Became (on_line service after taken) (on_line (former_service service) after taken)
unfolding on_line
line_became service after taken e s =
    let left = with_line (former_service service) after.line in
    record { is = ap (λ (a : Answer). outcome left a after.sent) (sym (line_answer_stays after.answer taken e)); settled = s }

acknowledge_became : (service : Service) → Settled service.queue → Became (acknowledge_of service) (acknowledge_of (former_service service))
unfolding acknowledge_of
acknowledge_became service s = line_became service _ Taken refl s

resend_became : (service : Service) → Settled service.queue → Became (resend_of service) (resend_of (former_service service))
unfolding resend_of
resend_became service s = line_became service _ Taken refl s

read_became : (service : Service) (byte : ℕ) → Settled service.queue → Became (read_of service byte) (former_read_of (former_service service) byte)
unfolding read_of former_read_of
read_became service byte s =
    both Became _ (acknowledge_became service s) (both Became _ (resend_became service s) (typed_became Keyboard service byte s))

passed_became : (service : Service) (p : Option ℕ) → Settled service.queue → Became (on_passed service p) (former_on_passed (former_service service) p)
passed_became service None s = answered_became service _ refl s
passed_became service (Some byte) s = read_became service byte s

key_became : (service : Service) (byte : ℕ) → Settled service.queue → Became (key_of service byte) (former_key_of (former_service service) byte)
unfolding key_of former_key_of
key_became service byte s = passed_became (with_codes service _) (translated_of service.codes byte).passed s

scan_became : (service : Service) (byte : ℕ) → Settled service.queue → Became (scan_of service byte) (former_scan_of (former_service service) byte)
unfolding scan_of former_scan_of
scan_became service byte s = both Became _ (answered_became service _ refl s) (typed_became Scanner service byte s)

-- ---- functions

-- what was stored was what an old program is told now, and what 10 and 11 tell was that
old_answer : (oldest : Option Word) → oldest_answer as_stored (former_oldest oldest) ≡ oldest_answer old_word_of oldest
old_answer None = refl
old_answer (Some word) = refl

stored_answer : (oldest : Option Word) → oldest_answer old_word_of oldest ≡ as_old_answer (oldest_answer as_stored oldest)
stored_answer None = refl
stored_answer (Some word) = refl

-- a take and a look by former programs
taken : (service : Service) → Settled service.queue → Read (take_of old_word_of service) (take_of as_stored (former_service service))
unfolding take_of answered_of queue.take_of
taken service s =
    record {
      is = rw (former_oldest_lem service.queue, former_rest service.queue, old_answer (queue.oldest_of service.queue));
      settled = settled_rest service.queue s;
    }

looked : (service : Service) → Settled service.queue → Read (look_of old_word_of service) (look_of as_stored (former_service service))
unfolding look_of answered_of
looked service s = record { is = rw (former_oldest_lem service.queue, old_answer (queue.oldest_of service.queue)); settled = s }

old_read : (service : Service) → Settled service.queue → for_old_program (former_service service) ≡ former_service (for_old_program service)
unfolding for_old_program
old_read service s = ap (with_queue service) (former_past service.queue s)

old_settled : (service : Service) → Settled service.queue → Settled (for_old_program service).queue
unfolding for_old_program
old_settled service s = settled_past service.queue s

take_became : (service : Service) → Settled service.queue → Became (take_of as_stored service) (take_of as_stored (former_service service))
unfolding take_of answered_of
take_became service s =
    let left = former_service (take_of as_stored service).service in
    record {
      is = (taken service s).is ∙ ap (λ (a : Answer). outcome left a (sent_of service.line)) (stored_answer (queue.take_of service.queue).oldest);
      settled = (taken service s).settled;
    }

look_became : (service : Service) → Settled service.queue → Became (look_of as_stored service) (look_of as_stored (former_service service))
unfolding look_of answered_of
look_became service s =
    record {
      is = (looked service s).is ∙ ap (λ (a : Answer). outcome (former_service service) a (sent_of service.line)) (stored_answer (queue.oldest_of service.queue));
      settled = s;
    }

-- every function but 00, 01 and 05
module _ (service : Service) (function a b : ℕ) (s : Settled service.queue) where
  others_became : eqb function 0x00 ≡ false → eqb function 0x01 ≡ false → eqb function 0x05 ≡ false
      → Became (call_of service function a b) (call_of (former_service service) function a b)
  unfolding status_of byte17_of status_high set_rate_of
  others_became d e n =
      call_both Became service (former_service service) function a b (λ y. not_both y d) (λ y. not_both y e)
      (take_became service s) (look_became service s) (λ _. answered_became service _ refl s) (λ _. answered_became service _ refl s)
      (both Became _ (answered_became service _ refl s) (both Became _ (answered_became service _ refl s) (answered_became _ Done refl s)))
      (λ y. not_both y n) (answered_became service _ refl s)

  take_called : eqb function 0x00 ≡ true → call_of service function a b ≡ take_of old_word_of (for_old_program service)
  unfolding call_of when◌then◌else◌
  take_called d = simp d

  look_called : eqb function 0x00 ≡ false → eqb function 0x01 ≡ true → call_of service function a b ≡ look_of old_word_of (for_old_program service)
  unfolding call_of when◌then◌else◌
  look_called d e = simp (d, e)

-- ---- every event

as_read : (event : Event) {now former : Outcome} → is_old_read event ≡ true → Read now former → Told (told_at event) now former
unfolding when◌then◌else◌
as_read event e r = record { is = rw e r.is; settled = r.settled }

as_became : (event : Event) {now former : Outcome} → is_old_read event ≡ false → Became now former → Told (told_at event) now former
unfolding when◌then◌else◌
as_became event e r = record { is = rw e r.is; settled = r.settled }

call_stepped : (service : Service) (function a b : ℕ) → Settled service.queue → eqb function 0x05 ≡ false
    → Told (told_at (Call function a b)) (call_of service function a b) (former_call_of (former_service service) function a b)
unfolding former_call_of
call_stepped service function a b s n =
    by_test (Told (told_at event) (call_of service function a b)) (eqb function 0x00) _ _
    (λ d. rw (take_called service function a b s d, old_read service s) (as_read event (simp d) (taken (for_old_program service) (old_settled service s))))
    (λ d.
    by_test (Told (told_at event) (call_of service function a b)) (eqb function 0x01) _ _
    (λ e. rw (look_called service function a b s d e, old_read service s) (as_read event (simp (d, e)) (looked (for_old_program service) (old_settled service s))))
    (λ e. as_became event (simp (d, e)) (others_became service function a b s d e n)))
  where
    event : Event
    event = Call function a b

pub stepped : (service : Service) (event : Event) → Settled service.queue → stores event ≡ false
    → Told (told_at event) (step_of service event) (former_step_of (former_service service) event)
unfolding step_of former_step_of poll_of time_out_of restart_of empty_of answered_of
stepped service (Key byte) s n = as_became (Key byte) refl (key_became service byte s)
stepped service (Call function a b) s n = call_stepped service function a b s n
stepped service Poll s n = as_became Poll refl (line_became service _ Taken refl s)
stepped service TimeOut s n = as_became TimeOut refl (line_became service _ Done refl s)
stepped service Empty s n =
    as_became Empty refl (record { is = ap (λ (q : Queue). outcome (with_queue service q) Done (sent_of service.line)) (sym former_empty); settled = settled_empty })
stepped service Restart s n = as_became Restart refl (record { is = refl; settled = s })
stepped service (Scan byte) s n = as_became (Scan byte) refl (scan_became service byte s)
