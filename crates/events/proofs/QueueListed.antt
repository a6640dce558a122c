-- The queue over lists of events is the list of words that the answers tell.
-- Assumes nothing.
use Rattle.std.specs.Prelude.{Option, None, Some}
use Prim.Native.Nat.{ℕ, ◌<◌}
use native.Mathlib.Omega.{arith}
use mathlib.Core.Path.{◌≡◌, refl, sym, ap, ◌∙◌}
use mathlib.Core.Bool.{Bool, true, false, ◌||◌}
use mathlib.Core.List.{List, [], ◌∷◌, ◌++◌, map}
use lib.Dec.{eqb}
use lib.ListN.{length}
use borrow.Author.Tests.{ltb-true, ltb-false, eqb-true}
use Rattle.bits.specs.Choice.{when◌then◌else◌}
use Rattle.bits.proofs.Choice.{by_test, either}
use Rattle.word.specs.declared.Word.{Word}
use Rattle.word.specs.Word.{code_of, ascii_of, word_with}
use Rattle.word.specs.OldWord.{old_word_of}
use Rattle.port.specs.declared.Effect.{Effect}
use Rattle.port.specs.declared.Effect.TheVariants as effect
use Rattle.port.specs.KeyByte.{key_byte_of}
use Rattle.queue.specs.declared.Queue.{Queue}
use Rattle.queue.specs.Queue as queue
use Rattle.queue.specs.Words.{words_of, Whole, has_room, put_in, oldest_in, rest_in}
use Rattle.queue.proofs.Laws.{at_most_capacity, empty_holds_none, stays_whole, as_listed}
use Rattle.line.specs.declared.Answer.{Answer as LineAnswer}
use Rattle.line.specs.declared.Answer.TheVariants as line-answer
use Rattle.line.specs.declared.Outcome.{Outcome as LineOutcome}
use Rattle.translation.specs.declared.CodeSet.{CodeSet}
use Rattle.translation.specs.Translation.{translated_of}
use Rattle.state.specs.declared.Device.{Device}
use Rattle.state.specs.declared.Device.TheVariants.{Keyboard, Scanner}
use Rattle.state.specs.declared.Service.{Service}
use Rattle.events.specs.declared.Event.{Event}
use Rattle.events.specs.declared.Event.TheVariants.{Key, Call, Poll, TimeOut, Empty, Restart, Scan}
use Rattle.answers.specs.declared.Refusal.TheVariants as refusal
use Rattle.answers.specs.declared.Answer.{Answer}
use Rattle.answers.specs.declared.Answer.TheVariants.{Put, Dropped, Taken, Ignored, Break, Done, Stored, Refused}
use Rattle.events.specs.declared.Outcome.{Outcome}
use Rattle.state.specs.State.{new_service, port_of}
use Rattle.events.specs.Outcomes.{answered_of, offered_of}
use Rattle.events.specs.Keyboard.{break_word, broken_of, on_effect, typed_of, read_of, on_passed, key_of, scan_of}
use Rattle.events.specs.Commands.{line_answer, on_line, poll_of, acknowledge_of, resend_of, time_out_of, restart_of}
use Rattle.events.specs.Functions.{as_stored, oldest_answer, for_old_program, take_of, look_of, status_of, set_rate_of, call_of}
use Rattle.events.specs.Step.{empty_of, step_of}
use Rattle.events.specs.Run.{next, after}
use Rattle.events.specs.Queued.{found_by, returned_by, removes, empties, words_after, Fits, Listed, QueueAsListed, QueueAtMostCapacity}

-- the words that an event found, what it answers and the queue after it
record Told (event : Event) (found : List Word) (answer : Answer) (later : Queue) : Type 0 where
  words : words_of later ≡ words_after event answer found
  fits : Fits event answer found
  whole : Whole later

record Tells (event : Event) (found : List Word) (outcome : Outcome) : Type 0 where
  told : Told event found outcome.answer outcome.service.queue

-- ---- the queue is left alone

-- an answer that says nothing of the queue
record Idle (event : Event) (answer : Answer) : Type 0 where
  words : (list : List Word) → words_after event answer list ≡ list
  fits : (list : List Word) → Fits event answer list

-- the answer 0B of an event that does not empty
done : {event : Event} → empties event ≡ false → Idle event Done
unfolding when◌then◌else◌
done e = record { words = λ list. simp e; fits = λ _. tt }

emptied : (list : List Word) → [] ≡ words_after Empty Done list
unfolding when◌then◌else◌
emptied list = refl

same : {event : Event} {answer : Answer} (q : Queue) → Whole q → Idle event answer → Told event (words_of q) answer q
same q w h = record { words = sym (h.words (words_of q)); fits = h.fits (words_of q); whole = w }

-- ---- a word is offered

module _ (event : Event) (kept full : Answer) (service : Service) (word : Word) (w : Whole service.queue)
    (appends : (list : List Word) → words_after event kept list ≡ list ++ (word ∷ []))
    (drops : (list : List Word) → words_after event full list ≡ list)
    (room : (list : List Word) → length list < queue.capacity → Fits event kept list)
    (none : (list : List Word) → length list ≡ queue.capacity → Fits event full list) where
  abbrev words_before : List Word
  words_before = words_of service.queue

  offered_by : (t : Bool) → has_room words_before ≡ t → Told event words_before (when t then kept else full) (queue.put_of service.queue word).queue
  unfolding put_in when◌then◌else◌
  offered_by true e =
      record {
        words = (as_listed.put service.queue word w).words ∙ simp e (sym (appends words_before));
        fits = room words_before (ltb-true (length words_before) queue.capacity e);
        whole = stays_whole.put service.queue word w;
      }
  offered_by false e =
      record {
        words = (as_listed.put service.queue word w).words ∙ simp e (sym (drops words_before));
        fits = none words_before (omega (arith, ltb-false (length words_before) queue.capacity e, at_most_capacity service.queue));
        whole = stays_whole.put service.queue word w;
      }

  offered_tells : Tells event words_before (offered_of service word kept full)
  unfolding offered_of answered_of
  offered_tells = record { told = rw (as_listed.put service.queue word w).stored (offered_by (has_room words_before) refl) }

-- ---- keys

broken_told : (event : Event) (found : List Word) → Told event found Break (queue.put_of queue.empty_queue break_word).queue
unfolding put_in when◌then◌else◌
broken_told event found =
    let whole = stays_whole.empty in
    record {
      words = (as_listed.put queue.empty_queue break_word whole).words ∙ simp empty_holds_none;
      fits = tt;
      whole = stays_whole.put queue.empty_queue break_word whole;
    }

effect_tells : (event : Event) (service : Service) (e : Effect) → Whole service.queue → Tells event (words_of service.queue) (on_effect service e)
unfolding on_effect answered_of broken_of
effect_tells event service effect.Nothing w = record { told = same service.queue w (record { words = λ _. refl; fits = λ _. tt }) }
effect_tells event service (effect.Put word) w =
    offered_tells event (Put word) (Dropped word) service word w (λ _. refl) (λ _. refl) (λ _ h. h) (λ _ h. h)
effect_tells event service effect.Break w = record { told = broken_told event (words_of service.queue) }
effect_tells event service effect.RestartAsked w = record { told = same service.queue w (record { words = λ _. refl; fits = λ _. tt }) }
effect_tells event service effect.Overrun w = record { told = same service.queue w (record { words = λ _. refl; fits = λ _. tt }) }

line_idle : (event : Event) (answer : LineAnswer) (when_taken : Answer) → Idle event when_taken → Idle event (line_answer answer when_taken)
line_idle event (line-answer.Send byte) when_taken h = record { words = λ _. refl; fits = λ _. tt }
line_idle event line-answer.Quiet when_taken h = record { words = λ _. refl; fits = λ _. tt }
line_idle event line-answer.Taken when_taken h = h
line_idle event line-answer.Ignored when_taken h = record { words = λ _. refl; fits = λ _. tt }
line_idle event line-answer.GivenUp when_taken h = record { words = λ _. refl; fits = λ _. tt }

line_tells : (event : Event) (service : Service) (after : LineOutcome) (when_taken : Answer) → Idle event when_taken → Whole service.queue
    → Tells event (words_of service.queue) (on_line service after when_taken)
unfolding on_line
line_tells event service after when_taken h w = record { told = same service.queue w (line_idle event after.answer when_taken h) }

typed_tells : (event : Event) (device : Device) (service : Service) (byte : ℕ) → Whole service.queue
    → Tells event (words_of service.queue) (typed_of device service byte)
unfolding typed_of
typed_tells event device service byte w = effect_tells event _ (key_byte_of (port_of device service.ports) service.shared byte).effect w

acknowledge_tells : (service : Service) (byte : ℕ) → Whole service.queue → Tells (Key byte) (words_of service.queue) (acknowledge_of service)
unfolding acknowledge_of
acknowledge_tells service byte w = line_tells (Key byte) service _ Taken (record { words = λ _. refl; fits = λ _. tt }) w

resend_tells : (service : Service) (byte : ℕ) → Whole service.queue → Tells (Key byte) (words_of service.queue) (resend_of service)
unfolding resend_of
resend_tells service byte w = line_tells (Key byte) service _ Taken (record { words = λ _. refl; fits = λ _. tt }) w

-- a byte that came raw, and what it became
read_tells : (service : Service) (raw byte : ℕ) → Whole service.queue → Tells (Key raw) (words_of service.queue) (read_of service byte)
unfolding read_of
read_tells service raw byte w =
    either (Tells (Key raw) (words_of service.queue)) _ _ _ (acknowledge_tells service raw w)
    (either (Tells (Key raw) (words_of service.queue)) _ _ _ (resend_tells service raw w) (typed_tells (Key raw) Keyboard service byte w))

passed_tells : (service : Service) (raw : ℕ) (p : Option ℕ) → Whole service.queue → Tells (Key raw) (words_of service.queue) (on_passed service p)
unfolding answered_of
passed_tells service raw None w = record { told = same service.queue w (record { words = λ _. refl; fits = λ _. tt }) }
passed_tells service raw (Some byte) w = read_tells service raw byte w

key_tells : (service : Service) (byte : ℕ) → Whole service.queue → Tells (Key byte) (words_of service.queue) (key_of service byte)
unfolding key_of
key_tells service byte w = passed_tells _ byte (translated_of service.codes byte).passed w

scan_tells : (service : Service) (byte : ℕ) → Whole service.queue → Tells (Scan byte) (words_of service.queue) (scan_of service byte)
unfolding scan_of answered_of
scan_tells service byte w =
    either (Tells (Scan byte) (words_of service.queue)) _ _ _
    (record { told = same {answer = Ignored} service.queue w (record { words = λ _. refl; fits = λ _. tt }) })
    (typed_tells (Scan byte) Scanner service byte w)

-- ---- functions

-- a function that returns words so
abbrev ReturnsBy : Event → (Word → Word) → Type 0
ReturnsBy event returned = (word : Word) → returned_by event word ≡ returned word

-- the answer for the first of a list, with the list after it
oldest_by : {returned : Word → Word} (event : Event) (list after : List Word) → ReturnsBy event returned → (when removes event then rest_in list else list) ≡ after
    → (after ≡ words_after event (oldest_answer returned (oldest_in list)) list) × Fits event (oldest_answer returned (oldest_in list)) list
oldest_by event [] after r e = (sym e ∙ either (λ (l : List Word). l ≡ []) (removes event) [] [] refl refl, refl)
oldest_by event (word ∷ later) after r e = (sym e, ap (λ (first : Word). first ∷ map (returned_by event) later) (r word))

-- 00 and 10
take_tells : {returned : Word → Word} (event : Event) (service : Service) → ReturnsBy event returned → removes event ≡ true → Whole service.queue
    → Tells event (words_of service.queue) (take_of returned service)
unfolding take_of answered_of when◌then◌else◌
take_tells event service r e w =
    let list = words_of service.queue in
    let listed = as_listed.take service.queue in
    let by = oldest_by event list (rest_in list) r (simp e) in
    record {
      told =
          record {
            words = listed.words ∙ by.0 ∙ rw listed.oldest;
            fits = rw listed.oldest by.1;
            whole = stays_whole.take service.queue w;
          };
    }

-- 01 and 11
look_tells : {returned : Word → Word} (event : Event) (service : Service) → ReturnsBy event returned → removes event ≡ false → Whole service.queue
    → Tells event (words_of service.queue) (look_of returned service)
unfolding look_of answered_of when◌then◌else◌
look_tells event service r e w =
    let list = words_of service.queue in
    let first = as_listed.first service.queue in
    let by = oldest_by event list list r (simp e) in
    record { told = record { words = by.0 ∙ rw first; fits = rw first by.1; whole = w } }

-- an answer of a function that says nothing of the queue
answered_tells : (event : Event) (service : Service) (answer : Answer) (q : Queue) → service.queue ≡ q → Whole q → Idle event answer
    → Tells event (words_of q) (answered_of service answer)
unfolding answered_of
answered_tells event service answer q e w h = record { told = rw e (same q w h) }

module _ (service : Service) (function a b : ℕ) where
  -- 00 and 01 find what an old program may see, every other function the words as they are
  old_found : (eqb function 0x00 || eqb function 0x01) ≡ true → found_by (Call function a b) (words_of service.queue) ≡ words_of (for_old_program service).queue
  unfolding when◌then◌else◌ for_old_program
  old_found old = simp old (sym (as_listed.past service.queue))

  all_found : eqb function 0x00 ≡ false → eqb function 0x01 ≡ false → found_by (Call function a b) (words_of service.queue) ≡ words_of service.queue
  unfolding when◌then◌else◌
  all_found d e = simp (d, e)

  -- and return them so
  old_returned : (eqb function 0x00 || eqb function 0x01) ≡ true → ReturnsBy (Call function a b) old_word_of
  unfolding when◌then◌else◌
  old_returned old word = simp old

  as_stored_lem : eqb function 0x00 ≡ false → eqb function 0x01 ≡ false → ReturnsBy (Call function a b) as_stored
  unfolding when◌then◌else◌
  as_stored_lem d e word = simp (d, e)

old_whole : (service : Service) → Whole service.queue → Whole (for_old_program service).queue
unfolding for_old_program
old_whole service w = stays_whole.past service.queue w

call_tells : (service : Service) (function a b : ℕ) → Whole service.queue
    → Tells (Call function a b) (found_by (Call function a b) (words_of service.queue)) (call_of service function a b)
unfolding call_of status_of set_rate_of
call_tells service function a b w =
    by_test (Tells event (found_by event (words_of q))) (eqb function 0x00) _ _
    (λ d. rw (old_found service function a b (simp d)) (take_tells event (for_old_program service) (old_returned service function a b (simp d)) (simp d) (old_whole service w)))
    (λ d.
    by_test (Tells event (found_by event (words_of q))) (eqb function 0x01) _ _
    (λ e.
    let one = eqb-true function 0x01 e in
    rw (old_found service function a b (simp one)) (look_tells event (for_old_program service) (old_returned service function a b (simp one)) (simp one) (old_whole service w)))
    (λ e.
    rw (all_found service function a b d e)
    (by_test (Tells event (words_of q)) (eqb function 0x10) _ _ (λ f. take_tells event service (as_stored_lem service function a b d e) (simp (d, f)) w)
    (λ f.
    either (Tells event (words_of q)) _ _ _ (look_tells event service (as_stored_lem service function a b d e) (simp (d, f)) w)
    (either (Tells event (words_of q)) _ _ _ (idle service _ refl (record { words = λ _. refl; fits = λ _. tt }))
    (either (Tells event (words_of q)) _ _ _ (idle service _ refl (record { words = λ _. refl; fits = λ _. tt }))
    (either (Tells event (words_of q)) _ _ _
    (either (Tells event (words_of q)) _ _ _ (idle service _ refl (record { words = λ _. refl; fits = λ _. tt }))
    (either (Tells event (words_of q)) _ _ _ (idle service _ refl (record { words = λ _. refl; fits = λ _. tt })) (idle _ Done refl (done refl))))
    (either (Tells event (words_of q)) _ _ _ (offered_tells event (Stored word) (Refused refusal.Full) service word w (λ _. refl) (λ _. refl) (λ _ h. h) (λ _ h. h)) (idle service _ refl (record { words = λ _. refl; fits = λ _. tt }))))))))))
  where
    event : Event
    event = Call function a b

    q : Queue
    q = service.queue

    word : Word
    word = word_with (code_of a) (ascii_of b)

    idle : (after : Service) (answer : Answer) → after.queue ≡ q → Idle event answer → Tells event (words_of q) (answered_of after answer)
    idle after answer e h = answered_tells event after answer q e w h

-- ---- every event

step_tells : (service : Service) (event : Event) → Whole service.queue → Tells event (found_by event (words_of service.queue)) (step_of service event)
unfolding step_of poll_of time_out_of restart_of empty_of answered_of when◌then◌else◌
step_tells service (Key byte) w = key_tells service byte w
step_tells service (Call function a b) w = call_tells service function a b w
step_tells service Poll w = line_tells Poll service _ Taken (record { words = λ _. refl; fits = λ _. tt }) w
step_tells service TimeOut w = line_tells TimeOut service _ Done (done refl) w
step_tells service Empty w = record { told = record { words = empty_holds_none ∙ emptied (words_of service.queue); fits = tt; whole = stays_whole.empty } }
step_tells service Restart w = record { told = same service.queue w (done refl) }
step_tells service (Scan byte) w = scan_tells service byte w

pub listed : (service : Service) (event : Event) → Whole service.queue → Listed service event
listed service event w = let told = (step_tells service event w).told in record { words = told.words; fits = told.fits }

pub whole_next : (service : Service) (event : Event) → Whole service.queue → Whole (next service event).queue
whole_next service event w = (step_tells service event w).told.whole

-- ---- lists

whole_after : (service : Service) (events : List Event) → Whole service.queue → Whole (after service events).queue
whole_after service [] w = w
whole_after service (event ∷ more) w = whole_after (next service event) more (whole_next service event w)

pub whole_new : (set : CodeSet) (locks : ℕ) → Whole (new_service set locks).queue
unfolding new_service
whole_new set locks = stays_whole.empty

pub queue_as_listed : QueueAsListed
queue_as_listed set locks events event = listed (after (new_service set locks) events) event (whole_after (new_service set locks) events (whole_new set locks))

pub queue_at_most_capacity : QueueAtMostCapacity
queue_at_most_capacity set locks events = at_most_capacity (after (new_service set locks) events).queue
