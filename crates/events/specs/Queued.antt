-- The queue over lists of events: at most 15 words, and every put appended or dropped as the list of words says.
-- Assumes nothing.
use Rattle.std.specs.Prelude.{ℕ, ◌<◌, ◌≤◌, ◌≡◌, Bool, true, false, ◌||◌, List, [], ◌∷◌, ◌++◌, map, eqb, length}
use Rattle.bits.specs.Choice.{when◌then◌else◌}
use Rattle.word.specs.declared.Word.{Word}
use Rattle.word.specs.OldWord.{old_word_of}
use Rattle.queue.specs.Queue.{capacity}
use Rattle.queue.specs.Words.{words_of, rest_in, past_enhanced_in}
use Rattle.translation.specs.declared.CodeSet.{CodeSet}
use Rattle.state.specs.declared.Service.{Service}
use Rattle.events.specs.declared.Event.{Event}
use Rattle.events.specs.declared.Event.TheVariants.{Key, Call, Poll, TimeOut, Empty, Restart, Scan}
use Rattle.answers.specs.declared.Refusal.TheVariants as refusal
use Rattle.answers.specs.declared.Answer.{Answer}
use Rattle.answers.specs.declared.Answer.TheVariants.{Nothing, Put, Dropped, Break, RestartAsked, Overrun, Taken, Ignored, Returned, NoWord, Status, Done, Stored, Send, Quiet, GivenUp, Refused}
use Rattle.state.specs.State.{new_service}
use Rattle.events.specs.Keyboard.{break_word}
use Rattle.events.specs.Step.{step_of}
use Rattle.events.specs.Run.{next, after}

-- functions 00 and 01, by which old programs read
abbrev pub is_old_read : Event → Bool
is_old_read (Key byte) = false
is_old_read (Call function a b) = eqb function 0x00 || eqb function 0x01
is_old_read Poll = false
is_old_read TimeOut = false
is_old_read Empty = false
is_old_read Restart = false
is_old_read (Scan byte) = false

-- the words that an event finds: 00 and 01 first remove the enhanced words before all others
abbrev pub found_by : Event → List Word → List Word
found_by event words = when is_old_read event then past_enhanced_in words else words

-- what an event returns for a word that it found
abbrev pub returned_by : Event → Word → Word
returned_by event word = when is_old_read event then old_word_of word else word

-- functions 00 and 10 remove the word that they return
abbrev pub removes : Event → Bool
removes (Key byte) = false
removes (Call function a b) = eqb function 0x00 || eqb function 0x10
removes Poll = false
removes TimeOut = false
removes Empty = false
removes Restart = false
removes (Scan byte) = false

-- E empties
abbrev pub empties : Event → Bool
empties (Key byte) = false
empties (Call function a b) = false
empties Poll = false
empties TimeOut = false
empties Empty = true
empties Restart = false
empties (Scan byte) = false

-- the words after an event, oldest first, by the event, its answer and the words that it found
abbrev pub words_after : Event → Answer → List Word → List Word
words_after event Nothing words = words
words_after event (Put word) words = words ++ (word ∷ [])
words_after event (Dropped word) words = words
words_after event Break words = break_word ∷ []
words_after event RestartAsked words = words
words_after event Overrun words = words
words_after event Taken words = words
words_after event Ignored words = words
words_after event (Returned word) words = when removes event then rest_in words else words
words_after event NoWord words = words
words_after event (Status status) words = words
words_after event Done words = when empties event then [] else words
words_after event (Stored word) words = words ++ (word ∷ [])
words_after event (Send byte) words = words
words_after event Quiet words = words
words_after event GivenUp words = words
words_after event (Refused refusal) words = words

-- a word is put below 15 words, dropped or refused at 15, returned for the first; no event is refused as a frame is
abbrev pub Fits : Event → Answer → List Word → Type 0
Fits event Nothing words = Unit {0}
Fits event (Put word) words = length words < capacity
Fits event (Dropped word) words = length words ≡ capacity
Fits event Break words = Unit {0}
Fits event RestartAsked words = Unit {0}
Fits event Overrun words = Unit {0}
Fits event Taken words = Unit {0}
Fits event Ignored words = Unit {0}
Fits event (Returned word) words = map (returned_by event) words ≡ word ∷ map (returned_by event) (rest_in words)
Fits event NoWord words = words ≡ []
Fits event (Status status) words = Unit {0}
Fits event Done words = Unit {0}
Fits event (Stored word) words = length words < capacity
Fits event (Send byte) words = Unit {0}
Fits event Quiet words = Unit {0}
Fits event GivenUp words = Unit {0}
Fits event (Refused refusal.Function) words = Unit {0}
Fits event (Refused refusal.Delay) words = Unit {0}
Fits event (Refused refusal.Rate) words = Unit {0}
Fits event (Refused refusal.Full) words = length words ≡ capacity
Fits event (Refused (refusal.Frame fault)) words = ⊥
Fits event (Refused (refusal.Port of-port)) words = ⊥

-- an event does to the words that it found what its answer says
pub record Listed (service : Service) (event : Event) : Type 0 where
  pub words : words_of (next service event).queue ≡ words_after event (step_of service event).answer (found_by event (words_of service.queue))
  pub fits : Fits event (step_of service event).answer (found_by event (words_of service.queue))

-- so it is at every event of every list from a new service
abbrev pub QueueAsListed : Type 0
QueueAsListed = (set : CodeSet) (locks : ℕ) (events : List Event) (event : Event) → Listed (after (new_service set locks) events) event

-- and no list brings more than 15 words
abbrev pub QueueAtMostCapacity : Type 0
QueueAtMostCapacity =
    (set : CodeSet) (locks : ℕ) (events : List Event) → length (words_of (after (new_service set locks) events).queue) ≤ capacity
