-- What old programs see is what they saw before document 02, W-205. Proved in proofs/Lists.antt.
-- Assumes nothing.
use Rattle.std.specs.Prelude.{ℕ, ◌≡◌, Bool, false, List, [], ◌∷◌, map, eqb}
use Rattle.bits.specs.Choice.{when◌then◌else◌}
use Rattle.word.specs.OldWord.{old_word_of}
use Rattle.queue.specs.Words.{words_of}
use Rattle.translation.specs.declared.CodeSet.{CodeSet}
use Rattle.state.specs.State.{new_service, with_queue}
use Rattle.answers.specs.declared.Answer.{Answer}
use Rattle.answers.specs.declared.Answer.TheVariants.{Nothing, Put, Dropped, Break, RestartAsked, Overrun, Taken, Ignored, Returned, NoWord, Status, Done, Stored, Send, Quiet, GivenUp, Refused}
use Rattle.events.specs.declared.Event.{Event}
use Rattle.events.specs.declared.Event.TheVariants.{Key, Call, Poll, TimeOut, Empty, Restart, Scan}
use Rattle.events.specs.declared.Outcome.{Outcome}
use Rattle.events.specs.Step.{step_of}
use Rattle.events.specs.Queued.{is_old_read}
use Rattle.lists.specs.Items.{Item, after_items}
use Rattle.lists.specs.EventLaws.{Ran, event, change, ported, ran_of}
use Rattle.former.specs.Former.{former_step_of, former_after}

-- function 05 puts a word that no key put
abbrev pub stores : Event → Bool
stores (Key byte) = false
stores (Call function a b) = eqb function 0x05
stores Poll = false
stores TimeOut = false
stores Empty = false
stores Restart = false
stores (Scan byte) = false

abbrev pub NoneStores : List Ran → Type 0
NoneStores [] = Unit {0}
NoneStores (event e ∷ more) = (stores e ≡ false) × NoneStores more
NoneStores (change set ∷ more) = NoneStores more
NoneStores (ported e ∷ more) = NoneStores more

-- an answer with its word as an old program knows it
abbrev pub as_old_answer : Answer → Answer
as_old_answer Nothing = Nothing
as_old_answer (Put word) = Put (old_word_of word)
as_old_answer (Dropped word) = Dropped (old_word_of word)
as_old_answer Break = Break
as_old_answer RestartAsked = RestartAsked
as_old_answer Overrun = Overrun
as_old_answer Taken = Taken
as_old_answer Ignored = Ignored
as_old_answer (Returned word) = Returned (old_word_of word)
as_old_answer NoWord = NoWord
as_old_answer (Status status) = Status status
as_old_answer Done = Done
as_old_answer (Stored word) = Stored word
as_old_answer (Send byte) = Send byte
as_old_answer Quiet = Quiet
as_old_answer GivenUp = GivenUp
as_old_answer (Refused refusal) = Refused refusal

-- what was told at an event, of what is told now: by 00 and 01 the same; by keys, 10 and 11 the words that 00 and 01 return for theirs
abbrev pub told_at : Event → Answer → Answer
told_at e answer = when is_old_read e then answer else as_old_answer answer

-- but for the stored words the services are one
pub record AsFormerly (event : Event) (now former : Outcome) : Type 0 where
  pub answer : former.answer ≡ told_at event now.answer
  pub sent : former.sent ≡ now.sent
  pub beside : former.service ≡ with_queue now.service former.service.queue
  pub words : words_of former.service.queue ≡ map old_word_of (words_of now.service.queue)

-- so it is at every event after every list from a new service, with all that a list can hold, where keys alone put words
abbrev pub OldProgramsSeeNoChange : Type 0
OldProgramsSeeNoChange = (set : CodeSet) (locks : ℕ) (items : List Item) (e : Event) →
    let new = new_service set locks in
    NoneStores (ran_of new items) → stores e ≡ false →
    AsFormerly e (step_of (after_items new items) e) (former_step_of (former_after new (ran_of new items)) e)
