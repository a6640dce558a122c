-- Document 02, W-201 and W-205, as laws: what functions 00 and 01 answer and leave, and that 10 and 11 show every word as it is stored.
-- Assumes nothing.
use Rattle.std.specs.Prelude.{ℕ, ◌≡◌, false, List, [], ◌∷◌, ◌++◌, replicate}
use Rattle.word.specs.declared.Ascii.{Ascii}
use Rattle.word.specs.declared.Word.{Word}
use Rattle.word.specs.Word.{code_of, word_with, is_enhanced, word_from}
use Rattle.word.specs.OldWord.{old_word_of}
use Rattle.queue.specs.Words.{words_of, AllEnhanced}
use Rattle.translation.specs.declared.CodeSet.TheVariants.{One}
use Rattle.state.specs.declared.Service.{Service}
use Rattle.state.specs.State.{new_service, with_queue}
use Rattle.events.specs.declared.Outcome.{Outcome}
use Rattle.events.specs.declared.Event.TheVariants.{Key, Call}
use Rattle.answers.specs.declared.Answer.{Answer}
use Rattle.answers.specs.declared.Answer.TheVariants.{Returned, NoWord}
use Rattle.events.specs.Step.{step_of}
use Rattle.events.specs.Run.{after}

-- the outcome of a call of this service answers so, leaves these words in the queue, and changes nothing else
pub record Reads (service : Service) (outcome : Outcome) (answer : Answer) (left : List Word) : Type 0 where
  pub answered : outcome.answer ≡ answer
  pub words : words_of outcome.service.queue ≡ left
  pub beside : outcome.service ≡ with_queue service outcome.service.queue

-- a function that takes and one that looks answer alike, and each leaves its own words
pub record ReadBy (take look : ℕ) (service : Service) (a b : ℕ) (answer : Answer) (taken looked : List Word) : Type 0 where
  pub taking : Reads service (step_of service (Call take a b)) answer taken
  pub looking : Reads service (step_of service (Call look a b)) answer looked

-- 00 and 01 return the first word that is not enhanced, as an old program knows it; 00 leaves what stood behind it, 01 the word too, as it was stored
abbrev pub FirstOtherIsRead : Type 0
FirstOtherIsRead = (service : Service) (a b : ℕ) (ahead : List Word) (word : Word) (later : List Word) → words_of service.queue ≡ ahead ++ word ∷ later
    → AllEnhanced ahead → is_enhanced word ≡ false → ReadBy 0x00 0x01 service a b (Returned (old_word_of word)) later (word ∷ later)

-- a character that has no scan code, E0 too, is returned as it is stored
abbrev pub CharacterIsReadUnaltered : Type 0
CharacterIsReadUnaltered = (service : Service) (a b : ℕ) (ascii : Ascii) (later : List Word)
    → let character = word_with (code_of 0x00) ascii in words_of service.queue ≡ character ∷ later
    → ReadBy 0x00 0x01 service a b (Returned character) later (character ∷ later)

-- a queue of enhanced words alone, however many, is emptied by one 00 and by one 01
abbrev pub OnlyEnhancedAreRemoved : Type 0
OnlyEnhancedAreRemoved = (service : Service) (a b : ℕ) → AllEnhanced (words_of service.queue) → ReadBy 0x00 0x01 service a b NoWord [] []

-- 10 and 11 return the oldest word whatever it is, and only 10 removes it
abbrev pub OldestIsRead : Type 0
OldestIsRead = (service : Service) (a b : ℕ) (word : Word) (later : List Word) → words_of service.queue ≡ word ∷ later
    → ReadBy 0x10 0x11 service a b (Returned word) later (word ∷ later)

-- fifteen F11 fill a queue with enhanced words, and one 01 empties it
abbrev pub fifteen_f11 : Service
fifteen_f11 = after (new_service One 0) (replicate 15 (Key 0x57))

pub record FifteenEmptied : Type 0 where
  pub full : words_of fifteen_f11.queue ≡ replicate 15 (word_from 0x8500)
  pub empty : Reads fifteen_f11 (step_of fifteen_f11 (Call 0x01 0 0)) NoWord []
