-- The functions that read the queue do what OldPrograms.antt of specs/ says, since the queue's calls are the same on its list of words.
-- Assumes nothing.
use Prim.Native.Nat.{ℕ, zero, suc}
use mathlib.Core.Path.{◌≡◌, refl, ap, ◌∙◌, subst}
use mathlib.Core.List.{List, [], ◌∷◌}
use lib.ListN.{replicate}
use Rattle.bits.specs.Choice.{when◌then◌else◌}
use Rattle.word.specs.declared.Word.{Word}
use Rattle.word.specs.Word.{code_of, word_with, word_from}
use Rattle.word.specs.OldWord.{old_word_of}
use Rattle.word.proofs.Laws.{character_stays}
use Rattle.queue.specs.declared.Queue.{Queue}
use Rattle.queue.specs.Words.{words_of, oldest_in, rest_in, past_enhanced_in, AllEnhanced}
use Rattle.queue.proofs.Laws.{as_listed, passes_ahead, passes_all}
use Rattle.state.specs.declared.Service.{Service}
use Rattle.state.specs.State.{with_queue}
use Rattle.answers.specs.declared.Answer.TheVariants.{Returned}
use Rattle.events.specs.Outcomes.{answered_of}
use Rattle.events.specs.Functions.{as_stored, oldest_answer, for_old_program, take_of, look_of, call_of}
use Rattle.events.specs.Step.{step_of}
use Rattle.events.specs.OldPrograms.{Reads, ReadBy, FirstOtherIsRead, CharacterIsReadUnaltered, OnlyEnhancedAreRemoved, OldestIsRead, fifteen_f11, FifteenEmptied}
use Rattle.events.proofs.Model.{model}

-- a take and a look at this queue, by its words, which are returned so
module _ (returned : Word → Word) (service : Service) (seen : Queue) (words : List Word) (is : words_of seen ≡ words) where
  taking : Reads service (take_of returned (with_queue service seen)) (oldest_answer returned (oldest_in words)) (rest_in words)
  unfolding take_of answered_of
  taking = let taken = as_listed.take seen in record { answered = rw (taken.oldest, is); words = rw (taken.words, is); beside = refl }

  looking : Reads service (look_of returned (with_queue service seen)) (oldest_answer returned (oldest_in words)) words
  unfolding look_of answered_of
  looking = record { answered = rw (as_listed.first seen, is); words = is; beside = refl }

pub first_other_is_read : FirstOtherIsRead
unfolding step_of call_of when◌then◌else◌ for_old_program
first_other_is_read service a b ahead word later e all other =
    let seen = as_listed.past service.queue ∙ ap past_enhanced_in e ∙ passes_ahead ahead word later all other in
    record { taking = taking old_word_of service _ (word ∷ later) seen; looking = looking old_word_of service _ (word ∷ later) seen }

pub character_is_read_unaltered : CharacterIsReadUnaltered
character_is_read_unaltered service a b ascii later e =
    let character = word_with (code_of 0x00) ascii in
    subst (λ (returned : Word). ReadBy 0x00 0x01 service a b (Returned returned) later (character ∷ later)) (character_stays ascii)
    (first_other_is_read service a b [] character later e tt refl)

pub only_enhanced_are_removed : OnlyEnhancedAreRemoved
unfolding step_of call_of when◌then◌else◌ for_old_program
only_enhanced_are_removed service a b all =
    let seen = as_listed.past service.queue ∙ passes_all (words_of service.queue) all in
    record { taking = taking old_word_of service _ [] seen; looking = looking old_word_of service _ [] seen }

pub oldest_is_read : OldestIsRead
unfolding step_of call_of when◌then◌else◌
oldest_is_read service a b word later e =
    record { taking = taking as_stored service _ (word ∷ later) e; looking = looking as_stored service _ (word ∷ later) e }

fifteen_words : words_of fifteen_f11.queue ≡ replicate 15 (word_from 0x8500)
unfolding model words_of
fifteen_words = refl

each_enhanced : (n : ℕ) → AllEnhanced (replicate n (word_from 0x8500))
each_enhanced zero = tt
each_enhanced (suc n) = (refl, each_enhanced n)

pub fifteen_emptied : FifteenEmptied
fifteen_emptied =
    record { full = fifteen_words; empty = (only_enhanced_are_removed fifteen_f11 0 0 (rw fifteen_words (each_enhanced 15))).looking }
