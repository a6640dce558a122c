-- The laws that Words.antt of specs/ states: what each call does to the list of words.
-- Assumes nothing.
use mathlib.Core.Path.{◌≡◌, refl, ◌∙◌, ap, sym}
use mathlib.Core.Logic.{⊎_elim}
use mathlib.Core.Bool.{Bool, true, false}
use mathlib.Core.List.{List, [], ◌∷◌}
use Prim.Native.Nat.{◌<◌}
use native.Mathlib.Nat.{eq-or-lt_of_le}
use native.Mathlib.Omega.{arith}
use lib.Dec.{ltb}
use borrow.Author.Tests.{lt-ltb, le-ltb, ltb-true}
use lib.ListN.{length, length-set}
use Rattle.bits.specs.Choice.{when◌then◌else◌}
use Rattle.bits.proofs.Choice.{by_test, either}
use Rattle.word.specs.declared.Word.{Word}
use Rattle.word.specs.Word.{is_enhanced}
use Rattle.queue.specs.declared.Queue.{Queue}
use Rattle.queue.specs.Queue.{AfterPut}
use Rattle.queue.specs.Queue.{capacity, held_in, empty_queue, put_of, rest_of, take_of}
use Rattle.queue.specs.Enhanced.{oldest_enhanced, starts_enhanced, past_enhanced}
use Rattle.queue.specs.Words.{words_of, Whole, AtMostCapacity, EmptyHoldsNone, PutAppends, PutDrops, TakeRemoves, TakeOfNone, StaysWhole, QueueInRange, QueueStaysInRange, put_in, past_enhanced_in, PutAsListed, TakeAsListed, AsListed, PassesAhead, PassesAll}
use Rattle.queue.proofs.Calls.{put_room, put_full, oldest_none, oldest_some, rest_none, rest_some}
use Rattle.queue.proofs.Past.{past_one, past_end, past_keeps}
use Rattle.queue.proofs.Ring.{words_length, words_longer, words_split}

-- how many words a queue holds, from the list
holds : {words : List Word} (queue : Queue) → words_of queue ≡ words → held_in queue ≡ length words
holds queue e = sym (words_length queue) ∙ ap length e

pub at_most_capacity : AtMostCapacity
at_most_capacity queue = omega (arith, words_length queue)

pub empty_holds_none : EmptyHoldsNone
unfolding empty_queue words_of
empty_holds_none = refl

pub put_appends : PutAppends
put_appends queue word whole room =
    let less : held_in queue < capacity = omega (arith, words_length queue) in
    let e = put_room queue word less in
    record { stored = rw e; words = rw e (words_longer queue word whole less) }

pub put_drops : PutDrops
put_drops queue word full = put_full queue word (omega (arith, words_length queue))

pub take_removes : TakeRemoves
unfolding take_of
take_removes queue word later e =
    let some : 0 < held_in queue = omega (arith, holds queue e) in
    let split = words_split queue (length later) (holds queue e) in
    record { oldest = rw (oldest_some queue some) (cc); words = rw (rest_some queue some) (cc) }

pub take_of_none : TakeOfNone
unfolding take_of
take_of_none queue e = let none = holds queue e in rw (oldest_none queue none, rest_none queue none)

rest_whole : (queue : Queue) → Whole queue → Whole (rest_of queue)
unfolding rest_of
rest_whole queue whole = either Whole _ _ _ whole (record { places = whole.places })

pub stays_whole : StaysWhole
unfolding empty_queue put_of take_of
stays_whole =
    record {
      empty = record { places = refl };
      put = λ queue word whole. either (λ (after : AfterPut). Whole after.queue) _ _ _ (record { places = length-set queue.words _ word ∙ whole.places }) whole;
      take = rest_whole;
      past = past_keeps Whole rest_whole;
    }

rest_in_range : (queue : Queue) → QueueInRange queue → QueueInRange (rest_of queue)
unfolding rest_of
rest_in_range queue within = either QueueInRange _ _ _ within (record { head = omega arith; count = omega (arith, within.count) })

pub queue_stays_in_range : QueueStaysInRange
unfolding empty_queue put_of take_of
queue_stays_in_range =
    record {
      empty = record { head = omega arith; count = omega arith };
      put = λ queue word within. by_test (λ (after : AfterPut). QueueInRange after.queue) (ltb (held_in queue) capacity) _ _
          (λ room. let less : held_in queue < capacity = ltb-true _ _ room in record { head = within.head; count = omega arith }) (λ _. within);
      take = rest_in_range;
      past = past_keeps QueueInRange rest_in_range;
    }

listed_drop : (queue : Queue) (word : Word) → length (words_of queue) ≡ capacity → PutAsListed queue word
unfolding put_in when◌then◌else◌
listed_drop queue word full =
    let no_room = le-ltb (length (words_of queue)) capacity (omega arith) in
    let dropped = put_drops queue word full in
    record { stored = simp (no_room, dropped); words = simp (no_room, dropped) }

listed_append : (queue : Queue) (word : Word) → Whole queue → length (words_of queue) < capacity → PutAsListed queue word
unfolding put_in when◌then◌else◌
listed_append queue word whole less =
    let room = lt-ltb (length (words_of queue)) capacity less in
    let appended = put_appends queue word whole less in
    record { stored = simp room appended.stored; words = simp room appended.words }

listed_take : (queue : Queue) (words : List Word) → words_of queue ≡ words → TakeAsListed queue
listed_take queue [] e = record { oldest = rw (take_of_none queue e, e); words = rw (take_of_none queue e, e) }
listed_take queue (word ∷ later) e = let removed = take_removes queue word later e in record { oldest = rw e removed.oldest; words = rw e removed.words }

-- by whether the first word is enhanced
past_first : (queue : Queue) (word : Word) (later : List Word) → starts_enhanced queue ≡ is_enhanced word → words_of queue ≡ word ∷ later
    → words_of (past_enhanced (rest_of queue)) ≡ past_enhanced_in later → (t : Bool) → is_enhanced word ≡ t → words_of (past_enhanced queue) ≡ past_enhanced_in (word ∷ later)
unfolding when◌then◌else◌
past_first queue word later first e more true t = simp t (ap words_of (past_one queue (first ∙ t)) ∙ more)
past_first queue word later first e more false t = simp t (ap words_of (past_end queue (first ∙ t)) ∙ e)

listed_past : (words : List Word) (queue : Queue) → words_of queue ≡ words → words_of (past_enhanced queue) ≡ past_enhanced_in words
unfolding take_of
listed_past [] queue e = ap words_of (past_end queue (ap oldest_enhanced (oldest_none queue (holds queue e)))) ∙ e
listed_past (word ∷ later) queue e =
    let removed = take_removes queue word later e in
    past_first queue word later (ap oldest_enhanced removed.oldest) e (listed_past later (rest_of queue) removed.words) (is_enhanced word) refl

pub as_listed : AsListed
unfolding take_of
as_listed =
    record {
      put = λ queue word whole. ⊎_elim (listed_drop queue word) (listed_append queue word whole) (eq-or-lt_of_le (at_most_capacity queue));
      first = λ queue. (listed_take queue (words_of queue) refl).oldest;
      take = λ queue. listed_take queue (words_of queue) refl;
      past = λ queue. listed_past (words_of queue) queue refl;
    }

pub passes_ahead : PassesAhead
unfolding when◌then◌else◌
passes_ahead [] word later all other = simp other
passes_ahead (first ∷ more) word later all other = simp all.0 (passes_ahead more word later all.1 other)

pub passes_all : PassesAll
unfolding when◌then◌else◌
passes_all [] all = refl
passes_all (word ∷ later) all = simp all.0 (passes_all later all.1)
