-- What a queue means: the list of its words, oldest first, and what each call does to it. Laws.antt of proofs/ proves each sentence.
-- Assumes nothing.
use Rattle.std.specs.Prelude.{ℕ, zero, suc, ◌%◌, ◌<◌, ◌≤◌, ◌≡◌, Bool, true, false, List, [], ◌∷◌, ◌++◌, ltb, length, get_or, Option, None, Some}
use Rattle.bits.specs.Choice.{when◌then◌else◌}
use Rattle.word.specs.declared.Word.{Word}
use Rattle.word.specs.Word.{is_enhanced}
use Rattle.queue.specs.declared.Queue.{Queue}
use Rattle.queue.specs.Queue.{capacity, array_length, blank, held_in, empty_queue, oldest_of, put_of, take_of}
use Rattle.queue.specs.Enhanced.{past_enhanced}

-- so many words, round the 15 places from a place on
abbrev pub ring : List Word → ℕ → ℕ → List Word
ring words place zero = []
ring words place (suc many) = get_or words (place % capacity) blank ∷ ring words (suc place) many

-- the words of a queue, oldest first
unfoldable pub words_of : Queue → List Word
words_of queue = ring queue.words queue.head (held_in queue)

-- the array has all its places, as in the code it always has; here it is a list, which could be shorter
pub record Whole (queue : Queue) : Type 0 where
  pub places : length queue.words ≡ array_length

-- a queue never holds more than 15 words
abbrev pub AtMostCapacity : Type 0
AtMostCapacity = (queue : Queue) → length (words_of queue) ≤ capacity

-- the empty queue holds none
abbrev pub EmptyHoldsNone : Type 0
EmptyHoldsNone = words_of empty_queue ≡ []

-- a put to fewer than 15 words stores the word as the newest
pub record Appended (queue : Queue) (word : Word) : Type 0 where
  pub stored : (put_of queue word).stored ≡ true
  pub words : words_of (put_of queue word).queue ≡ words_of queue ++ (word ∷ [])

abbrev pub PutAppends : Type 0
PutAppends = (queue : Queue) (word : Word) → Whole queue → length (words_of queue) < capacity → Appended queue word

-- a put to 15 words stores nothing and changes nothing
abbrev pub PutDrops : Type 0
PutDrops = (queue : Queue) (word : Word) → length (words_of queue) ≡ capacity → put_of queue word ≡ record { stored = false; queue = queue }

-- a take gives the oldest word and leaves those after it
pub record Removed (queue : Queue) (word : Word) (later : List Word) : Type 0 where
  pub oldest : (take_of queue).oldest ≡ Some word
  pub words : words_of (take_of queue).queue ≡ later

abbrev pub TakeRemoves : Type 0
TakeRemoves = (queue : Queue) (word : Word) (later : List Word) → words_of queue ≡ word ∷ later → Removed queue word later

-- a take from no words gives none and changes nothing
abbrev pub TakeOfNone : Type 0
TakeOfNone = (queue : Queue) → words_of queue ≡ [] → take_of queue ≡ record { oldest = None; queue = queue }

-- the head is a place that is used, and the count no more than there is room for
pub record QueueInRange (queue : Queue) : Type 0 where
  pub head : queue.head < capacity
  pub count : queue.count ≤ capacity

-- every call keeps a queue in range
pub record QueueStaysInRange : Type 0 where
  pub empty : QueueInRange empty_queue
  pub put : (queue : Queue) (word : Word) → QueueInRange queue → QueueInRange (put_of queue word).queue
  pub take : (queue : Queue) → QueueInRange queue → QueueInRange (take_of queue).queue
  pub past : (queue : Queue) → QueueInRange queue → QueueInRange (past_enhanced queue)

-- no call loses a place of the array
pub record StaysWhole : Type 0 where
  pub empty : Whole empty_queue
  pub put : (queue : Queue) (word : Word) → Whole queue → Whole (put_of queue word).queue
  pub take : (queue : Queue) → Whole queue → Whole (take_of queue).queue
  pub past : (queue : Queue) → Whole queue → Whole (past_enhanced queue)

-- The calls again, as steps on a list, so that a run of calls is the same run on the list of words.
abbrev pub has_room : List Word → Bool
has_room words = ltb (length words) capacity

unfoldable pub put_in : List Word → Word → List Word
put_in words word = when has_room words then words ++ (word ∷ []) else words

abbrev pub oldest_in : List Word → Option Word
oldest_in [] = None
oldest_in (word ∷ later) = Some word

abbrev pub rest_in : List Word → List Word
rest_in [] = []
rest_in (word ∷ later) = later

abbrev pub past_enhanced_in : List Word → List Word
past_enhanced_in [] = []
past_enhanced_in (word ∷ later) = when is_enhanced word then past_enhanced_in later else word ∷ later

-- a put is the put on the list, and the word is stored where the list has room
pub record PutAsListed (queue : Queue) (word : Word) : Type 0 where
  pub stored : (put_of queue word).stored ≡ has_room (words_of queue)
  pub words : words_of (put_of queue word).queue ≡ put_in (words_of queue) word

-- a take gives and leaves what the list would
pub record TakeAsListed (queue : Queue) : Type 0 where
  pub oldest : (take_of queue).oldest ≡ oldest_in (words_of queue)
  pub words : words_of (take_of queue).queue ≡ rest_in (words_of queue)

pub record AsListed : Type 0 where
  pub put : (queue : Queue) (word : Word) → Whole queue → PutAsListed queue word
  pub first : (queue : Queue) → oldest_of queue ≡ oldest_in (words_of queue)
  pub take : (queue : Queue) → TakeAsListed queue
  pub past : (queue : Queue) → words_of (past_enhanced queue) ≡ past_enhanced_in (words_of queue)

-- ---- which words go before an old program sees one

abbrev pub AllEnhanced : List Word → Type 0
AllEnhanced [] = Unit {0}
AllEnhanced (word ∷ later) = (is_enhanced word ≡ true) × AllEnhanced later

-- enhanced words go where no other stands before them; the first other word stays, and all behind it
abbrev pub PassesAhead : Type 0
PassesAhead = (ahead : List Word) (word : Word) (later : List Word) → AllEnhanced ahead → is_enhanced word ≡ false
    → past_enhanced_in (ahead ++ word ∷ later) ≡ word ∷ later

-- where no other word stands, all go
abbrev pub PassesAll : Type 0
PassesAll = (words : List Word) → AllEnhanced words → past_enhanced_in words ≡ []
