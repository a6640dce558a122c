-- Document 01, the queue of 15 words: what each call returns, whole, for every value of the struct.
-- Assumes nothing.
use Rattle.std.specs.Prelude.{ℕ, min, ◌+◌, ◌-◌, ◌%◌, Bool, true, false, ⊤, Result, Ok, Err, eqb, ltb, get_or, set, replicate, Option, None, Some}
use Rattle.bits.specs.Choice.{when◌then◌else◌}
use Rattle.word.specs.declared.Word.{Word}
use Rattle.word.specs.Word.{code_of, ascii_of, word_with}
use Rattle.queue.specs.declared.Queue.{Queue}
use Rattle.queue.specs.declared.Full.{Full}

-- how many words there is room for
abbrev pub capacity : ℕ
capacity = 15

-- how many places the array has; the last is never used
abbrev pub array_length : ℕ
array_length = 16

-- what stands where nothing was put yet
abbrev pub blank : Word
blank = word_with (code_of 0x00) (ascii_of 0x00)

-- the queue of a new service, and of one that was emptied
unfoldable pub empty_queue : Queue
empty_queue = record { words = replicate array_length blank; head = 0; count = 0 }

-- the place of the word that has so many older ones, round the places from the head on
abbrev pub place_of : ℕ → ℕ → ℕ
place_of head older = (head % capacity + older) % capacity

-- how many words a queue holds
abbrev pub held_in : Queue → ℕ
held_in queue = min queue.count capacity

-- functions 01 and 11: the oldest word, left
unfoldable pub oldest_of : Queue → Option Word
oldest_of queue = when eqb (held_in queue) 0 then None else Some (get_or queue.words (place_of queue.head 0) blank)

-- one word more, behind the newest
abbrev pub longer : Queue → Word → Queue
longer queue word =
    record { words = set queue.words (place_of queue.head (held_in queue)) word; head = queue.head; count = held_in queue + 1 }

-- what a put leaves: a word that is not stored is dropped
pub record AfterPut : Type 0 where
  pub stored : Bool
  pub queue : Queue

-- a word put: stored where there is room, else dropped
unfoldable pub put_of : Queue → Word → AfterPut
put_of queue word =
    when ltb (held_in queue) capacity
    then record { stored = true; queue = longer queue word }
    else record { stored = false; queue = queue }

-- what a put returns
abbrev pub stored_answer : Bool → Result ⊤ Full
stored_answer true = Ok tt
stored_answer false = Err (record {})

-- the words after the oldest
abbrev pub shorter : Queue → Queue
shorter queue = record { words = queue.words; head = place_of queue.head 1; count = held_in queue - 1 }

unfoldable pub rest_of : Queue → Queue
rest_of queue = when eqb (held_in queue) 0 then queue else shorter queue

-- what a take gives and leaves
pub record Taken : Type 0 where
  pub oldest : Option Word
  pub queue : Queue

-- functions 00 and 10: the oldest word, removed
unfoldable pub take_of : Queue → Taken
take_of queue = record { oldest = oldest_of queue; queue = rest_of queue }
