-- Document 02, W-201: what an old program may see of a queue. Enhanced words at its head are removed unseen.
-- Assumes nothing.
use Rattle.word.specs.declared.Word.{Word}
use Rattle.std.specs.Prelude.{ℕ, zero, suc, Bool, false, Option, None, Some}
use Rattle.bits.specs.Choice.{when◌then◌else◌}
use Rattle.word.specs.Word.{is_enhanced}
use Rattle.queue.specs.declared.Queue.{Queue}
use Rattle.queue.specs.Queue.{held_in, oldest_of, rest_of}

-- whether there is an oldest word and it is enhanced
abbrev pub oldest_enhanced : Option Word → Bool
oldest_enhanced None = false
oldest_enhanced (Some word) = is_enhanced word

abbrev pub starts_enhanced : Queue → Bool
starts_enhanced queue = oldest_enhanced (oldest_of queue)

-- at most so many words removed
abbrev pub past_at_most : ℕ → Queue → Queue
past_at_most zero queue = queue
past_at_most (suc n) queue = when starts_enhanced queue then past_at_most n (rest_of queue) else queue

-- the queue from its first word on that is not enhanced
unfoldable pub past_enhanced : Queue → Queue
past_enhanced queue = past_at_most (held_in queue) queue
