-- Queues as numbers, and what any such numbers mean.
-- Assumes nothing.
use Rattle.std.specs.Prelude.{ℕ, min, map, ltb}
use Rattle.bits.specs.Choice.{when◌then◌else◌}
use Rattle.word.specs.declared.Word.{Word}
use Rattle.word.specs.Word.{code_of, ascii_of, word_with}
use Rattle.queue.specs.declared.Queue.{Queue}
use Rattle.queue.specs.Queue.{capacity}
use Rattle.image.specs.declared.WordImage.{WordImage}
use Rattle.image.specs.declared.QueueImage.{QueueImage}

abbrev pub word_image : Word → WordImage
word_image word = record { scan = word.scan.0; ascii = word.ascii.0 }

abbrev pub word_at_image : WordImage → Word
word_at_image image = word_with (code_of image.scan) (ascii_of image.ascii)

unfoldable pub queue_image : Queue → QueueImage
queue_image queue =
    record { head = queue.head; count = queue.count; words = map word_image queue.words }

-- a head beyond the fifteenth place is read as the first, a count above 15 as 15
unfoldable pub head_at : ℕ → ℕ
head_at head = when ltb head capacity then head else 0

unfoldable pub queue_at : QueueImage → Queue
queue_at image =
    record { words = map word_at_image image.words; head = head_at image.head; count = min image.count capacity }
