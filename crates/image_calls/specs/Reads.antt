-- A pack as C reads it: one event, where the next begins, and refusals 6, 7, 8 and 10.
-- Assumes nothing.
use Rattle.std.specs.Prelude.{ℕ, ◌-◌, List, length, drop, Some, None, Ok, Err}
use Rattle.pack.specs.Reading.{Read, read_at, rest_of, refusal_of}
use Rattle.image_calls.specs.declared.Reading.{Reading}
use Rattle.image_calls.specs.Exports.{written}

-- no event was read: its tag is 0, and the next reading would begin here again
abbrev pub stopped_at : ℕ → ℕ → Reading
stopped_at start refusal = record { next = start; event = record { tag = 0; a = 0; b = 0; c = 0 }; refusal = refusal }

-- where the last part of a pack begins
abbrev pub begins_at : List ℕ → List ℕ → ℕ
begins_at pack part = length pack - length part

-- behind an event the part after it is handed on
abbrev pub reading_from : List ℕ → ℕ → Read → Reading
reading_from pack start (Ok (Some (event, bytes))) =
    record { next = begins_at pack (rest_of (Ok (Some (event, bytes))) (drop start pack)); event = written event; refusal = 0 }
reading_from pack start (Ok None) = stopped_at start (refusal_of (Ok None))
reading_from pack start (Err refusal) = stopped_at start (refusal_of (Err refusal))

abbrev pub read_to : List ℕ → ℕ → Reading
read_to pack start = reading_from pack start (read_at pack start)
