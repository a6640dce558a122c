-- Document 01, "Events, as a pack encodes them", with refusals 6, 7, 8 and 10: what reading one event finds.
-- Assumes nothing.
use Rattle.std.specs.Prelude.{ℕ, List, [], ◌∷◌, eqb, ltb, length, drop, Option, Some, None, Result, Ok, Err}
use Rattle.bits.specs.Choice.{when◌then◌else◌}
use Rattle.events.specs.declared.Event.{Event}
use Rattle.events.specs.declared.Event.TheVariants.{Key, Call, Poll, TimeOut, Empty, Restart, Scan}
use Rattle.events.specs.Tags.{key_tag, call_tag, poll_tag, time_out_tag, empty_tag, restart_tag, scan_tag}
use Rattle.pack.specs.declared.ReadError.{ReadError}
use Rattle.pack.specs.declared.ReadError.TheVariants.{UnknownTag, CutShort, TooLong, Beyond}

-- an event with the count of its bytes, nothing at the end, or why no event can be read
abbrev pub Read : Type 0
Read = Result (Option (Event × ℕ)) ReadError

-- the most bytes that a pack may have
abbrev pub limit : ℕ
limit = 32768

-- K b and, by document 02, W-206, S b: two bytes; refusal 7 where b is missing
abbrev pub byte_of : (ℕ → Event) → List ℕ → Read
byte_of event [] = Err CutShort
byte_of event (byte ∷ later) = Ok (Some (event byte, 2))

-- C f a b, four bytes; refusal 7 where one is missing, also one that the function does not use
abbrev pub call_of : List ℕ → Read
call_of [] = Err CutShort
call_of (function ∷ []) = Err CutShort
call_of (function ∷ a ∷ []) = Err CutShort
call_of (function ∷ a ∷ b ∷ later) = Ok (Some (Call function a b, 4))

-- the event of a tag, with the bytes after it; P, T, E and R are the tag alone; refusal 6 for any other tag
unfoldable pub tagged_of : ℕ → List ℕ → Read
tagged_of tag operands =
    when eqb tag key_tag then byte_of Key operands
    else when eqb tag call_tag then call_of operands
    else when eqb tag poll_tag then Ok (Some (Poll, 1))
    else when eqb tag time_out_tag then Ok (Some (TimeOut, 1))
    else when eqb tag empty_tag then Ok (Some (Empty, 1))
    else when eqb tag restart_tag then Ok (Some (Restart, 1))
    else when eqb tag scan_tag then byte_of Scan operands
    else Err UnknownTag

-- the first event of a part; an empty part is the end
unfoldable pub first_of : List ℕ → Read
first_of [] = Ok None
first_of (tag ∷ operands) = tagged_of tag operands

-- the event at a start in a pack; refusal 8 before 10, and the start at the length is the end
unfoldable pub read_at : List ℕ → ℕ → Read
read_at pack start =
    when ltb limit (length pack) then Err TooLong
    else when ltb (length pack) start then Err Beyond
    else first_of (drop start pack)

-- the part of a pack from a start on: nothing of a pack that is too long, nothing beyond the length
unfoldable pub part_at : List ℕ → ℕ → List ℕ
part_at pack start = when ltb limit (length pack) then [] else drop start pack

-- what is handed on after a reading: the part after the event, or the part as it is where none was read
abbrev pub rest_of : Read → List ℕ → List ℕ
rest_of (Ok (Some (event, bytes))) part = drop bytes part
rest_of (Ok None) part = part
rest_of (Err refusal) part = part

-- the number of the refusal, 0 for an event or the end
abbrev pub refusal_of : Read → ℕ
refusal_of (Ok found) = 0
refusal_of (Err UnknownTag) = 6
refusal_of (Err CutShort) = 7
refusal_of (Err TooLong) = 8
refusal_of (Err Beyond) = 10
