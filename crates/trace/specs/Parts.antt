-- The text of a pack in parts: what each part has, and that the parts one behind the other are the trace.
-- Assumes nothing.
use Rattle.std.specs.Prelude.{ℕ, zero, suc, ◌+◌, ◌*◌, ◌≤◌, true, false, ◌≡◌, List, [], ◌++◌, length, drop, Some, None, Ok, Err}
use Rattle.bits.specs.Choice.{when◌then◌else◌}
use Rattle.translation.specs.declared.CodeSet.TheVariants.{One}
use Rattle.state.specs.declared.Service.{Service}
use Rattle.state.specs.State.{new_service}
use Rattle.events.specs.Run.{next}
use Rattle.pack.specs.Reading.{Read, limit, read_at, refusal_of}
use Rattle.pack.specs.Parsing.{parse_from}
use Rattle.report.specs.Text.{text_of}
use Rattle.report.specs.Reported.{report_length, event_report}
use Rattle.trace.specs.declared.Place.{Place}
use Rattle.trace.specs.declared.Part.{Part}
use Rattle.trace.specs.Trace.{closing_of, printed_of, trace_of}

-- the most reports of a part
abbrev pub reports_most : ℕ
reports_most = 372

-- room for a part: the closing lines are shorter than a report
abbrev pub part_length : ℕ
part_length = report_length * reports_most

-- the most parts that print something of one pack
abbrev pub parts_most : ℕ
parts_most = 89

-- printing goes on with the event at an offset
abbrev pub place_at : Service → ℕ → Place
place_at service offset = record { service = service; offset = offset; ended = false }

-- from locks 0 on set 1, at the first byte of the pack
abbrev pub first_place : Place
first_place = place_at (new_service One 0) 0

-- the closing lines are printed
abbrev pub ended_at : Service → ℕ → Place
ended_at service offset = record { service = service; offset = offset; ended = true }

-- lines that are printed, and the place that they leave
pub record Lines : Type 0 where
  pub text : List ℕ
  pub place : Place

abbrev pub none_at : Place → Lines
none_at place = record { text = []; place = place }

abbrev pub text_then : List ℕ → Lines → Lines
text_then text later = record { text = text ++ later.text; place = later.place }

abbrev pub closed_at : Service → ℕ → ℕ → Lines
closed_at service offset refusal = record { text = closing_of offset refusal; place = ended_at service offset }

-- an event gives its report, and printing goes on behind it; any other reading gives the closing lines
abbrev pub lines_on : Read → Service → ℕ → (Service → ℕ → Lines) → Lines
lines_on (Ok (Some (event, bytes))) service offset from = text_then (text_of (event_report service event)) (from (next service event) (offset + bytes))
lines_on (Ok None) service offset from = closed_at service offset (refusal_of (Ok None))
lines_on (Err refusal) service offset from = closed_at service offset (refusal_of (Err refusal))

-- the lines from an offset on that at most so many readings give
unfoldable pub lines_by : ℕ → List ℕ → Service → ℕ → Lines
lines_by zero pack service offset = none_at (place_at service offset)
lines_by (suc readings) pack service offset = lines_on (read_at pack offset) service offset (lines_by readings pack)

-- the lines of the next part; none once printing has ended
unfoldable pub lines_of : List ℕ → Place → Lines
lines_of pack place = when place.ended then none_at place else lines_by reports_most pack place.service place.offset

unfoldable pub part_of : List ℕ → Place → Part
part_of pack place = record { place = (lines_of pack place).place; length = length (lines_of pack place).text }

-- a buffer with the part at its start and what was behind it
unfoldable pub part_in : List ℕ → Place → List ℕ → List ℕ
part_in pack place text = (lines_of pack place).text ++ drop (length (lines_of pack place).text) text

-- so many parts one behind the other, each from the place that the one before it left
unfoldable pub parts_by : ℕ → List ℕ → Place → Lines
parts_by zero pack place = none_at place
parts_by (suc parts) pack place = text_then (lines_of pack place).text (parts_by parts pack (lines_of pack place).place)

-- the text from a place to the end
unfoldable pub left_of : List ℕ → Place → List ℕ
left_of pack place = when place.ended then [] else printed_of place.service (parse_from pack place.offset)

-- from any place, what was left is the part and what it leaves
abbrev pub PartThenRest : Type 0
PartThenRest = (pack : List ℕ) (place : Place) → left_of pack place ≡ (lines_of pack place).text ++ left_of pack (lines_of pack place).place

-- a part after which something is left has read a byte at least for each of its reports, none beyond the limit
abbrev pub PartReads : Type 0
PartReads =
    (pack : List ℕ) (place : Place) → (lines_of pack place).place.ended ≡ false
    → (place.offset + reports_most ≤ (lines_of pack place).place.offset) × ((lines_of pack place).place.offset ≤ limit)

-- so many parts from the beginning are the trace but for what is left, and all of it once printing has ended, as it has after the most parts
pub record PartsPrint (pack : List ℕ) : Type 0 where
  pub begins : (parts : ℕ) → trace_of pack ≡ (parts_by parts pack first_place).text ++ left_of pack (parts_by parts pack first_place).place
  pub whole : (parts : ℕ) → (parts_by parts pack first_place).place.ended ≡ true → (parts_by parts pack first_place).text ≡ trace_of pack
  pub few : (parts_by parts_most pack first_place).place.ended ≡ true

abbrev pub PartsAreTrace : Type 0
PartsAreTrace = (pack : List ℕ) → PartsPrint pack
