-- A part as it grows, event by event.
-- Assumes nothing.
use Prim.Native.Nat.{ℕ, zero, suc, ◌+◌, ◌-◌, ◌*◌, ◌<◌, ◌≤◌}
use native.Mathlib.Omega.{arith}
use mathlib.Core.Bool.{true, false}
use mathlib.Core.Path.{◌≡◌, refl}
use mathlib.Core.List.{List, append-nil}
use lib.ListN.{length, drop}
use Rattle.std.specs.Prelude.{Some, None, Ok, Err}
use Rattle.bits.specs.Choice.{when◌then◌else◌}
use Rattle.state.specs.declared.Service.{Service}
use Rattle.events.specs.declared.Event.{Event}
use Rattle.events.specs.Run.{next}
use Rattle.pack.specs.Reading.{Read, read_at, part_at, refusal_of}
use Rattle.pack.specs.Laws.{Stops}
use Rattle.pack.proofs.Walk.{part_on}
use Rattle.report.specs.Text.{text_of}
use Rattle.report.specs.Reported.{report_length, event_report}
use Rattle.report.proofs.TextLaws.{text_lengths}
use Rattle.trace.specs.declared.Place.{Place}
use Rattle.trace.specs.declared.Part.{Part}
use Rattle.trace.specs.Trace.{closing_of}
use Rattle.trace.specs.Parts.{reports_most, part_length, place_at, Lines, none_at, ended_at, text_then, lines_on, lines_by, lines_of, part_of, part_in}
use Rattle.trace.proofs.Writing.{placed, Written, write_on, WrittenAll, written_all}

closing_length : (end refusal : ℕ) → length (closing_of end refusal) ≡ 19
unfolding closing_of
closing_length end refusal = refl

-- a reading that finds an event gives its report and goes on, any other closes
pub lines_event : (n : ℕ) (pack : List ℕ) (service : Service) (offset : ℕ) (event : Event) (bytes : ℕ) → read_at pack offset ≡ Ok (Some (event, bytes))
    → lines_by (suc n) pack service offset ≡ text_then (text_of (event_report service event)) (lines_by n pack (next service event) (offset + bytes))
unfolding lines_by
lines_event n pack service offset event bytes e = rw e

on_stop : (found : Read) (service : Service) (offset : ℕ) (from : Service → ℕ → Lines) → Stops found
    → lines_on found service offset from ≡ text_then (closing_of offset (refusal_of found)) (none_at (ended_at service offset))
on_stop (Ok (Some (_, _))) service offset from none = elim none [ ]
on_stop (Ok None) service offset from none = rw append-nil
on_stop (Err refusal) service offset from none = rw append-nil

pub lines_stop : (n : ℕ) (pack : List ℕ) (service : Service) (offset : ℕ) → Stops (read_at pack offset)
    → lines_by (suc n) pack service offset ≡ text_then (closing_of offset (refusal_of (read_at pack offset))) (none_at (ended_at service offset))
unfolding lines_by
lines_stop n pack service offset none = on_stop (read_at pack offset) service offset (lines_by n pack) none

-- the lines of a part from a place where something is left, and from any other
pub lines_open : (pack : List ℕ) (place : Place) → place.ended ≡ false → lines_of pack place ≡ lines_by reports_most pack place.service place.offset
unfolding lines_of when◌then◌else◌
lines_open pack place e = rw e

pub lines_ended : (pack : List ℕ) (place : Place) → place.ended ≡ true → lines_of pack place ≡ none_at place
unfolding lines_of when◌then◌else◌
lines_ended pack place e = rw e

-- all the lines of a part stand in its buffer
pub printed : (pack : List ℕ) (place : Place) {before text : List ℕ} {all : Lines} {part : Part} → lines_of pack place ≡ all
    → WrittenAll all before text part.length part.place → (part ≡ part_of pack place) × (text ≡ part_in pack place before)
unfolding part_of part_in
printed pack place e w = rw e (rw (w.left, w.size), w.buffer)

-- the closing lines, where reading stops
pub closed : (pack : List ℕ) (service : Service) (offset left : ℕ) {all : Lines} {before text : List ℕ} {at : ℕ}
    → Written all (lines_by left pack service offset) before text at → (text' : List ℕ) → 0 < left → at + 19 ≤ length text → Stops (read_at pack offset)
    → text' ≡ placed at 19 (closing_of offset (refusal_of (read_at pack offset))) text → WrittenAll all before text' (at + 19) (ended_at service offset)
closed pack service offset zero written text' some room stops placed = absurd (omega arith)
closed pack service offset (suc left) written text' some room stops placed =
    let refusal = refusal_of (read_at pack offset) in
    written_all (write_on 19 (closing_of offset refusal) (rw (lines_stop left pack service offset stops) at written) room (closing_length offset refusal) placed)

-- the loop between two events
pub record Yet (pack : List ℕ) (all : Lines) (before text : List ℕ) (service : Service) (offset : ℕ) (part : List ℕ) (at left : ℕ) : Type 0 where
  pub rest : part ≡ part_at pack offset
  pub written : Written all (lines_by left pack service offset) before text at
  pub room : at + report_length * left ≡ part_length

pub begun : (pack : List ℕ) (service : Service) (offset : ℕ) (part text : List ℕ) → part ≡ part_at pack offset
    → Yet pack (lines_by reports_most pack service offset) text text service offset part 0 reports_most
begun pack service offset part text e = record { rest = e; written = record { fits = omega arith; lines = refl; tail = refl }; room = refl }

pub reported : {pack : List ℕ} {all : Lines} {before text : List ℕ} {service : Service} {offset : ℕ} {part : List ℕ} {at left : ℕ}
    → Yet pack all before text service offset part at left → (event : Event) (bytes : ℕ) (text' : List ℕ) → 0 < left → at + 44 ≤ length text
    → read_at pack offset ≡ Ok (Some (event, bytes)) → text' ≡ placed at 44 (text_of (event_report service event)) text
    → Yet pack all before text' (next service event) (offset + bytes) (drop bytes part) (at + 44) (left - 1)
reported {left = zero} yet event bytes text' some room found placed = absurd (omega arith)
reported {pack = pack} {service = service} {offset = offset} {left = suc left} yet event bytes text' some room found placed =
    let report = event_report service event in
    let fewer : suc left - 1 ≡ left = omega arith in
    rw fewer
    (record {
      rest = rw yet.rest (part_on pack offset bytes);
      written = write_on 44 (text_of report) (rw (lines_event left pack service offset event bytes found) at yet.written) room (text_lengths report).text placed;
      room = omega (arith, yet.room);
    })

-- as many reports as a part can have
pub filled : (pack : List ℕ) (service : Service) (offset left : ℕ) {all : Lines} {before text : List ℕ} {at : ℕ}
    → Written all (lines_by left pack service offset) before text at → left ≤ 0
    → WrittenAll all before text at (place_at service offset)
unfolding lines_by
filled pack service offset zero written none = written_all written
filled pack service offset (suc left) written none = absurd (omega arith)
