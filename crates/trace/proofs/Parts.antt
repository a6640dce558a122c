-- The laws of the parts, and a count that falls from part to part.
-- Assumes nothing.
use Prim.Native.Nat.{ℕ, zero, suc, ◌+◌, ◌-◌, ◌*◌, ◌<◌, ◌≤◌}
use native.Mathlib.Omega.{arith}
use mathlib.Core.Bool.{Bool, true, false}
use mathlib.Core.Path.{◌≡◌, refl, sym, ◌∙◌}
use mathlib.Core.List.{List, [], ◌++◌, append_assoc, append-nil}
use lib.ListN.{length, length-append}
use Rattle.std.specs.Prelude.{Some, Ok}
use Rattle.bits.specs.Choice.{when◌then◌else◌}
use Rattle.bits.proofs.Choice.{by_test}
use Rattle.bits.proofs.Tests.{not_both}
use Rattle.state.specs.declared.Service.{Service}
use Rattle.events.specs.declared.Event.{Event}
use Rattle.events.specs.Run.{next}
use Rattle.pack.specs.Reading.{limit, read_at, refusal_of}
use Rattle.pack.specs.Parsing.{parse_from, parse}
use Rattle.pack.specs.Laws.{Stops}
use Rattle.pack.proofs.Walk.{by_kind, by_stop, event_at, event_within, from_next}
use Rattle.report.specs.Text.{text_of}
use Rattle.report.specs.Reported.{event_report}
use Rattle.trace.specs.declared.Place.{Place}
use Rattle.trace.specs.Trace.{closing_of, printed_of, trace_of}
use Rattle.trace.specs.Parts.{reports_most, parts_most, first_place, lines_by, lines_of, part_of, part_in, parts_by, left_of, PartThenRest, PartReads, PartsAreTrace}
use Rattle.trace.proofs.Tracing.{lines_event, lines_stop, lines_open, lines_ended}
use borrow.Author.Rules.{rules}

-- what the rest of a pack prints: an event's report before what follows it, and the closing lines where reading stops
printed_event : (service : Service) (pack : List ℕ) (offset : ℕ) (event : Event) (bytes : ℕ) → read_at pack offset ≡ Ok (Some (event, bytes))
    → printed_of service (parse_from pack offset) ≡ text_of (event_report service event) ++ printed_of (next service event) (parse_from pack (offset + bytes))
unfolding printed_of
printed_event service pack offset event bytes e = rw (from_next pack offset event bytes e, append_assoc)

printed_stop : (service : Service) (pack : List ℕ) (offset : ℕ) → Stops (read_at pack offset)
    → printed_of service (parse_from pack offset) ≡ closing_of offset (refusal_of (read_at pack offset))
unfolding printed_of parse_from
printed_stop service pack offset none = rw (by_stop _ pack offset none)

left_ended : (pack : List ℕ) (place : Place) → place.ended ≡ true → left_of pack place ≡ []
unfolding left_of when◌then◌else◌
left_ended pack place e = rw e

left_open : (pack : List ℕ) (place : Place) → place.ended ≡ false → left_of pack place ≡ printed_of place.service (parse_from pack place.offset)
unfolding left_of when◌then◌else◌
left_open pack place e = rw e

lines_then_rest : (n : ℕ) (pack : List ℕ) (service : Service) (offset : ℕ)
    → printed_of service (parse_from pack offset) ≡ (lines_by n pack service offset).text ++ left_of pack (lines_by n pack service offset).place
unfolding lines_by
lines_then_rest zero pack service offset = sym (left_open pack _ refl)
lines_then_rest (suc n) pack service offset =
    by_kind (read_at pack offset)
    (λ event bytes e.
    printed_event service pack offset event bytes e
    ∙ rw (lines_event n pack service offset event bytes e, lines_then_rest n pack (next service event) (offset + bytes), append_assoc))
    (λ none. rw (lines_stop n pack service offset none, left_ended, append-nil, append-nil) (printed_stop service pack offset none))

-- printing has ended or goes on
by_end : {Q : Type 0} (place : Place) → (place.ended ≡ true → Q) → (place.ended ≡ false → Q) → Q
by_end {Q = Q} place ended goes = by_test (λ (_ : Bool). Q) place.ended true false ended goes

pub part_then_rest : PartThenRest
part_then_rest pack place =
    by_end place (λ e. rw (lines_ended pack place e))
    (λ e. left_open pack place e ∙ rw (lines_open pack place e) (lines_then_rest reports_most pack place.service place.offset))

-- readings that leave something have each found an event
record ReadOn (n offset end : ℕ) : Type 0 where
  on : offset + n ≤ end
  within : offset ≤ limit → end ≤ limit
  some : 0 < n → offset ≤ limit

read_on : (n : ℕ) (pack : List ℕ) (service : Service) (offset : ℕ) → (lines_by n pack service offset).place.ended ≡ false
    → ReadOn n offset (lines_by n pack service offset).place.offset
unfolding lines_by
read_on zero pack service offset goes = record { on = omega arith; within = λ h. h; some = λ h. absurd (omega arith) }
read_on (suc n) pack service offset goes =
    by_kind (read_at pack offset)
    (λ event bytes e.
    let lines = lines_event n pack service offset event bytes e in
    let at = event_at pack offset event bytes e in
    let within = event_within pack offset event bytes e in
    let later = read_on n pack (next service event) (offset + bytes) (rw lines at goes) in
    rw lines (record { on = omega arith; within = λ _. later.within (omega arith); some = λ _. omega arith }))
    (λ none. not_both (rw (lines_stop n pack service offset none)) goes)

pub part_reads : PartReads
part_reads pack place goes =
    by_end place (λ e. not_both e (rw (lines_ended pack place e) at goes))
    (λ e.
    let lines = lines_open pack place e in
    let r = read_on reports_most pack place.service place.offset (rw lines at goes) in
    rw lines (r.on, r.within (r.some (omega arith))))

-- after the end no part has a line
stays_ended : (n : ℕ) (pack : List ℕ) (place : Place) → place.ended ≡ true → (parts_by n pack place).place.ended ≡ true
unfolding parts_by
stays_ended zero pack place e = e
stays_ended (suc n) pack place e = rw (lines_ended pack place e) (stays_ended n pack place e)

few : (n : ℕ) (pack : List ℕ) (place : Place) → place.offset ≤ limit → limit < place.offset + reports_most * n → (parts_by n pack place).place.ended ≡ true
unfolding parts_by
few zero pack place h l = absurd (omega arith)
few (suc n) pack place h l =
    let later = (lines_of pack place).place in
    by_end later (λ e. stays_ended n pack later e)
    (λ e.
    let reads = part_reads pack place e in
    few n pack later reads.1 (omega arith))

joined : (n : ℕ) (pack : List ℕ) (place : Place) → left_of pack place ≡ (parts_by n pack place).text ++ left_of pack (parts_by n pack place).place
unfolding parts_by
joined zero pack place = refl
joined (suc n) pack place = part_then_rest pack place ∙ rw (joined n pack (lines_of pack place).place, append_assoc)

pub parts_are_trace : PartsAreTrace
unfolding trace_of parse
parts_are_trace pack =
    let begins : (n : ℕ) → trace_of pack ≡ (parts_by n pack first_place).text ++ left_of pack (parts_by n pack first_place).place =
    λ n. sym (left_open pack first_place refl) ∙ joined n pack first_place in
    record {
      begins = begins;
      whole = λ n e. sym (begins n ∙ rw (left_ended pack (parts_by n pack first_place).place e, append-nil));
      few = few parts_most pack first_place (omega arith) (omega arith);
    }

-- bounds the bytes that are unread at a place; 0 once printing has ended
unfoldable pub unread : Place → ℕ
unread place = when place.ended then 0 else suc (limit - place.offset)

unread_ended : (place : Place) → place.ended ≡ true → unread place ≡ 0
unfolding unread when◌then◌else◌
unread_ended place e = rw e

unread_open : (place : Place) → place.ended ≡ false → unread place ≡ suc (limit - place.offset)
unfolding unread when◌then◌else◌
unread_open place e = rw e

pub unread_falls : (pack : List ℕ) (place : Place) → place.ended ≡ false → unread (part_of pack place).place < unread place
unfolding part_of
unread_falls pack place goes =
    let later = (lines_of pack place).place in
    rw (unread_open place goes)
    (by_end later (λ e. rw (unread_ended later e) (omega arith))
    (λ e.
    let reads = part_reads pack place e in
    rw (unread_open later e) (omega arith)))

-- a part stands in its buffer
pub part_fits : (pack : List ℕ) (place : Place) (text : List ℕ) → (part_of pack place).length ≤ length (part_in pack place text)
unfolding part_of part_in
part_fits pack place text = simp length-append (omega arith)
