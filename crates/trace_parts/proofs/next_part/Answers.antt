-- The proof of `trace_parts::next_part`.
-- Assumes nothing.
use Prim.Native.Nat.{ℕ, ◌+◌, ◌-◌, ◌≤◌}
use native.Mathlib.Omega.{arith}
use mathlib.Core.Path.{◌≡◌, refl, ap, sym, ◌∙◌}
use mathlib.Core.List.{List}
use lib.ListN.{length}
use borrow.Author.Rules.{rules}
use Rattle.std.specs.Prelude.{Some, None, Ok, Err}
use Rattle.events.specs.declared.Event.{Event}
use Rattle.pack.specs.Reading.{first_of, read_at, part_at}
use Rattle.pack.specs.Laws.{Stops}
use Rattle.pack.proofs.Reading.{to_end}
use Rattle.pack.proofs.Events.{read_is_encoded}
use Rattle.pack.proofs.Walk.{event_within, part_event, part_stops}
use Rattle.trace.specs.Parts.{reports_most}
use Rattle.trace.proofs.Tracing.{lines_open, lines_ended, printed, closed, begun, reported, filled}
use Rattle.trace_parts.proofs.next_part.Goals as goal
use Rattle.trace_parts.proofs.next_part.Goals.{After-close_at, in_default-via-in-Ok+in_default, in_default-via-in_default}

-- the promise, clause by clause
both : {A B : Type 0} → A × B → record { value : A; text_after : B }
both (a, b) = record { value = a; text_after = b }

-- an event that is read in the part from an offset on is the pack's there
read_there : (pack : List ℕ) (offset : ℕ) {part : List ℕ} (event : Event) (bytes : ℕ) → part ≡ part_at pack offset → Ok (Some (event, bytes)) ≡ first_of part
    → read_at pack offset ≡ Ok (Some (event, bytes))
read_there pack offset event bytes rest read = part_event pack offset event bytes (ap first_of (sym rest) ∙ sym read)

pub returns-then-place : goal.returns-then-place
returns-then-place c =
    let place = c.args.place in
    both (printed _ place (lines_ended _ place c.if-place.true) (record { left = refl; size = refl; buffer = refl }))

pub loop-init : goal.loop-init
loop-init c =
    let a = c.args in
    begun a.pack.now a.place.service a.place.offset _ a.text.now c.part_at-part.ensures

none_found : (c : After-close_at) → Stops (first_of c.loop.part.now)
none_found c =
    let read = c.read_first.ensures in
    elim c.in_default.branch [
      | in_default-via-in-Ok+in_default w ↦
          let is = w.in_default.is in
          let none : w.in_default.field-0 ≡ None = search rules in
          let ended : first_of c.loop.part.now ≡ Ok None = cc in
          rw ended tt
      | in_default-via-in_default w ↦
          let is = w.in_default.is in
          let refused : first_of c.loop.part.now ≡ Err w.in_default.field-0 = cc in
          rw refused tt
    ]

pub returns-in_default : goal.returns-in_default
returns-in_default c =
    let a = c.args in
    let found = none_found c in
    let none = rw c.loop.invariant.rest at found in
    let placed = rw c.refusal_at.ensures at c.close_at.ensures.text_after in
    let room : c.loop.at + 19 ≤ length c.loop.text = omega (arith, c.close_at-arg-1.given.0.1, c.loop.invariant.room) in
    let closed = closed a.pack.now _ _ _ c.loop.invariant.written _ (omega arith) room (part_stops _ _ none) placed in
    both (printed _ a.place (lines_open _ a.place c.if-place.false) (rw (c.close_at.ensures.place_value.0, c.close_at.ensures.place_value.1) closed))

pub slice_bounds-part-count : goal.slice_bounds-part-count
slice_bounds-part-count c = omega (arith, read_is_encoded _ _ _ (sym (rw c.in-Ok-Some.field-0-is at c.in-Ok-Some.ensures)))

pub slice_bounds-part-start : goal.slice_bounds-part-start
slice_bounds-part-start c = omega (arith, read_is_encoded _ _ _ (sym (rw c.in-Ok-Some.field-0-is at c.in-Ok-Some.ensures)))

pub overflow_cast-offset-in-loop : goal.overflow_cast-offset-in-loop
overflow_cast-offset-in-loop c = omega (arith, event_within _ _ _ _ (read_there _ _ _ _ c.loop.invariant.rest (rw c.in-Ok-Some.field-0-is at c.in-Ok-Some.ensures)))

pub overflow_add-offset : goal.overflow_add-offset
overflow_add-offset c = omega (arith, event_within _ _ _ _ (read_there _ _ _ _ c.loop.invariant.rest (rw c.in-Ok-Some.field-0-is at c.in-Ok-Some.ensures)))

pub loop-preserved : goal.loop-preserved
loop-preserved c =
    let room : c.loop.at + 44 ≤ length c.loop.text = omega (arith, c.report_at-arg-1.given.0.1, c.loop.invariant.room) in
    let fewer : reports_most - c.loop.counter - 1 ≡ reports_most - (c.loop.counter + 1) = omega arith in
    let read = read_there _ _ _ _ c.loop.invariant.rest (rw c.in-Ok-Some.field-0-is at c.in-Ok-Some.ensures) in
    rw (to_end, c.report_at-service.ensures.value, ← fewer) (reported c.loop.invariant _ _ _ (omega arith) room read c.report_at-service.ensures.text_after)

pub returns : goal.returns
returns c =
    let a = c.args in
    let filled = filled a.pack.now _ _ _ c.loop.invariant.written (omega arith) in
    both (printed _ a.place (lines_open _ a.place c.if-place.false) (rw c.place_at.ensures filled))
