-- The proof of `image_reading::read_at`.
-- Assumes nothing.
use mathlib.Core.Path.{◌≡◌, sym, ◌∙◌}
use native.Mathlib.Omega.{arith}
use borrow.Author.Rules.{rules}
use Rattle.std.specs.Prelude.{ℕ, List, Option, Some, None, Ok, Err}
use Rattle.events.specs.declared.Event.{Event}
use Rattle.pack.specs.Reading.{Read, read_at}
use Rattle.pack.specs.Laws.{Stops}
use Rattle.pack.proofs.Walk.{event_there, event_at}
use Rattle.image_calls.specs.declared.Tagged.{Tagged}
use Rattle.image_calls.proofs.Readings.{stops_there}
use Rattle.image_reading.proofs.read_at.Goals as goal
use Rattle.image_reading.proofs.read_at.Goals.{After-refusal, in_default-via-in-Ok+in_default, in_default-via-in_default}

none_read : (c : After-refusal) → Stops c.read_event-read.result
none_read c =
    elim c.in_default.branch [
      | in_default-via-in-Ok+in_default w ↦
          let is = w.in_default.is in
          let none : w.in_default.field-0 ≡ None = search rules in
          let ended : c.read_event-read.result ≡ Ok None = cc in
          rw ended tt
      | in_default-via-in_default w ↦
          let refused : c.read_event-read.result ≡ Err w.in_default.field-0 = w.in_default.is in
          rw refused tt
    ]

none_tagged : (tag a b c : ℕ) → tag ≡ 0 → a ≡ 0 → b ≡ 0 → c ≡ 0
    → ◌≡◌ {A = Tagged} (record { tag = tag; a = a; b = b; c = c }) (record { tag = 0; a = 0; b = 0; c = 0 })
none_tagged tag a b c first second third fourth = rw (first, second, third, fourth)

pub returns-in_default : goal.returns-in_default
returns-in_default c =
    let a = c.args in
    let found = c.read_event-read in
    let zeros = c.default.ensures in
    let plain = none_tagged c.default.result.tag c.default.result.a c.default.result.b c.default.result.c zeros.0 zeros.1.0 zeros.1.1.0 zeros.1.1.1 in
    rw (c.refusal.ensures, plain, ← found.ensures) (sym (stops_there a.pack.now a.start found.result (none_read c)))

event_read : (pack : List ℕ) (start : ℕ) (read : Read) (found : Option (Event × ℕ)) (event : Event) (bytes : ℕ)
    → read ≡ read_at pack start → read ≡ Ok found → found ≡ Some (event, bytes) → read_at pack start ≡ Ok (Some (event, bytes))
event_read pack start read found event bytes given is some = sym given ∙ is ∙ rw some

-- the event that was found
pub next_start-requires : goal.next_start-requires
next_start-requires c =
    let arm = c.in-Ok-Some in
    omega (arith, (event_at _ _ _ _ (event_read _ _ _ _ _ _ c.read_event-read.ensures arm.is (rw arm.is at arm.field-0-is))).within)

pub returns : goal.returns
returns c =
    let arm = c.in-Ok-Some in
    let read = event_read _ _ _ _ _ _ c.read_event-read.ensures arm.is (rw arm.is at arm.field-0-is) in
    rw (c.tagged_of.ensures, c.next_start.ensures, event_there _ _ _ _ read, read)
