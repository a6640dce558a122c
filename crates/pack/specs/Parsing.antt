-- A whole pack: its events one after the other, up to the end or to what cannot be read, as kbdtrace reads them.
-- Assumes nothing.
use Rattle.std.specs.Prelude.{ℕ, zero, suc, ◌+◌, ◌-◌, List, [], ◌∷◌, length, Some, None, Ok, Err}
use Rattle.events.specs.declared.Event.{Event}
use Rattle.pack.specs.Reading.{Read, read_at, refusal_of}

-- the events read, the offset where reading stopped, and the refusal that stopped it, 0 at the end of the pack
pub record Parsed : Type 0 where
  pub events : List Event
  pub end : ℕ
  pub refusal : ℕ

abbrev pub stopped : ℕ → ℕ → Parsed
stopped start refusal = record { events = []; end = start; refusal = refusal }

abbrev pub event_then : Event → Parsed → Parsed
event_then event later = record { events = event ∷ later.events; end = later.end; refusal = later.refusal }

-- reading goes on behind an event and stops at anything else
abbrev pub on_read : Read → ℕ → (ℕ → Parsed) → Parsed
on_read (Ok (Some (event, bytes))) start from = event_then event (from (start + bytes))
on_read (Ok None) start from = stopped start (refusal_of (Ok None))
on_read (Err refusal) start from = stopped start (refusal_of (Err refusal))

-- what is read from a start on, by at most so many readings
unfoldable pub parse_by : ℕ → List ℕ → ℕ → Parsed
parse_by zero pack start = stopped start 0
parse_by (suc readings) pack start = on_read (read_at pack start) start (parse_by readings pack)

-- an event has a byte at least, so one reading for each byte left and one for the end are enough, as the laws say
unfoldable pub parse_from : List ℕ → ℕ → Parsed
parse_from pack start = parse_by (suc (length pack - start)) pack start

-- a pack from its first byte; of one that is refused with 8 nothing is read, so that the end is 0
unfoldable pub parse : List ℕ → Parsed
parse pack = parse_from pack 0
