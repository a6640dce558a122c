-- What holds of a pack that C reads. Readings.antt of proofs/ proves each sentence.
-- Assumes nothing.
use Rattle.std.specs.Prelude.{ℕ, zero, suc, ◌+◌, ◌≡◌, List, [], ◌∷◌, map, eqb, length, Some, Ok}
use Rattle.bits.specs.Choice.{when◌then◌else◌}
use Rattle.events.specs.declared.Event.{Event}
use Rattle.pack.specs.Reading.{read_at}
use Rattle.pack.specs.Parsing.{parse}
use Rattle.image_calls.specs.declared.Tagged.{Tagged}
use Rattle.image_calls.specs.Exports.{written}
use Rattle.image_calls.specs.Reads.{read_to}

-- an event is told by its tag and bytes, and the next begins behind them
pub record Told (pack : List ℕ) (start : ℕ) (event : Event) (bytes : ℕ) : Type 0 where
  pub tagged : (read_to pack start).event ≡ written event
  pub next : (read_to pack start).next ≡ start + bytes
  pub refusal : (read_to pack start).refusal ≡ 0

abbrev pub EventsTold : Type 0
EventsTold =
    (pack : List ℕ) (start : ℕ) (event : Event) (bytes : ℕ) → read_at pack start ≡ Ok (Some (event, bytes)) → Told pack start event bytes

-- the events of at most so many readings, each from where the one before says that the next begins, up to the first tag 0
abbrev pub events_by : ℕ → List ℕ → ℕ → List Tagged
events_by zero pack start = []
events_by (suc readings) pack start =
    let reading = read_to pack start in
    when eqb reading.event.tag 0 then [] else reading.event ∷ events_by readings pack reading.next

-- from the first byte on they are the pack's, all of them
abbrev pub PackReadWhole : Type 0
PackReadWhole = (pack : List ℕ) → events_by (suc (length pack)) pack 0 ≡ map written (parse pack).events
