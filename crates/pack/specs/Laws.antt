-- What readings mean: one event, a walk over the parts of a pack, and the one list that a pack encodes. Files of proofs/ prove each sentence.
-- Assumes nothing.
use Rattle.std.specs.Prelude.{ℕ, ◌+◌, ◌≤◌, ◌<◌, ◌≡◌, List, [], ◌∷◌, ◌++◌, length, take, drop, Some, None, Ok, Err}
use Rattle.events.specs.declared.Event.{Event}
use Rattle.events.specs.Tags.{tag_of}
use Rattle.pack.specs.Reading.{Read, limit, first_of, read_at, rest_of, refusal_of}
use Rattle.pack.specs.Encoding.{encode_event, encode}
use Rattle.pack.specs.Parsing.{stopped, event_then, parse_from, parse}

-- One event.

-- an encoded event begins with its tag
abbrev pub EncodedByTag : Type 0
EncodedByTag = (event : Event) → take 1 (encode_event event) ≡ tag_of event ∷ []

-- an encoded event is read back, whatever bytes follow it
abbrev pub EncodedIsRead : Type 0
EncodedIsRead = (event : Event) (later : List ℕ) → first_of (encode_event event ++ later) ≡ Ok (Some (event, length (encode_event event)))

-- an event that was read has a byte at least and none beyond the part, its bytes are its encoding, and the bytes after them are handed on
pub record First (part : List ℕ) (event : Event) (bytes : ℕ) : Type 0 where
  pub some : 0 < bytes
  pub within : bytes ≤ length part
  pub encoded : take bytes part ≡ encode_event event
  pub rest : rest_of (first_of part) part ≡ drop bytes part

abbrev pub ReadIsEncoded : Type 0
ReadIsEncoded = (part : List ℕ) (event : Event) (bytes : ℕ) → first_of part ≡ Ok (Some (event, bytes)) → First part event bytes

-- A walk over a pack within the limit.

-- the part is what the pack has from the start on
pub record PartFrom (pack : List ℕ) (start : ℕ) (part : List ℕ) : Type 0 where
  pub limited : length pack ≤ limit
  pub counted : start + length part ≡ length pack
  pub same : part ≡ drop start pack

-- a reading that finds no event
abbrev pub Stops : Read → Type 0
Stops (Ok (Some (event, bytes))) = ⊥
Stops (Ok None) = Unit {0}
Stops (Err refusal) = Unit {0}

-- behind an event the part handed on is again the pack's from there on, and the event stands before what is read there
pub record GoesOn (pack : List ℕ) (start : ℕ) (part : List ℕ) (event : Event) (bytes : ℕ) : Type 0 where
  pub rest : PartFrom pack (start + bytes) (drop bytes part)
  pub parsed : parse_from pack start ≡ event_then event (parse_from pack (start + bytes))

pub record Walk : Type 0 where
  pub starts : (pack : List ℕ) (start : ℕ) → length pack ≤ limit → start ≤ length pack → PartFrom pack start (drop start pack)
  pub agrees : (pack : List ℕ) (start : ℕ) (part : List ℕ) → PartFrom pack start part → read_at pack start ≡ first_of part
  pub next : (pack : List ℕ) (start : ℕ) (part : List ℕ) (event : Event) (bytes : ℕ)
      → PartFrom pack start part → first_of part ≡ Ok (Some (event, bytes)) → GoesOn pack start part event bytes
  pub stops : (pack : List ℕ) (start : ℕ) (part : List ℕ)
      → PartFrom pack start part → Stops (first_of part) → parse_from pack start ≡ stopped start (refusal_of (first_of part))

-- a pack beyond the limit has no events, and its end is 0
abbrev pub TooLongIsRefused : Type 0
TooLongIsRefused = (pack : List ℕ) → limit < length pack → parse pack ≡ stopped 0 8

-- Whole packs.

-- the events of an encoding within the limit are read back, all of them, with no refusal; their numbers need not even be bytes
abbrev pub EncodingIsRead : Type 0
EncodingIsRead =
    (events : List Event) → length (encode events) ≤ limit
    → parse (encode events) ≡ record { events = events; end = length (encode events); refusal = 0 }

-- no bytes encode two lists
abbrev pub EncodesOneList : Type 0
EncodesOneList = (events others : List Event) → encode events ≡ encode others → events ≡ others

-- the bytes before the end encode the events read and no other list, and no event can be read at the end, for the reason given
pub record ReadWhole (pack : List ℕ) : Type 0 where
  pub within : (parse pack).end ≤ length pack
  pub encoded : take (parse pack).end pack ≡ encode (parse pack).events
  pub one : (events : List Event) → take (parse pack).end pack ≡ encode events → (parse pack).events ≡ events
  pub stops : Stops (read_at pack (parse pack).end)
  pub refusal : (parse pack).refusal ≡ refusal_of (read_at pack (parse pack).end)

abbrev pub PackIsReadWhole : Type 0
PackIsReadWhole = (pack : List ℕ) → ReadWhole pack

-- a pack that is not refused is, to its last byte, the encoding of its events
abbrev pub AcceptedIsEncoding : Type 0
AcceptedIsEncoding = (pack : List ℕ) → (parse pack).refusal ≡ 0 → pack ≡ encode (parse pack).events
