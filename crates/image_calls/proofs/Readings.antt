-- Readings from C: where the next event begins, and that they give the events of the whole pack.
-- Assumes nothing.
use Prim.Native.Nat.{ℕ, zero, suc, ◌+◌, ◌≤◌}
use native.Mathlib.Nat.{sub-zero}
use native.Mathlib.Omega.{arith}
use mathlib.Core.Path.{◌≡◌, refl, ap}
use mathlib.Core.Bool.{false}
use mathlib.Core.List.{List, ◌∷◌, map}
use lib.Dec.{eqb}
use lib.ListN.{length, drop, length-drop}
use Rattle.std.specs.Prelude.{Some, None, Ok, Err}
use Rattle.bits.specs.Choice.{when◌then◌else◌}
use Rattle.events.specs.declared.Event.{Event}
use Rattle.events.specs.declared.Event.TheVariants.{Key, Call, Poll, TimeOut, Empty, Restart, Scan}
use Rattle.pack.specs.Reading.{Read, read_at, rest_of, refusal_of}
use Rattle.pack.specs.Parsing.{parse_by, parse_from, parse}
use Rattle.pack.specs.Laws.{Stops}
use Rattle.pack.proofs.Walk.{by_kind, event_at, by_next, by_stop}
use Rattle.image_calls.specs.declared.Tagged.{Tagged}
use Rattle.image_calls.specs.Exports.{written}
use Rattle.image_calls.specs.Reads.{stopped_at, reading_from}
use Rattle.image_calls.specs.ReadLaws.{EventsTold, events_by, PackReadWhole}

pub rest_within : (found : Read) (part : List ℕ) → length (rest_of found part) ≤ length part
rest_within (Ok (Some (event, bytes))) part = omega (arith, length-drop bytes part)
rest_within (Ok None) part = omega arith
rest_within (Err refusal) part = omega arith

pub stops_there : (pack : List ℕ) (start : ℕ) (found : Read) → Stops found → reading_from pack start found ≡ stopped_at start (refusal_of found)
stops_there pack start (Ok (Some (_, _))) none = elim none [ ]
stops_there pack start (Ok None) none = refl
stops_there pack start (Err refusal) none = refl

pub events_told : EventsTold
events_told pack start event bytes e =
    let at = event_at pack start event bytes e in
    record { tagged = rw e; next = rw e (omega (arith, at.within, length-drop bytes (drop start pack), length-drop start pack)); refusal = rw e }

-- no event has the tag 0
some_tag : (event : Event) → eqb (written event).tag 0 ≡ false
some_tag (Key byte) = refl
some_tag (Call function a b) = refl
some_tag Poll = refl
some_tag TimeOut = refl
some_tag Empty = refl
some_tag Restart = refl
some_tag (Scan byte) = refl

as_parsed : (readings : ℕ) (pack : List ℕ) (start : ℕ) → events_by readings pack start ≡ map written (parse_by readings pack start).events
unfolding parse_by when◌then◌else◌
as_parsed zero pack start = refl
as_parsed (suc readings) pack start =
    by_kind (read_at pack start)
    (λ event bytes e.
    let told = events_told pack start event bytes e in
    rw (by_next readings pack start event bytes e)
    (simp (told.tagged, told.next, some_tag) (ap (λ (more : List Tagged). written event ∷ more) (as_parsed readings pack (start + bytes)))))
    (λ none. rw (by_stop readings pack start none) (simp (stops_there pack start (read_at pack start) none)))

pub read_whole : PackReadWhole
unfolding parse parse_from
read_whole pack = rw sub-zero (as_parsed (suc (length pack)) pack 0)
