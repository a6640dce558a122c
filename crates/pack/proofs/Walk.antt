-- The laws of a walk over a pack: where reading starts, goes on and stops.
-- Assumes nothing.
use Prim.Native.Nat.{ℕ, zero, suc, ◌+◌, ◌-◌, ◌≤◌, ◌<◌}
use mathlib.Core.Path.{◌≡◌, refl, sym, ap, subst, ◌∙◌}
use mathlib.Core.List.{List, [], ◌++◌}
use native.Mathlib.Omega.{arith}
use lib.ListN.{length, take, drop, length-drop, drop_of_length-le}
use lib.Seq.{take-add, drop-drop}
use Rattle.std.specs.Prelude.{Some, None, Ok, Err}
use Rattle.bits.proofs.Choice.{either}
use Rattle.events.specs.declared.Event.{Event}
use Rattle.pack.specs.declared.ReadError.TheVariants.{UnknownTag, CutShort, TooLong, Beyond}
use Rattle.pack.specs.Reading.{Read, limit, first_of, read_at, part_at, refusal_of}
use Rattle.pack.specs.Encoding.{encode_event}
use Rattle.pack.specs.Parsing.{Parsed, stopped, event_then, on_read, parse_by, parse_from, parse}
use Rattle.pack.specs.Laws.{PartFrom, Stops, Walk, TooLongIsRefused}
use Rattle.pack.proofs.Reading.{by_order, read_too_long, read_beyond, read_within, part_too_long, part_within, part_beyond}
use Rattle.pack.proofs.Events.{read_is_encoded}

-- a reading finds an event or stops
pub by_kind : {Q : Type 0} (found : Read) → ((event : Event) (bytes : ℕ) → found ≡ Ok (Some (event, bytes)) → Q) → (Stops found → Q) → Q
by_kind (Ok (Some (event, bytes))) goes stops = goes event bytes refl
by_kind (Ok None) goes stops = stops tt
by_kind (Err refusal) goes stops = stops tt

on_stop : (found : Read) (start : ℕ) (from : ℕ → Parsed) → Stops found → on_read found start from ≡ stopped start (refusal_of found)
on_stop (Ok (Some (_, _))) start from none = elim none [ ]
on_stop (Ok None) start from none = refl
on_stop (Err UnknownTag) start from none = refl
on_stop (Err CutShort) start from none = refl
on_stop (Err TooLong) start from none = refl
on_stop (Err Beyond) start from none = refl

-- an event or the end that is read at a start stands first in the part from there on
pub event_there : (pack : List ℕ) (start : ℕ) (event : Event) (bytes : ℕ) → read_at pack start ≡ Ok (Some (event, bytes)) → first_of (drop start pack) ≡ Ok (Some (event, bytes))
unfolding read_at
event_there pack start event bytes =
    let Is : Read → Type 0 = λ found. found ≡ Ok (Some (event, bytes)) → first_of (drop start pack) ≡ Ok (Some (event, bytes)) in
    either Is _ _ _ (λ e. cc) (either Is _ _ _ (λ e. cc) (λ e. e))

pub end_there : (pack : List ℕ) (start : ℕ) → read_at pack start ≡ Ok None → first_of (drop start pack) ≡ Ok None
unfolding read_at
end_there pack start =
    let Is : Read → Type 0 = λ found. found ≡ Ok None → first_of (drop start pack) ≡ Ok None in
    either Is _ _ _ (λ e. cc) (either Is _ _ _ (λ e. cc) (λ e. e))

-- the bytes of an event at a start
pub record EventAt (pack : List ℕ) (start : ℕ) (event : Event) (bytes : ℕ) : Type 0 where
  pub some : 0 < bytes
  pub within : start + bytes ≤ length pack
  pub encoded : take (start + bytes) pack ≡ take start pack ++ encode_event event

pub event_at : (pack : List ℕ) (start : ℕ) (event : Event) (bytes : ℕ) → read_at pack start ≡ Ok (Some (event, bytes)) → EventAt pack start event bytes
event_at pack start event bytes e =
    let first = read_is_encoded (drop start pack) event bytes (event_there pack start event bytes e) in
    record {
      some = first.some;
      within = omega (arith, length-drop start pack);
      encoded = take-add start bytes pack ∙ rw first.encoded;
    }

pub by_next : (n : ℕ) (pack : List ℕ) (start : ℕ) (event : Event) (bytes : ℕ) → read_at pack start ≡ Ok (Some (event, bytes))
    → parse_by (suc n) pack start ≡ event_then event (parse_by n pack (start + bytes))
unfolding parse_by
by_next n pack start event bytes e = rw e

pub by_stop : (n : ℕ) (pack : List ℕ) (start : ℕ) → Stops (read_at pack start) → parse_by (suc n) pack start ≡ stopped start (refusal_of (read_at pack start))
unfolding parse_by
by_stop n pack start none = on_stop (read_at pack start) start (parse_by n pack) none

-- more readings than bytes are left find the same
enough : (n m : ℕ) (pack : List ℕ) (start : ℕ) → length pack - start < n → length pack - start < m → parse_by n pack start ≡ parse_by m pack start
enough zero m pack start h k = absurd (omega arith)
enough (suc n) zero pack start h k = absurd (omega arith)
enough (suc n) (suc m) pack start h k =
    by_kind (read_at pack start)
    (λ event bytes e.
    let at = event_at pack start event bytes e in
    by_next n pack start event bytes e
    ∙ ap (event_then event) (enough n m pack (start + bytes) (omega arith) (omega arith))
    ∙ sym (by_next m pack start event bytes e))
    (λ none. by_stop n pack start none ∙ sym (by_stop m pack start none))

pub from_next : (pack : List ℕ) (start : ℕ) (event : Event) (bytes : ℕ) → read_at pack start ≡ Ok (Some (event, bytes))
    → parse_from pack start ≡ event_then event (parse_from pack (start + bytes))
unfolding parse_from
from_next pack start event bytes e =
    let at = event_at pack start event bytes e in
    by_next (length pack - start) pack start event bytes e
    ∙ ap (event_then event) (enough (length pack - start) (suc (length pack - (start + bytes))) pack (start + bytes) (omega arith) (omega arith))

agrees : (pack : List ℕ) (start : ℕ) (part : List ℕ) → PartFrom pack start part → read_at pack start ≡ first_of part
agrees pack start part from = rw from.same (read_within pack start from.limited (omega arith))

-- no event is read of a pack that is too long
limited : (pack : List ℕ) (start : ℕ) (event : Event) (bytes : ℕ) → read_at pack start ≡ Ok (Some (event, bytes)) → length pack ≤ limit
limited pack start event bytes e =
    by_order limit (length pack) (λ long. absurd (subst Stops (sym (read_too_long pack start long) ∙ e) tt)) (λ small. small)

pub event_within : (pack : List ℕ) (start : ℕ) (event : Event) (bytes : ℕ) → read_at pack start ≡ Ok (Some (event, bytes)) → start + bytes ≤ limit
event_within pack start event bytes e =
    let at = event_at pack start event bytes e in
    omega (arith, limited pack start event bytes e)

-- at the part from a start on is read what is read at the start, but that nothing can be read where 8 or 10 refuse
by_part : {Q : Type 0} (pack : List ℕ) (start : ℕ) → (read_at pack start ≡ first_of (part_at pack start) → Q)
    → (part_at pack start ≡ [] → Stops (read_at pack start) → Q) → Q
by_part pack start same none =
    by_order limit (length pack) (λ long. none (part_too_long pack start long) (rw (read_too_long pack start long) tt))
    (λ small.
    by_order (length pack) start
    (λ beyond. none (part_beyond pack start small beyond) (rw (read_beyond pack start small beyond) tt))
    (λ inside. same (rw (part_within pack start small) (read_within pack start small inside))))

pub part_event : (pack : List ℕ) (start : ℕ) (event : Event) (bytes : ℕ) → first_of (part_at pack start) ≡ Ok (Some (event, bytes))
    → read_at pack start ≡ Ok (Some (event, bytes))
unfolding first_of
part_event pack start event bytes e = by_part pack start (λ same. same ∙ e) (λ none stops. absurd (subst Stops (rw none at e) tt))

pub part_stops : (pack : List ℕ) (start : ℕ) → Stops (first_of (part_at pack start)) → Stops (read_at pack start)
part_stops pack start h = by_part pack start (λ same. rw same h) (λ none stops. stops)

-- behind an event, the part handed on is the part from there on
pub part_on : (pack : List ℕ) (start bytes : ℕ) → drop bytes (part_at pack start) ≡ part_at pack (start + bytes)
part_on pack start bytes =
    by_order limit (length pack)
    (λ long. rw (part_too_long pack start long, part_too_long pack (start + bytes) long) (drop_of_length-le [] {i = bytes} (omega arith)))
    (λ small. rw (part_within pack start small, part_within pack (start + bytes) small) (drop-drop bytes start pack))

pub walk : Walk
unfolding parse_from
walk =
    record {
      starts = λ pack start small within. record { limited = small; counted = omega (arith, length-drop start pack); same = refl };
      agrees = agrees;
      next = λ pack start part event bytes from e.
          let first = read_is_encoded part event bytes e in
          record {
            rest = record {
              limited = from.limited;
              counted = omega (arith, length-drop bytes part);
              same = ap (drop bytes) from.same ∙ drop-drop bytes start pack;
            };
            parsed = from_next pack start event bytes (agrees pack start part from ∙ e);
          };
      stops = λ pack start part from none. rw (← (agrees pack start part from)) (by_stop (length pack - start) pack start (rw (agrees pack start part from) none));
    }

pub too_long_is_refused : TooLongIsRefused
unfolding parse parse_from parse_by
too_long_is_refused pack long = rw (read_too_long pack 0 long)
