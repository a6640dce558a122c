-- The laws of whole packs: a pack is read as the one list that it encodes.
-- Assumes nothing.
use Prim.Native.Nat.{ℕ, zero, suc, ◌+◌, ◌-◌, ◌≤◌, ◌<◌}
use mathlib.Core.Path.{◌≡◌, refl, sym, ap, ◌∙◌}
use mathlib.Core.List.{List, [], ◌∷◌, ◌++◌, append_assoc, append-nil}
use native.Mathlib.Omega.{arith}
use lib.ListN.{length, take, drop, length-append, length-drop}
use lib.Seq.{take_all, drop-append_seam}
use Rattle.std.specs.Prelude.{Some, None, Ok, Err}
use Rattle.events.specs.declared.Event.{Event}
use Rattle.pack.specs.declared.ReadError.TheVariants.{UnknownTag, CutShort, TooLong, Beyond}
use Rattle.pack.specs.Reading.{Read, limit, first_of, read_at, refusal_of}
use Rattle.pack.specs.Encoding.{encode_event, encode}
use Rattle.pack.specs.Parsing.{Parsed, stopped, event_then, parse_by, parse_from, parse}
use Rattle.pack.specs.Laws.{PartFrom, Stops, EncodingIsRead, PackIsReadWhole, AcceptedIsEncoding, EncodesOneList}
use Rattle.pack.proofs.Events.{encoded_is_read, end_is_empty}
use Rattle.pack.proofs.Walk.{by_kind, end_there, event_at, by_next, by_stop, walk}

-- behind the bytes read before, the rest of the pack
behind : (pack before part : List ℕ) → length pack ≤ limit → pack ≡ before ++ part → PartFrom pack (length before) part
behind pack before part small e =
    record {
      limited = small;
      counted = sym (ap length e ∙ length-append before part);
      same = sym (ap (drop (length before)) e ∙ drop-append_seam before part);
    }

reads_back : (pack before : List ℕ) (events : List Event) → length pack ≤ limit → pack ≡ before ++ encode events
    → parse_from pack (length before) ≡ record { events = events; end = length pack; refusal = 0 }
unfolding encode first_of
reads_back pack before [] small e =
    let from = behind pack before [] small e in
    walk.stops pack (length before) [] from tt ∙ ap (λ (end : ℕ). stopped end 0) (omega arith)
reads_back pack before (event ∷ later) small e =
    let bytes = encode_event event in
    let from = behind pack before (bytes ++ encode later) small e in
    let read_on = reads_back pack (before ++ bytes) later small (e ∙ sym (append_assoc before bytes (encode later))) in
    (walk.next pack (length before) _ event (length bytes) from (encoded_is_read event (encode later))).parsed
    ∙ ap (event_then event) (ap (parse_from pack) (sym (length-append before bytes)) ∙ read_on)

pub encoding_is_read : EncodingIsRead
unfolding parse
encoding_is_read events small = reads_back (encode events) [] events small refl

-- the event that was read, another where none was
event_or : Event → Read → Event
event_or other (Ok (Some (event, bytes))) = event
event_or other (Ok None) = other
event_or other (Err refusal) = other

pub encodes_one_list : EncodesOneList
unfolding encode first_of event_or
encodes_one_list [] [] e = refl
encodes_one_list [] (other ∷ others) e =
    let never = ap first_of e ∙ encoded_is_read other (encode others) in
    cc
encodes_one_list (event ∷ later) [] e =
    let never = sym (encoded_is_read event (encode later)) ∙ ap first_of e in
    cc
encodes_one_list (event ∷ later) (other ∷ others) e =
    let both = sym (encoded_is_read event (encode later)) ∙ ap first_of e ∙ encoded_is_read other (encode others) in
    let same : event ≡ other = ap (event_or other) both in
    let rest : encode later ≡ encode others =
    sym (drop-append_seam (encode_event event) (encode later)) ∙ ap (drop (length (encode_event event))) e ∙ rw same (drop-append_seam (encode_event other) (encode others)) in
    let alike = encodes_one_list later others rest in
    cc

-- the bytes between a start and the end are the encoding of the events read from there on
record ReadFrom (pack : List ℕ) (start : ℕ) (parsed : Parsed) : Type 0 where
  within : parsed.end ≤ length pack
  encoded : take parsed.end pack ≡ take start pack ++ encode parsed.events
  stops : Stops (read_at pack parsed.end)
  refusal : parsed.refusal ≡ refusal_of (read_at pack parsed.end)

read_from_lem : (n : ℕ) (pack : List ℕ) (start : ℕ) → start ≤ length pack → length pack - start < n → ReadFrom pack start (parse_by n pack start)
unfolding encode
read_from_lem zero pack start h l = absurd (omega arith)
read_from_lem (suc n) pack start h l =
    by_kind (read_at pack start)
    (λ event bytes e.
    let at = event_at pack start event bytes e in
    let later = read_from_lem n pack (start + bytes) at.within (omega arith) in
    rw (by_next n pack start event bytes e)
    (record {
      within = later.within;
      encoded = later.encoded ∙ rw (at.encoded, append_assoc);
      stops = later.stops;
      refusal = later.refusal;
    }))
    (λ none. rw (by_stop n pack start none) (record { within = h; encoded = sym (append-nil (take start pack)); stops = none; refusal = refl }))

pub pack_is_read_whole : PackIsReadWhole
unfolding parse parse_from
pack_is_read_whole pack =
    let whole = read_from_lem (suc (length pack - 0)) pack 0 (omega arith) (omega arith) in
    record {
      within = whole.within;
      encoded = whole.encoded;
      one = λ events e. encodes_one_list _ events (sym whole.encoded ∙ e);
      stops = whole.stops;
      refusal = whole.refusal;
    }

-- where reading stops with no refusal, there is the end
ended : (found : Read) → Stops found → refusal_of found ≡ 0 → found ≡ Ok None
ended (Ok (Some (_, _))) none e = elim none [ ]
ended (Ok None) none e = refl
ended (Err UnknownTag) none e = absurd (omega arith)
ended (Err CutShort) none e = absurd (omega arith)
ended (Err TooLong) none e = absurd (omega arith)
ended (Err Beyond) none e = absurd (omega arith)

pub accepted_is_encoding : AcceptedIsEncoding
accepted_is_encoding pack e =
    let whole = pack_is_read_whole pack in
    let end = (parse pack).end in
    let none = end_is_empty (drop end pack) (end_there pack end (ended (read_at pack end) whole.stops (sym whole.refusal ∙ e))) in
    sym (take_all end pack (omega (arith, ap length none, length-drop end pack))) ∙ whole.encoded
