-- What a reading comes to once the bytes are counted, as the code counts them.
-- Assumes nothing.
use Prim.Native.Nat.{ℕ, ◌-◌, ◌≤◌, ◌<◌}
use mathlib.Core.Bool.{Bool, true, false}
use mathlib.Core.Path.{◌≡◌, refl, ◌∙◌}
use mathlib.Core.List.{List, [], ◌∷◌}
use native.Mathlib.Omega.{arith}
use borrow.Author.Tests.{lt-ltb, le-ltb, ltb-true, ltb-false}
use lib.Dec.{ltb}
use lib.ListN.{length, get_or, take, drop, length-drop, drop_of_length-le}
use lib.Seq.{take_all}
use Rattle.std.specs.Prelude.{Some, None, Ok, Err}
use Rattle.bits.specs.Choice.{when◌then◌else◌}
use Rattle.bits.proofs.Choice.{by_test}
use Rattle.events.specs.declared.Event.{Event}
use Rattle.events.specs.declared.Event.TheVariants.{Call}
use Rattle.pack.specs.declared.ReadError.TheVariants.{UnknownTag, CutShort, TooLong, Beyond}
use Rattle.pack.specs.Reading.{Read, limit, byte_of, call_of, tagged_of, first_of, read_at, part_at, rest_of}
use Rattle.pack.specs.Laws.{Stops}

-- a part that ends where its slice ends
pub to_end : (start : ℕ) (bytes : List ℕ) → take (length bytes - start) (drop start bytes) ≡ drop start bytes
to_end start bytes = take_all (length bytes - start) (drop start bytes) (simp length-drop (omega arith))

-- one number is below another, or not
pub by_order : {Q : Type 0} (a b : ℕ) → (a < b → Q) → (b ≤ a → Q) → Q
by_order {Q = Q} a b less not-less = by_test (λ (_ : Bool). Q) (ltb a b) true false (λ e. less (ltb-true a b e)) (λ e. not-less (ltb-false a b e))

pub byte_cut : (event : ℕ → Event) (operands : List ℕ) → length operands < 1 → byte_of event operands ≡ Err CutShort
byte_cut event [] short = refl
byte_cut event (byte ∷ later) short = absurd (omega arith)

pub byte_whole : (event : ℕ → Event) (operands : List ℕ) → 1 ≤ length operands → byte_of event operands ≡ Ok (Some (event (get_or operands 0 0), 2))
byte_whole event [] long = absurd (omega arith)
byte_whole event (byte ∷ later) long = refl

pub call_cut : (operands : List ℕ) → length operands < 3 → call_of operands ≡ Err CutShort
call_cut [] short = refl
call_cut (function ∷ []) short = refl
call_cut (function ∷ a ∷ []) short = refl
call_cut (function ∷ a ∷ b ∷ later) short = absurd (omega arith)

pub call_whole : (operands : List ℕ) → 3 ≤ length operands
    → call_of operands ≡ Ok (Some (Call (get_or operands 0 0) (get_or operands 1 0) (get_or operands 2 0), 4))
call_whole [] long = absurd (omega arith)
call_whole (function ∷ []) long = absurd (omega arith)
call_whole (function ∷ a ∷ []) long = absurd (omega arith)
call_whole (function ∷ a ∷ b ∷ later) long = refl

pub first_none : (part : List ℕ) → length part < 1 → first_of part ≡ Ok None
unfolding first_of
first_none [] none = refl
first_none (tag ∷ operands) none = absurd (omega arith)

pub first_some : (part : List ℕ) → 1 ≤ length part → first_of part ≡ tagged_of (get_or part 0 0) (drop 1 part)
unfolding first_of
first_some [] some = absurd (omega arith)
first_some (tag ∷ operands) some = refl

pub read_too_long : (pack : List ℕ) (start : ℕ) → limit < length pack → read_at pack start ≡ Err TooLong
unfolding read_at when◌then◌else◌
read_too_long pack start long = simp (lt-ltb limit (length pack) long)

pub read_beyond : (pack : List ℕ) (start : ℕ) → length pack ≤ limit → length pack < start → read_at pack start ≡ Err Beyond
unfolding read_at when◌then◌else◌
read_beyond pack start small beyond = simp (le-ltb limit (length pack) small, lt-ltb (length pack) start beyond)

pub read_within : (pack : List ℕ) (start : ℕ) → length pack ≤ limit → start ≤ length pack → read_at pack start ≡ first_of (drop start pack)
unfolding read_at when◌then◌else◌
read_within pack start small within = simp (le-ltb limit (length pack) small, le-ltb (length pack) start within)

pub part_too_long : (pack : List ℕ) (start : ℕ) → limit < length pack → part_at pack start ≡ []
unfolding part_at when◌then◌else◌
part_too_long pack start long = simp (lt-ltb limit (length pack) long)

pub part_within : (pack : List ℕ) (start : ℕ) → length pack ≤ limit → part_at pack start ≡ drop start pack
unfolding part_at when◌then◌else◌
part_within pack start small = simp (le-ltb limit (length pack) small)

pub part_beyond : (pack : List ℕ) (start : ℕ) → length pack ≤ limit → length pack < start → part_at pack start ≡ []
part_beyond pack start small beyond = part_within pack start small ∙ drop_of_length-le pack {i = start} (omega arith)

-- what is not an event with its bytes is no event
pub no_event : (found : Read) → ((event : Event) (bytes : ℕ) → found ≡ Ok (Some (event, bytes)) → ⊥) → Stops found
no_event (Ok (Some (event, bytes))) other = absurd (other event bytes refl)
no_event (Ok None) other = tt
no_event (Err refusal) other = tt

-- a part with no event is handed on as it is
pub kept : (found : Read) (part : List ℕ) → Stops found → rest_of found part ≡ part
kept (Ok (Some (_, _))) part none = elim none [ ]
kept (Ok None) part none = refl
kept (Err UnknownTag) part none = refl
kept (Err CutShort) part none = refl
kept (Err TooLong) part none = refl
kept (Err Beyond) part none = refl
