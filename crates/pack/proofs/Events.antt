-- The laws of one event: it is read where it is encoded, and encoded where it is read.
-- Assumes nothing.
use Prim.Native.Nat.{ℕ, ◌≤◌, ◌<◌}
use mathlib.Core.Path.{◌≡◌, refl, subst}
use mathlib.Core.List.{List, [], ◌∷◌}
use native.Mathlib.Omega.{arith}
use borrow.Author.Tests.{eqb-true}
use lib.Dec.{eqb}
use lib.ListN.{length, take}
use Rattle.std.specs.Prelude.{Some, None, Ok, Err}
use Rattle.bits.specs.Choice.{when◌then◌else◌}
use Rattle.bits.proofs.Choice.{by_test}
use Rattle.events.specs.declared.Event.TheVariants.{Key, Call, Poll, TimeOut, Empty, Restart, Scan}
use Rattle.events.specs.Tags.{key_tag, call_tag, poll_tag, time_out_tag, empty_tag, restart_tag, scan_tag}
use Rattle.pack.specs.Reading.{Read, byte_of, call_of, tagged_of, first_of}
use Rattle.pack.specs.Encoding.{encode_event}
use Rattle.pack.specs.Laws.{EncodedByTag, EncodedIsRead, ReadIsEncoded}

pub encoded_by_tag : EncodedByTag
encoded_by_tag (Key byte) = refl
encoded_by_tag (Call function a b) = refl
encoded_by_tag Poll = refl
encoded_by_tag TimeOut = refl
encoded_by_tag Empty = refl
encoded_by_tag Restart = refl
encoded_by_tag (Scan byte) = refl

pub encoded_is_read : EncodedIsRead
unfolding first_of tagged_of when◌then◌else◌
encoded_is_read (Key byte) later = refl
encoded_is_read (Call function a b) later = refl
encoded_is_read Poll later = refl
encoded_is_read TimeOut later = refl
encoded_is_read Empty later = refl
encoded_is_read Restart later = refl
encoded_is_read (Scan byte) later = refl

-- what the bytes of a part have to do with a reading of it
abbrev Found : List ℕ → Read → Type 0
Found part (Ok (Some (event, bytes))) = (0 < bytes) × (bytes ≤ length part) × (take bytes part ≡ encode_event event)
Found part (Ok None) = part ≡ []
Found part (Err refusal) = Unit {0}

found_key : (operands : List ℕ) → Found (key_tag ∷ operands) (byte_of Key operands)
found_key [] = tt
found_key (byte ∷ later) = (omega arith, omega arith, refl)

found_scan : (operands : List ℕ) → Found (scan_tag ∷ operands) (byte_of Scan operands)
found_scan [] = tt
found_scan (byte ∷ later) = (omega arith, omega arith, refl)

found_call : (operands : List ℕ) → Found (call_tag ∷ operands) (call_of operands)
found_call [] = tt
found_call (function ∷ []) = tt
found_call (function ∷ a ∷ []) = tt
found_call (function ∷ a ∷ b ∷ later) = (omega arith, omega arith, refl)

found_tagged : (tag : ℕ) (operands : List ℕ) → Found (tag ∷ operands) (tagged_of tag operands)
unfolding tagged_of
found_tagged tag operands =
    let Here : Read → Type 0 = Found (tag ∷ operands) in
    by_test Here (eqb tag key_tag) _ _ (λ key. rw (eqb-true tag key_tag key) (found_key operands)) (λ _.
    by_test Here (eqb tag call_tag) _ _ (λ call. rw (eqb-true tag call_tag call) (found_call operands)) (λ _.
    by_test Here (eqb tag poll_tag) _ _ (λ poll. (omega arith, omega arith, rw (eqb-true tag poll_tag poll))) (λ _.
    by_test Here (eqb tag time_out_tag) _ _ (λ out. (omega arith, omega arith, rw (eqb-true tag time_out_tag out))) (λ _.
    by_test Here (eqb tag empty_tag) _ _ (λ empty. (omega arith, omega arith, rw (eqb-true tag empty_tag empty))) (λ _.
    by_test Here (eqb tag restart_tag) _ _ (λ restart. (omega arith, omega arith, rw (eqb-true tag restart_tag restart))) (λ _.
    by_test Here (eqb tag scan_tag) _ _ (λ scan. rw (eqb-true tag scan_tag scan) (found_scan operands)) (λ _. tt)))))))

found : (part : List ℕ) → Found part (first_of part)
unfolding first_of
found [] = refl
found (tag ∷ operands) = found_tagged tag operands

pub read_is_encoded : ReadIsEncoded
read_is_encoded part event bytes e =
    let f = subst (Found part) e (found part) in
    record { some = f.0; within = f.1; encoded = f.2; rest = rw e }

pub end_is_empty : (part : List ℕ) → first_of part ≡ Ok None → part ≡ []
end_is_empty part e = subst (Found part) e (found part)
