-- The law that Laws.antt of specs/ states. A frame is its data, a parity bit that the data decide, and two bits that are fixed.
-- Assumes nothing.
use Rattle.std.specs.Prelude.{Err}
use mathlib.Core.Path.{◌≡◌, refl, ap, ◌∙◌}
use Prim.Native.Nat.{ℕ, zero, suc, ◌+◌, ◌-◌, ◌*◌, ◌/◌, ◌%◌, ◌≤◌, ◌<◌}
use native.Mathlib.Nat.{le_of_suc-le-suc, not-suc-le-zero}
use native.Mathlib.Decide.{le_ind}
use native.Mathlib.Omega.{arith}
use lib.Pow.{mod-pow-add, shr-shr}
use lib.Count.{ones, ones_in, ones_cat}
use borrow.Author.Tests.{le-leb}
use Rattle.bits.specs.Choice.{when◌then◌else◌}
use Rattle.frame.specs.declared.Fault.TheVariants.{Start}
use Rattle.frame.specs.Frame.{bits_at, data_and_parity_of, parity_for, frame_of, read_frame}
use Rattle.frame.specs.Laws.{accepted_below, OneFrameEach}
use Rattle.frame.proofs.Accepted.{Faultless, faultless_read, read_faultless}

-- ---- the count of ones

ones_of_bit : (bit : ℕ) → bit < 2 → ones bit ≡ bit
unfolding ones ones_in
ones_of_bit zero h = refl
ones_of_bit (suc zero) h = refl
ones_of_bit (suc (suc n)) h = absurd (not-suc-le-zero (le_of_suc-le-suc (le_of_suc-le-suc h)))

-- a parity bit above a byte adds itself to the count
ones_with_parity : (bit byte : ℕ) → bit < 2 → byte < 256 → ones (bit * 256 + byte) ≡ bit + ones byte
ones_with_parity bit byte h b = ones_cat 8 bit byte b ∙ ap (λ (count : ℕ). count + ones byte) (ones_of_bit bit h)

-- one bit alone makes a count odd
odd_by : (bit count : ℕ) → bit < 2 → (bit + count) % 2 ≡ 1 → bit ≡ 1 - count % 2
odd_by bit count h e = omega arith

-- ---- both ways

written_faultless : (byte : ℕ) → byte < 256 → Faultless (frame_of byte) byte
unfolding frame_of
written_faultless byte h =
    let counted : ones (data_and_parity_of (frame_of byte)) ≡ parity_for byte + ones byte =
    ap ones (omega arith) ∙ ones_with_parity (parity_for byte) byte (omega arith) h in
    record { below = omega arith; start = omega arith; parity = omega arith; stop = omega arith; carries = omega arith }

faultless_written : (frame byte : ℕ) → Faultless frame byte → frame ≡ frame_of byte
unfolding frame_of
faultless_written frame byte h =
    let bit = bits_at (frame / 2) 8 1 in
    let small : byte < 256 = omega arith in
    let parts : data_and_parity_of frame ≡ bit * 256 + byte = omega (arith, mod-pow-add (frame / 2) 1 8) in
    let counted : ones (data_and_parity_of frame) ≡ bit + ones byte = ap ones parts ∙ ones_with_parity bit byte (omega arith) small in
    let parity : bit ≡ parity_for byte = odd_by bit (ones byte) (omega arith) (omega arith) in
    let above_start : frame / 2 ≡ 512 + (bit * 256 + byte) = omega (arith, shr-shr frame 1 9) in
    omega arith

-- ---- how many

-- computed at each number of eleven bits
of_eleven_bits : accepted_below 2048 ≡ 256
unfolding accepted_below read_frame when◌then◌else◌ ones ones_in
of_eleven_bits = refl

too_large : (frame : ℕ) → 2048 ≤ frame → read_frame frame ≡ Err Start
unfolding read_frame when◌then◌else◌
too_large frame h = simp (le-leb _ _ h)

counted_below : (limit : ℕ) → 2048 ≤ limit → accepted_below limit ≡ 256
unfolding accepted_below when◌then◌else◌
counted_below = le_ind (λ (limit : ℕ). accepted_below limit ≡ 256) of_eleven_bits (λ frame h e. rw (too_large frame h) (omega arith))

pub one_frame_each : OneFrameEach
one_frame_each = record {
  read = λ byte h. faultless_read (frame_of byte) byte (written_faultless byte h);
  only = λ frame byte e. let h = read_faultless frame byte e in (omega arith, faultless_written frame byte h);
  count = counted_below;
}
