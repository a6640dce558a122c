-- What the code gets by a mask, a shift and a count is the part of the frame that a definition names.
-- Assumes nothing.
use mathlib.Core.Path.{◌≡◌, ap, sym, ◌∙◌}
use Prim.Native.Nat.{ℕ, ◌*◌, ◌/◌, ◌%◌, ◌<◌}
use native.Mathlib.Nat.{add-zero}
use native.Mathlib.Omega.{arith}
use lib.Dec.{lit<, lit≤}
use lib.Pow.{shl_exact}
use lib.Bits.{bit_and, and_mask, and_high}
use lib.Count.{ones, ones_cat}
use Rattle.frame.specs.Frame.{start_of, data_of, data_and_parity_of, stop_of}

-- a number moved up by one place has no other ones
ones_moved : (n : ℕ) → ones (n * 2) ≡ ones n
unfolding ones
ones_moved n = ap ones (sym (add-zero (n * 2))) ∙ ones_cat 1 n 0 (lit< tt) ∙ add-zero (ones n)

lowest_bit : (n : ℕ) → bit_and n 1 ≡ n % 2
lowest_bit n = and_mask n 1

odd_ones : (n m : ℕ) → ones n ≡ ones m → bit_and (ones n) 1 ≡ ones m % 2
odd_ones n m e = lowest_bit (ones n) ∙ ap (λ (count : ℕ). count % 2) e

pub start_masked : (frame : ℕ) → bit_and frame 1 ≡ start_of frame
start_masked frame = omega (arith, lowest_bit frame)

pub ones_masked : (frame : ℕ) → bit_and (ones (bit_and frame 0x03FE)) 1 ≡ ones (data_and_parity_of frame) % 2
ones_masked frame = odd_ones _ _ (ap ones (and_high frame 9 1) ∙ ones_moved (data_and_parity_of frame))

pub stop_masked : (frame : ℕ) → bit_and (frame / 1024) 1 ≡ stop_of frame
stop_masked frame = lowest_bit (frame / 1024)

pub data_masked : (frame : ℕ) → bit_and (frame / 2) 255 ≡ data_of frame
data_masked frame = and_mask (frame / 2) 8

-- the writer counts the byte where its frame has it
pub ones_written : (byte : ℕ) → byte < 256 → bit_and (ones (byte * 2 % 65536)) 1 ≡ ones byte % 2
ones_written byte h = odd_ones _ _ (ap ones (shl_exact 8 1 16 h (lit≤ tt)) ∙ ones_moved byte)
