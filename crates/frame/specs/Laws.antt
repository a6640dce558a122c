-- What holds of frames. OneFrameEach.antt of proofs/ proves it.
-- Assumes nothing.
use Rattle.frame.specs.declared.Fault.{Fault}
use Rattle.std.specs.Prelude.{ℕ, suc, zero, ◌+◌, ◌≤◌, ◌<◌, ◌≡◌, Bool, true, false, Result, Ok, Err}
use Rattle.bits.specs.Choice.{when◌then◌else◌}
use Rattle.frame.specs.Frame.{frame_of, read_frame}

abbrev pub is_accepted : Result ℕ Fault → Bool
is_accepted (Ok byte) = true
is_accepted (Err fault) = false

-- how many numbers below a limit are accepted
unfoldable pub accepted_below : ℕ → ℕ
accepted_below zero = 0
accepted_below (suc frame) = (when is_accepted (read_frame frame) then 1 else 0) + accepted_below frame

-- a byte's frame is read as that byte, whatever is read as a byte is its frame, and so 256 numbers are accepted and no more
pub record OneFrameEach : Type 0 where
  pub read : (byte : ℕ) → byte < 256 → read_frame (frame_of byte) ≡ Ok byte
  pub only : (frame byte : ℕ) → read_frame frame ≡ Ok byte → (byte < 256) × (frame ≡ frame_of byte)
  pub count : (limit : ℕ) → 2048 ≤ limit → accepted_below limit ≡ 256
