-- The prefix machine swallows nothing that fits neither string.
-- Assumes nothing.
use Prim.Native.Nat.{ℕ}
use mathlib.Core.Path.{◌≡◌, refl, ap, ◌∙◌}
use mathlib.Core.Bool.{false, ◌||◌, true≢false}
use lib.Dec.{eqb}
use Rattle.bits.specs.Choice.{when◌then◌else◌}
use Rattle.port.specs.declared.Prefix.{Prefix}
use Rattle.port.specs.declared.Prefix.TheVariants.{Closed, E0, E1, E1Make, E1Break}
use Rattle.port.specs.declared.Reading.{Reading}
use Rattle.port.specs.declared.Reading.TheVariants.{Overrun, Opens, Pauses, PauseEnds, Key}
use Rattle.port.specs.declared.Port.{Port}
use Rattle.port.specs.declared.Shared.{Shared}
use Rattle.port.specs.State.{with_prefix}
use Rattle.port.specs.Prefix.{at, pause, pause_break, continued, reading_of}
use Rattle.port.specs.KeyByte.{on_reading, key_byte_of}
use Rattle.port.proofs.Disjunction.{or_false}
use Rattle.port.specs.Laws.{fits, NothingSwallowed}

-- such a byte is read as with no prefix open
read_alike : (prefix : Prefix) (byte : ℕ) → fits prefix byte ≡ false → continued prefix byte ≡ continued Closed byte
unfolding continued when◌then◌else◌
read_alike Closed byte e = refl
read_alike E0 byte e = absurd (true≢false e)
read_alike E1 byte e = let n = or_false (eqb byte (at 1 pause)) (eqb byte (at 1 pause_break)) e in simp (n.0, n.1)
read_alike E1Make byte e = simp e
read_alike E1Break byte e = simp e

-- what is done with a reading does not depend on the prefix
done_alike : (reading : Reading) (port : Port) (shared : Shared) → on_reading reading port shared ≡ on_reading reading (with_prefix port Closed) shared
unfolding on_reading
done_alike Overrun port shared = refl
done_alike (Opens prefix) port shared = refl
done_alike Pauses port shared = refl
done_alike PauseEnds port shared = refl
done_alike (Key code) port shared = refl

pub nothing_swallowed : NothingSwallowed
unfolding key_byte_of reading_of
nothing_swallowed =
    record {
      read =
          λ port shared byte e.
          ap (λ (r : Reading). on_reading (when eqb byte 0x00 || eqb byte 0xFF then Overrun else r) port shared) (read_alike port.prefix byte e)
          ∙ done_alike (reading_of Closed byte) port shared;
    }
