-- What holds of every byte at a port, stated as propositions. Proved in proofs/.
-- Assumes nothing.
use Rattle.std.specs.Prelude.{ℕ, ◌<◌, ◌≡◌, Bool, true, false, ◌&&◌, ◌||◌, not, eqb}
use Rattle.bits.specs.Choice.{when◌then◌else◌}
use Rattle.word.specs.declared.Word.{Word}
use Rattle.word.specs.Word.{is_code}
use Rattle.port.specs.declared.Prefix.{Prefix}
use Rattle.port.specs.declared.Prefix.TheVariants.{Closed, E0, E1, E1Make, E1Break}
use Rattle.port.specs.declared.Code.{Code}
use Rattle.port.specs.declared.Port.{Port}
use Rattle.port.specs.declared.Shared.{Shared}
use Rattle.port.specs.declared.Decoded.{Decoded}
use Rattle.port.specs.declared.Effect.TheVariants.{Nothing, Put}
use Rattle.port.specs.State.{either_side, new_port, with_prefix, result_of}
use Rattle.port.specs.Prefix.{at, pause, pause_break}
use Rattle.port.specs.Flags.{modifiers_after, flags_port, flags_shared, flags_changed}
use Rattle.port.specs.AltEntry.{alt_ended}
use Rattle.port.specs.Makes.{is_insert_word}
use Rattle.port.specs.KeyByte.{key_byte_of}

-- whether a byte goes on with the prefix that is open: every byte after E0, the next of a string after E1
abbrev pub fits : Prefix → ℕ → Bool
fits Closed byte = false
fits E0 byte = true
fits E1 byte = eqb byte (at 1 pause) || eqb byte (at 1 pause_break)
fits E1Make byte = eqb byte (at 2 pause)
fits E1Break byte = eqb byte (at 2 pause_break)

-- a byte that fits neither string is not swallowed: it does what it does with no prefix open
pub record NothingSwallowed : Type 0 where
  pub read : (port : Port) (shared : Shared) (byte : ℕ) → fits port.prefix byte ≡ false
      → key_byte_of port shared byte ≡ key_byte_of (with_prefix port Closed) shared byte

-- with no Alt down the Alt sum is 0
pub record SumSettled (port : Port) : Type 0 where
  pub zero : either_side port.modifiers.alt ≡ false → port.sum ≡ 0

-- the narrow reading of "the last Alt goes up": an Alt must have been down before its break
abbrev pub flags_changed_narrowly : Port → Shared → Code → Decoded
flags_changed_narrowly port shared code =
    when is_code 0xB8 code.scan && not (either_side (modifiers_after port.modifiers code).alt) && either_side port.modifiers.alt
    then alt_ended (flags_port port code) (flags_shared shared port.held code)
    else result_of (flags_port port code) (flags_shared shared port.held code) Nothing

-- a new port is settled, every byte keeps it so, and on a settled port the two readings are one
pub record AltSumSettles : Type 0 where
  pub new : SumSettled new_port
  pub kept : (port : Port) (shared : Shared) (byte : ℕ) → SumSettled port → SumSettled (key_byte_of port shared byte).port
  pub agree : (port : Port) (shared : Shared) (code : Code) → SumSettled port → flags_changed port shared code ≡ flags_changed_narrowly port shared code

-- a lock is changed by the byte of its own key alone, Insert by its two words alone
pub record LocksKept (shared : Shared) (byte : ℕ) (after : Decoded) : Type 0 where
  pub scroll : (byte ≡ 0x46 → ⊥) → after.shared.locks.scroll ≡ shared.locks.scroll
  pub num : (byte ≡ 0x45 → ⊥) → after.shared.locks.num ≡ shared.locks.num
  pub caps : (byte ≡ 0x3A → ⊥) → after.shared.locks.caps ≡ shared.locks.caps
  pub insert : ((word : Word) → after.effect ≡ Put word → is_insert_word word ≡ false) → after.shared.locks.insert ≡ shared.locks.insert

pub record LocksHold : Type 0 where
  pub kept : (port : Port) (shared : Shared) (byte : ℕ) → byte < 256 → LocksKept shared byte (key_byte_of port shared byte)
