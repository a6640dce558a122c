-- A byte at a keyboard port, FA and FE apart.
-- Assumes nothing.
use Rattle.std.specs.Prelude.{ℕ, true}
use Rattle.rows.specs.declared.Entry.{Entry}
use Rattle.rows.specs.declared.Entry.TheVariants.{NoRow, NoWord, Has}
use Rattle.port.specs.declared.Prefix.TheVariants.{Closed}
use Rattle.port.specs.declared.Code.{Code}
use Rattle.port.specs.declared.Reading.{Reading}
use Rattle.port.specs.declared.Reading.TheVariants as reading
use Rattle.port.specs.declared.Port.{Port}
use Rattle.port.specs.declared.Shared.{Shared}
use Rattle.port.specs.declared.Decoded.{Decoded}
use Rattle.port.specs.declared.Effect.TheVariants.{Nothing, Overrun}
use Rattle.port.specs.State.{result_of, with_prefix, with_paused}
use Rattle.port.specs.Prefix.{reading_of}
use Rattle.port.specs.Flags.{flags_changed}
use Rattle.port.specs.Makes.{entry_for, made_of}

-- a code with a row is a make of steps 5 to 9, any other changes flags or nothing
unfoldable pub on_entry : Entry → Port → Shared → Code → Decoded
on_entry NoRow port shared code = flags_changed port shared code
on_entry NoWord port shared code = made_of port shared code NoWord
on_entry (Has word) port shared code = made_of port shared code (Has word)

unfoldable pub code_read : Port → Shared → Code → Decoded
code_read port shared code = on_entry (entry_for code port.modifiers shared.locks) port shared code

unfoldable pub on_reading : Reading → Port → Shared → Decoded
on_reading reading.Overrun port shared = result_of (with_prefix port Closed) shared Overrun
on_reading (reading.Opens prefix) port shared = result_of (with_prefix port prefix) shared Nothing
on_reading reading.Pauses port shared = result_of (with_prefix port Closed) (with_paused shared true) Nothing
on_reading reading.PauseEnds port shared = result_of (with_prefix port Closed) shared Nothing
on_reading (reading.Key code) port shared = code_read (with_prefix port Closed) shared code

unfoldable pub key_byte_of : Port → Shared → ℕ → Decoded
key_byte_of port shared byte = on_reading (reading_of port.prefix byte) port shared
