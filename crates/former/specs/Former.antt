-- The service as it was before document 02, W-205: grey keys put the words of the keys that they double, and 00 and 01 return what is stored.
-- Assumes nothing.
use Rattle.std.specs.Prelude.{ℕ, Bool, true, false, ◌||◌, List, [], ◌∷◌, ◌++◌, map, eqb, Option, None, Some}
use Rattle.bits.specs.Choice.{when◌then◌else◌}
use Rattle.word.specs.declared.ScanCode.{ScanCode}
use Rattle.word.specs.Word.{code_of}
use Rattle.rows.specs.declared.Entry.{Entry}
use Rattle.rows.specs.Printed.{none, low, Row, row}
use Rattle.rows.specs.Rows.{rows, row_at, extended}
use Rattle.rows.specs.Column.{column_of}
use Rattle.rows.specs.Lookup.{entry_in}
use Rattle.port.specs.declared.Prefix.TheVariants.{Closed}
use Rattle.port.specs.declared.Code.{Code}
use Rattle.port.specs.declared.Reading.{Reading}
use Rattle.port.specs.declared.Reading.TheVariants as reading
use Rattle.port.specs.declared.Modifiers.{Modifiers}
use Rattle.port.specs.declared.Locks.{Locks}
use Rattle.port.specs.declared.Port.{Port}
use Rattle.port.specs.declared.Shared.{Shared}
use Rattle.port.specs.declared.Decoded.{Decoded}
use Rattle.port.specs.State.{with_prefix}
use Rattle.port.specs.Prefix.{reading_of}
use Rattle.port.specs.Makes.{selector_of}
use Rattle.port.specs.KeyByte.{on_entry, on_reading}
use Rattle.translation.specs.Translation.{translated_of}
use Rattle.controller.specs.declared.PortEvent.{PortEvent}
use Rattle.controller.specs.declared.Response.{Response}
use Rattle.controller.specs.declared.Response.TheVariants as response
use Rattle.controller.specs.PortEvents.{responded_of}
use Rattle.state.specs.declared.Device.{Device}
use Rattle.state.specs.declared.Device.TheVariants.{Keyboard, Scanner}
use Rattle.state.specs.declared.Service.{Service}
use Rattle.state.specs.State.{port_of, ports_with, with_ports, with_codes, with_controller}
use Rattle.answers.specs.declared.Answer.TheVariants.{Ignored}
use Rattle.events.specs.declared.Event.{Event}
use Rattle.events.specs.declared.Event.TheVariants.{Key, Call, Poll, TimeOut, Empty, Restart, Scan}
use Rattle.events.specs.declared.Outcome.{Outcome}
use Rattle.events.specs.Outcomes.{answered_of}
use Rattle.events.specs.Keyboard.{on_effect, on_passed}
use Rattle.events.specs.Commands.{acknowledge_of, resend_of}
use Rattle.events.specs.Functions.{as_stored, for_old_program, take_of, look_of, call_of}
use Rattle.events.specs.Step.{step_of}
use Rattle.events.specs.Sets.{change_of}
use Rattle.events.specs.Controller.{on_response}
use Rattle.lists.specs.EventLaws.{Ran, event, change, ported}

-- an extended row had the words of the row with its code
abbrev pub former_row : ScanCode → Row
unfolding rows
former_row code = let r = row_at rows code in extended code r.plain r.ctrl

unfoldable pub former_extended_rows : List Row
former_extended_rows =
    map former_row (map code_of (0x47 ∷ 0x48 ∷ 0x49 ∷ 0x4B ∷ 0x4D ∷ 0x4F ∷ 0x50 ∷ 0x51 ∷ 0x52 ∷ 0x53 ∷ 0x1C ∷ []))
    ++ (extended (code_of 0x35) (low 0x2F) none
    ∷ row 0x37 none none none none
    ∷ row 0x46 none none none none
    ∷ [])

abbrev pub former_rows_for : Bool → List Row
former_rows_for false = rows
former_rows_for true = former_extended_rows

unfoldable pub former_entry_for : Code → Modifiers → Locks → Entry
former_entry_for code m l = entry_in (former_rows_for code.extended) code.scan (column_of code.scan (selector_of m l))

-- steps 2 to 9 with these rows
unfoldable pub former_code_read : Port → Shared → Code → Decoded
former_code_read port shared code = on_entry (former_entry_for code port.modifiers shared.locks) port shared code

unfoldable pub former_on_reading : Reading → Port → Shared → Decoded
former_on_reading reading.Overrun port shared = on_reading reading.Overrun port shared
former_on_reading (reading.Opens prefix) port shared = on_reading (reading.Opens prefix) port shared
former_on_reading reading.Pauses port shared = on_reading reading.Pauses port shared
former_on_reading reading.PauseEnds port shared = on_reading reading.PauseEnds port shared
former_on_reading (reading.Key code) port shared = former_code_read (with_prefix port Closed) shared code

unfoldable pub former_typed_of : Device → Service → ℕ → Outcome
former_typed_of device service byte =
    let port = port_of device service.ports in
    let decoded = former_on_reading (reading_of port.prefix byte) port service.shared in
    on_effect (with_ports service (ports_with device decoded.port service.ports) decoded.shared) decoded.effect

-- step 1 and what stands before it
unfoldable pub former_read_of : Service → ℕ → Outcome
former_read_of service byte =
    when eqb byte 0xFA then acknowledge_of service
    else when eqb byte 0xFE then resend_of service
    else former_typed_of Keyboard service byte

abbrev pub former_on_passed : Service → Option ℕ → Outcome
former_on_passed service None = on_passed service None
former_on_passed service (Some byte) = former_read_of service byte

unfoldable pub former_key_of : Service → ℕ → Outcome
former_key_of service byte =
    let translated = translated_of service.codes byte in
    former_on_passed (with_codes service translated.codes) translated.passed

-- a scanner, which came later, beside these rows
unfoldable pub former_scan_of : Service → ℕ → Outcome
former_scan_of service byte = when eqb byte 0xFA || eqb byte 0xFE then answered_of service Ignored else former_typed_of Scanner service byte

-- functions: 00 and 01 returned words as 10 and 11 do
unfoldable pub former_call_of : Service → ℕ → ℕ → ℕ → Outcome
former_call_of service function a b =
    when eqb function 0x00 then take_of as_stored (for_old_program service)
    else when eqb function 0x01 then look_of as_stored (for_old_program service)
    else call_of service function a b

-- one event
unfoldable pub former_step_of : Service → Event → Outcome
former_step_of service (Key byte) = former_key_of service byte
former_step_of service (Call function a b) = former_call_of service function a b
former_step_of service Poll = step_of service Poll
former_step_of service TimeOut = step_of service TimeOut
former_step_of service Empty = step_of service Empty
former_step_of service Restart = step_of service Restart
former_step_of service (Scan byte) = former_scan_of service byte

-- the controller, which came later, feeding these keys
abbrev pub former_on_response : Service → Response → Outcome
former_on_response service response.Accepted = on_response service response.Accepted
former_on_response service response.Interrupt = on_response service response.Interrupt
former_on_response service (response.Byte byte) = on_response service (response.Byte byte)
former_on_response service (response.Key byte) = former_step_of service (Key byte)
former_on_response service (response.Refused refusal) = on_response service (response.Refused refusal)

unfoldable pub former_port_step_of : Service → PortEvent → Outcome
former_port_step_of service e =
    let responded = responded_of service.controller e in former_on_response (with_controller service responded.controller) responded.response

-- a list of what ran; a change of set did what it does
abbrev pub former_after : Service → List Ran → Service
former_after service [] = service
former_after service (event e ∷ more) = former_after (former_step_of service e).service more
former_after service (change set ∷ more) = former_after (change_of service set).service more
former_after service (ported e ∷ more) = former_after (former_port_step_of service e).service more
