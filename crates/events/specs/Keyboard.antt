-- Document 01, "Keyboard bytes": step 1, and what the port's effect does to the queue. Document 02, W-203: what stands before step 1; W-206: a scanner byte.
-- Assumes nothing.
use Rattle.std.specs.Prelude.{ℕ, ◌||◌, eqb, Option, None, Some}
use Rattle.bits.specs.Choice.{when◌then◌else◌}
use Rattle.word.specs.declared.Word.{Word}
use Rattle.word.specs.Word.{code_of, ascii_of, word_with}
use Rattle.port.specs.declared.Effect.{Effect}
use Rattle.port.specs.declared.Effect.TheVariants as effect
use Rattle.port.specs.KeyByte.{key_byte_of}
use Rattle.queue.specs.Queue as queue
use Rattle.translation.specs.Translation.{translated_of}
use Rattle.state.specs.declared.Device.{Device}
use Rattle.state.specs.declared.Device.TheVariants.{Keyboard, Scanner}
use Rattle.state.specs.declared.Service.{Service}
use Rattle.answers.specs.declared.Answer.TheVariants.{Nothing, Put, Dropped, Break, RestartAsked, Overrun, Ignored}
use Rattle.events.specs.declared.Outcome.{Outcome}
use Rattle.state.specs.State.{port_of, ports_with, with_ports, with_queue, with_codes}
use Rattle.events.specs.Outcomes.{answered_of, offered_of}
use Rattle.events.specs.Commands.{acknowledge_of, resend_of}

-- a word put, or dropped where the queue is full; either way it is shown
abbrev pub put_of : Service → Word → Outcome
put_of service word = offered_of service word (Put word) (Dropped word)

-- break: the queue is emptied and the word 0000 put
abbrev pub break_word : Word
break_word = word_with (code_of 0x00) (ascii_of 0x00)

unfoldable pub broken_of : Service → Outcome
broken_of service = answered_of (with_queue service (queue.put_of queue.empty_queue break_word).queue) Break

unfoldable pub on_effect : Service → Effect → Outcome
on_effect service effect.Nothing = answered_of service Nothing
on_effect service (effect.Put word) = put_of service word
on_effect service effect.Break = broken_of service
on_effect service effect.RestartAsked = answered_of service RestartAsked
on_effect service effect.Overrun = answered_of service Overrun

-- steps 2 to 9, at the port of the device
unfoldable pub typed_of : Device → Service → ℕ → Outcome
typed_of device service byte =
    let decoded = key_byte_of (port_of device service.ports) service.shared byte in
    on_effect (with_ports service (ports_with device decoded.port service.ports) decoded.shared) decoded.effect

-- step 1: FA and FE are the line's, and touch no prefix
unfoldable pub read_of : Service → ℕ → Outcome
read_of service byte =
    when eqb byte 0xFA then acknowledge_of service
    else when eqb byte 0xFE then resend_of service
    else typed_of Keyboard service byte

-- before step 1 a byte is translated; a mark has nothing to tell
abbrev pub on_passed : Service → Option ℕ → Outcome
on_passed service None = answered_of service Nothing
on_passed service (Some byte) = read_of service byte

unfoldable pub key_of : Service → ℕ → Outcome
key_of service byte =
    let translated = translated_of service.codes byte in
    on_passed (with_codes service translated.codes) translated.passed

-- a scanner byte is always of set 1, and FA and FE are no replies there
unfoldable pub scan_of : Service → ℕ → Outcome
scan_of service byte = when eqb byte 0xFA || eqb byte 0xFE then answered_of service Ignored else typed_of Scanner service byte
