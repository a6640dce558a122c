-- Steps 5 to 9: a make with a row.
-- Assumes nothing.
use Rattle.std.specs.Prelude.{Bool, false, ◌&&◌, ◌||◌, not, eqb, Option, None, Some, ℕ}
use Rattle.bits.specs.Choice.{when◌then◌else◌}
use Rattle.bits.specs.Bits.{toggle}
use Rattle.word.specs.declared.Word.{Word}
use Rattle.word.specs.Word.{is_code, number_of}
use Rattle.rows.specs.declared.Entry.{Entry}
use Rattle.rows.specs.declared.Entry.TheVariants.{NoRow, NoWord, Has}
use Rattle.rows.specs.declared.Selector.{Selector}
use Rattle.rows.specs.Lookup.{lookup_of}
use Rattle.port.specs.declared.Code.{Code}
use Rattle.port.specs.declared.Modifiers.{Modifiers}
use Rattle.port.specs.declared.Held.{Held}
use Rattle.port.specs.declared.Port.{Port}
use Rattle.port.specs.declared.Locks.{Locks}
use Rattle.port.specs.declared.Shared.{Shared}
use Rattle.port.specs.declared.Decoded.{Decoded}
use Rattle.port.specs.declared.Effect.TheVariants.{Nothing, Put, Break, RestartAsked}
use Rattle.port.specs.State.{either_side, result_of, with_sum, with_paused}
use Rattle.port.specs.AltEntry.{alt_digit, sum_after}

-- what chooses the column
abbrev pub selector_of : Modifiers → Locks → Selector
selector_of m l = record { shift = either_side m.shift; ctrl = either_side m.ctrl; alt = either_side m.alt; caps = l.caps; num = l.num }

-- the row's entry in the column that applies
unfoldable pub entry_for : Code → Modifiers → Locks → Entry
entry_for code m l = lookup_of code.scan code.extended (selector_of m l)

-- the words of Insert: the keypad's, and the grey key's of document 02, W-205
abbrev pub is_insert_word : Word → Bool
is_insert_word word = eqb (number_of word) 0x5200 || eqb (number_of word) 0x52E0

-- the Insert rule: 52 or E0 52 yields such a word while Ins held is clear
abbrev pub is_insert : Held → Code → Word → Bool
is_insert held code word = is_code 0x52 code.scan && is_insert_word word && not held.insert

abbrev pub with_insert_held : Port → Bool → Port
with_insert_held port insert =
    let h = port.held in
    record {
      prefix = port.prefix;
      modifiers = port.modifiers;
      held = record { scroll = h.scroll; num = h.num; caps = h.caps; insert = insert; sysreq = h.sysreq };
      sum = port.sum;
    }

abbrev pub with_insert : Shared → Bool → Shared
with_insert shared insert =
    let l = shared.locks in
    record { locks = record { scroll = l.scroll; num = l.num; caps = l.caps; insert = insert }; paused = shared.paused }

-- step 9: the word is put
unfoldable pub word_put : Port → Shared → Code → Word → Decoded
word_put port shared code word =
    let insert = is_insert port.held code word in
    result_of (with_insert_held port (insert || port.held.insert)) (with_insert shared (toggle insert shared.locks.insert)) (Put word)

unfoldable pub entry_put : Port → Shared → Code → Entry → Decoded
entry_put port shared code NoRow = result_of port shared Nothing
entry_put port shared code NoWord = result_of port shared Nothing
entry_put port shared code (Has word) = word_put port shared code word

-- step 8 before 9: E0 46 is break
unfoldable pub typed : Port → Shared → Code → Entry → Decoded
typed port shared code entry =
    when is_code 0x46 code.scan && code.extended then result_of port shared Break else entry_put port shared code entry

-- step 7: a digit counts and is done, any other make sets the sum to 0 and goes on
unfoldable pub counted : Option ℕ → Port → Shared → Code → Entry → Decoded
counted None port shared code entry = typed (with_sum port 0) shared code entry
counted (Some digit) port shared code entry = result_of (with_sum port (sum_after port.sum digit)) shared Nothing

unfoldable pub entered : Port → Shared → Code → Entry → Decoded
entered port shared code entry = counted (alt_digit (either_side port.modifiers.alt) code) port shared code entry

-- step 5: restart asked; step 6: a pause ends and the make does nothing else
unfoldable pub made_of : Port → Shared → Code → Entry → Decoded
made_of port shared code entry =
    when is_code 0x53 code.scan && either_side port.modifiers.ctrl && either_side port.modifiers.alt then result_of port shared RestartAsked
    else when shared.paused then result_of port (with_paused shared false) Nothing
    else entered port shared code entry
