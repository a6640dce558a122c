-- With no Alt down the Alt sum is 0, from a new port on.
-- Assumes nothing.
use Rattle.std.specs.Prelude.{Option, None, Some}
use Prim.Native.Nat.{ℕ}
use mathlib.Core.Path.{◌≡◌, refl, ap, sym}
use mathlib.Core.Bool.{Bool, true, false, ◌&&◌, ◌||◌, not, true≢false}
use borrow.Author.Tests.{eq-eqb}
use Rattle.bits.specs.Choice.{when◌then◌else◌}
use Rattle.bits.proofs.Choice.{by_test, either}
use Rattle.word.specs.declared.Word.{Word}
use Rattle.word.specs.Word.{is_code}
use Rattle.rows.specs.declared.Entry.{Entry}
use Rattle.rows.specs.declared.Entry.TheVariants.{NoRow, NoWord, Has}
use Rattle.port.specs.declared.Code.{Code}
use Rattle.port.specs.declared.Reading.{Reading}
use Rattle.port.specs.declared.Reading.TheVariants.{Overrun, Opens, Pauses, PauseEnds, Key}
use Rattle.port.specs.declared.Port.{Port}
use Rattle.port.specs.declared.Shared.{Shared}
use Rattle.port.specs.declared.Decoded.{Decoded}
use Rattle.port.specs.declared.Effect.TheVariants.{Nothing}
use Rattle.port.specs.State.{either_side, with_sum, result_of}
use Rattle.port.specs.Prefix.{reading_of}
use Rattle.port.specs.Flags.{bare, after_e0, tracked, modifiers_after, flags_port, flags_shared, flags_changed}
use Rattle.port.specs.AltEntry.{alt_digit, alt_ended}
use Rattle.port.specs.Makes.{word_put, entry_put, typed, counted, entered, made_of, entry_for}
use Rattle.port.specs.KeyByte.{on_entry, code_read, on_reading, key_byte_of}
use Rattle.port.proofs.Disjunction.{or_false}
use Rattle.port.specs.Laws.{SumSettled, AltSumSettles}

record Leaves (d : Decoded) : Type 0 where
  port : SumSettled d.port

zeroed : (port : Port) → port.sum ≡ 0 → SumSettled port
zeroed port e = record { zero = λ _. e }

-- ---- makes

put_leaves : (port : Port) (shared : Shared) (code : Code) (word : Word) → SumSettled port → Leaves (word_put port shared code word)
unfolding word_put
put_leaves port shared code word h = record { port = record { zero = h.zero } }

entry_leaves : (port : Port) (shared : Shared) (code : Code) (entry : Entry) → SumSettled port → Leaves (entry_put port shared code entry)
unfolding entry_put
entry_leaves port shared code NoRow h = record { port = h }
entry_leaves port shared code NoWord h = record { port = h }
entry_leaves port shared code (Has word) h = put_leaves port shared code word h

-- a digit counts only with Alt
no_digit : (alt : Bool) (code : Code) → alt ≡ false → alt_digit alt code ≡ None
unfolding alt_digit when◌then◌else◌
no_digit alt code e = simp e

counted_leaves : (digit : Option ℕ) (port : Port) (shared : Shared) (code : Code) (entry : Entry)
    → (either_side port.modifiers.alt ≡ false → digit ≡ None) → Leaves (counted digit port shared code entry)
unfolding counted typed
counted_leaves None port shared code entry h =
    either Leaves _ _ _ (record { port = zeroed (with_sum port 0) refl }) (entry_leaves (with_sum port 0) shared code entry (zeroed (with_sum port 0) refl))
counted_leaves (Some digit) port shared code entry h =
    record { port = record { zero = λ up. let e : Some digit ≡ None = h up in cc } }

made_leaves : (port : Port) (shared : Shared) (code : Code) (entry : Entry) → SumSettled port → Leaves (made_of port shared code entry)
unfolding made_of entered
made_leaves port shared code entry h =
    either Leaves _ _ _ (record { port = h })
    (either Leaves _ _ _ (record { port = h })
    (counted_leaves (alt_digit (either_side port.modifiers.alt) code) port shared code entry (no_digit (either_side port.modifiers.alt) code)))

-- ---- codes without a row

ended_leaves : (port : Port) (shared : Shared) → Leaves (alt_ended port shared)
unfolding alt_ended
ended_leaves port shared = record { port = zeroed (with_sum port 0) refl }

-- a side that is up after a code that is no Alt break was up before it
was_up : (was make prefixed broken : Bool) → broken ≡ false → (not (broken && prefixed) && (make || was)) ≡ false → was ≡ false
was_up true make prefixed true b e = b
was_up true true prefixed false b e = e
was_up true false prefixed false b e = e
was_up false make prefixed broken b e = refl

alt_was_up : (port : Port) (code : Code) → is_code 0xB8 code.scan ≡ false → either_side (modifiers_after port.modifiers code).alt ≡ false
    → either_side port.modifiers.alt ≡ false
unfolding modifiers_after
alt_was_up port code b e =
    let alt = port.modifiers.alt in
    let up = or_false (tracked alt.left bare 0x38 code) (tracked alt.right after_e0 0x38 code) e in
    let left = was_up alt.left (bare 0x38 code) (not code.extended) (is_code 0xB8 code.scan) b up.0 in
    let right = was_up alt.right (after_e0 0x38 code) code.extended (is_code 0xB8 code.scan) b up.1 in
    simp (left, right)

no_break : (broken down : Bool) → (broken && not down) ≡ false → down ≡ false → broken ≡ false
no_break true true e d = absurd (true≢false d)
no_break true false e d = e
no_break false down e d = refl

changed_leaves : (port : Port) (shared : Shared) (code : Code) → SumSettled port → Leaves (flags_changed port shared code)
unfolding flags_changed
changed_leaves port shared code h =
    by_test Leaves (is_code 0xB8 code.scan && not (either_side (modifiers_after port.modifiers code).alt)) _ _ (λ _. ended_leaves (flags_port port code) _)
    (λ e. record { port = record { zero = λ up. h.zero (alt_was_up port code (no_break _ _ e up) up) } })

-- ---- every byte

on_entry_leaves : (entry : Entry) (port : Port) (shared : Shared) (code : Code) → SumSettled port → Leaves (on_entry entry port shared code)
unfolding on_entry
on_entry_leaves NoRow port shared code h = changed_leaves port shared code h
on_entry_leaves NoWord port shared code h = made_leaves port shared code NoWord h
on_entry_leaves (Has word) port shared code h = made_leaves port shared code (Has word) h

on_reading_leaves : (reading : Reading) (port : Port) (shared : Shared) → SumSettled port → Leaves (on_reading reading port shared)
unfolding on_reading code_read
on_reading_leaves Overrun port shared h = record { port = record { zero = h.zero } }
on_reading_leaves (Opens prefix) port shared h = record { port = record { zero = h.zero } }
on_reading_leaves Pauses port shared h = record { port = record { zero = h.zero } }
on_reading_leaves PauseEnds port shared h = record { port = record { zero = h.zero } }
on_reading_leaves (Key code) port shared h =
    on_entry_leaves (entry_for code port.modifiers shared.locks) _ shared code (record { zero = h.zero })

-- ---- the two readings

-- without an Alt down before, ending the number changes nothing on a settled port
nothing_to_end : (port : Port) (shared : Shared) → port.sum ≡ 0 → alt_ended port shared ≡ result_of port shared Nothing
unfolding alt_ended when◌then◌else◌
nothing_to_end port shared e =
    let kept : result_of (with_sum port 0) shared Nothing ≡ result_of port shared Nothing = ap (λ (n : ℕ). result_of (with_sum port n) shared Nothing) (sym e) in
    simp (eq-eqb port.sum 0 e) kept

readings_agree : (last was : Bool) (ended kept : Decoded) → (was ≡ false → ended ≡ kept)
    → (when last then ended else kept) ≡ (when last && was then ended else kept)
unfolding when◌then◌else◌
readings_agree true true ended kept h = refl
readings_agree true false ended kept h = h refl
readings_agree false was ended kept h = refl

pub alt_sum_settles : AltSumSettles
unfolding key_byte_of flags_changed
alt_sum_settles =
    record {
      new = record { zero = λ _. refl };
      kept = λ port shared byte h. (on_reading_leaves (reading_of port.prefix byte) port shared h).port;
      agree =
          λ port shared code h.
          readings_agree (is_code 0xB8 code.scan && not (either_side (modifiers_after port.modifiers code).alt)) (either_side port.modifiers.alt) _ _
          (λ up. nothing_to_end (flags_port port code) (flags_shared shared port.held code) (h.zero up));
    }
