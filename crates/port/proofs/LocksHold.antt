-- Only the lock keys and the Insert word change a lock.
-- Assumes nothing.
use Rattle.std.specs.Prelude.{Option, None, Some}
use Prim.Native.Nat.{ℕ}
use mathlib.Core.Path.{◌≡◌, refl}
use mathlib.Core.Bool.{Bool, true, false, ◌&&◌, not}
use lib.Dec.{T, eqb→eq}
use borrow.Author.Tests.{ne_eqb}
use Rattle.bits.specs.Bits.{toggle}
use Rattle.bits.specs.Choice.{when◌then◌else◌}
use Rattle.bits.proofs.Choice.{either}
use Rattle.bits.proofs.Tests.{all_below, below}
use Rattle.word.specs.declared.Word.{Word}
use Rattle.word.specs.Word.{is_code}
use Rattle.rows.specs.declared.Entry.{Entry}
use Rattle.rows.specs.declared.Entry.TheVariants.{NoRow, NoWord, Has}
use Rattle.port.specs.declared.Prefix.{Prefix}
use Rattle.port.specs.declared.Prefix.TheVariants.{Closed, E0, E1, E1Make, E1Break}
use Rattle.port.specs.declared.Code.{Code}
use Rattle.port.specs.declared.Reading.{Reading}
use Rattle.port.specs.declared.Reading.TheVariants.{Overrun, Opens, Pauses, PauseEnds, Key}
use Rattle.port.specs.declared.Port.{Port}
use Rattle.port.specs.declared.Shared.{Shared}
use Rattle.port.specs.declared.Effect.{Effect}
use Rattle.port.specs.State.{either_side, with_prefix, with_sum, result_of}
use Rattle.port.specs.Prefix.{opened, continued, reading_of}
use Rattle.port.specs.Flags.{toggled, bare, locks_after, flags_changed}
use Rattle.port.specs.AltEntry.{alt_digit, alt_ended}
use Rattle.port.specs.Makes.{is_insert_word, is_insert, word_put, entry_put, typed, counted, entered, made_of, entry_for}
use Rattle.port.specs.KeyByte.{on_entry, code_read, on_reading, key_byte_of}
use Rattle.port.specs.Laws.{LocksKept, LocksHold}

-- the locks are those before
same : (shared after : Shared) (byte : ℕ) (port : Port) (effect : Effect) → after.locks ≡ shared.locks → LocksKept shared byte (result_of port after effect)
same shared after byte port effect e = record { scroll = λ _. rw e; num = λ _. rw e; caps = λ _. rw e; insert = λ _. rw e }

-- ---- codes without a row

untoggled : (lock pressed : Bool) → pressed ≡ false → toggle pressed lock ≡ lock
untoggled lock pressed e = simp e

kept : (lock held : Bool) (make : ℕ) (code : Code) → (code.scan.0 ≡ make → ⊥) → toggled lock held make code ≡ lock
kept lock held make code n = untoggled lock (bare make code && not held) (simp (ne_eqb code.scan.0 make n))

-- whatever the effect is, in the two results of a code without a row
changed_keeps : (shared : Shared) (code : Code) (port keys : Port) (effect : Effect)
    → LocksKept shared code.scan.0 (result_of port (record { locks = locks_after shared.locks keys.held code; paused = shared.paused }) effect)
unfolding locks_after
changed_keeps shared code port keys effect =
    let l = shared.locks in
    let h = keys.held in
    record {
      scroll = kept l.scroll h.scroll 0x46 code;
      num = kept l.num h.num 0x45 code;
      caps = kept l.caps h.caps 0x3A code;
      insert = λ _. refl;
    }

flags_keep : (port : Port) (shared : Shared) (code : Code) → LocksKept shared code.scan.0 (flags_changed port shared code)
unfolding flags_changed alt_ended
flags_keep port shared code =
    either (LocksKept shared code.scan.0) _ _ _ (changed_keeps shared code _ port _) (changed_keeps shared code _ port _)

-- ---- makes

no_insert : (a b c : Bool) → b ≡ false → (a && b && c) ≡ false
no_insert true b c e = simp e
no_insert false b c e = refl

put_keeps : (port : Port) (shared : Shared) (code : Code) (word : Word) → LocksKept shared code.scan.0 (word_put port shared code word)
unfolding word_put
put_keeps port shared code word =
    record {
      scroll = λ _. refl;
      num = λ _. refl;
      caps = λ _. refl;
      insert =
          λ n.
          untoggled shared.locks.insert (is_insert port.held code word)
          (no_insert (is_code 0x52 code.scan) (is_insert_word word) (not port.held.insert) (n word refl));
    }

entry_keeps : (port : Port) (shared : Shared) (code : Code) (entry : Entry) → LocksKept shared code.scan.0 (entry_put port shared code entry)
unfolding entry_put
entry_keeps port shared code NoRow = same shared shared code.scan.0 port _ refl
entry_keeps port shared code NoWord = same shared shared code.scan.0 port _ refl
entry_keeps port shared code (Has word) = put_keeps port shared code word

counted_keeps : (digit : Option ℕ) (port : Port) (shared : Shared) (code : Code) (entry : Entry) → LocksKept shared code.scan.0 (counted digit port shared code entry)
unfolding counted typed
counted_keeps None port shared code entry =
    either (LocksKept shared code.scan.0) _ _ _ (same shared shared code.scan.0 _ _ refl) (entry_keeps (with_sum port 0) shared code entry)
counted_keeps (Some digit) port shared code entry = same shared shared code.scan.0 _ _ refl

made_keeps : (port : Port) (shared : Shared) (code : Code) (entry : Entry) → LocksKept shared code.scan.0 (made_of port shared code entry)
unfolding made_of entered
made_keeps port shared code entry =
    either (LocksKept shared code.scan.0) _ _ _ (same shared shared code.scan.0 port _ refl)
    (either (LocksKept shared code.scan.0) _ _ _ (same shared _ code.scan.0 port _ refl)
    (counted_keeps (alt_digit (either_side port.modifiers.alt) code) port shared code entry))

-- ---- every byte

on_entry_keeps : (entry : Entry) (port : Port) (shared : Shared) (code : Code) → LocksKept shared code.scan.0 (on_entry entry port shared code)
unfolding on_entry
on_entry_keeps NoRow port shared code = flags_keep port shared code
on_entry_keeps NoWord port shared code = made_keeps port shared code NoWord
on_entry_keeps (Has word) port shared code = made_keeps port shared code (Has word)

-- a code that is read is the byte itself: a test computed at every byte
abbrev is_itself : ℕ → Reading → Bool
is_itself byte Overrun = true
is_itself byte (Opens prefix) = true
is_itself byte Pauses = true
is_itself byte PauseEnds = true
is_itself byte (Key code) = is_code byte code.scan

abbrev reads_itself : Prefix → ℕ → Bool
reads_itself prefix byte = is_itself byte (reading_of prefix byte)

read_test : (prefix : Prefix) → T (all_below (reads_itself prefix) 256)
unfolding reading_of continued opened when◌then◌else◌
read_test Closed = tt
read_test E0 = tt
read_test E1 = tt
read_test E1Make = tt
read_test E1Break = tt

on_reading_keeps : (byte : ℕ) (reading : Reading) (port : Port) (shared : Shared) → T (is_itself byte reading)
    → LocksKept shared byte (on_reading reading port shared)
unfolding on_reading code_read
on_reading_keeps byte Overrun port shared t = same shared shared byte _ _ refl
on_reading_keeps byte (Opens prefix) port shared t = same shared shared byte _ _ refl
on_reading_keeps byte Pauses port shared t = same shared _ byte _ _ refl
on_reading_keeps byte PauseEnds port shared t = same shared shared byte _ _ refl
on_reading_keeps byte (Key code) port shared t =
    rw (← (eqb→eq code.scan.0 byte t)) (on_entry_keeps (entry_for code port.modifiers shared.locks) (with_prefix port Closed) shared code)

pub locks_hold : LocksHold
unfolding key_byte_of
locks_hold =
    record {
      kept =
          λ port shared byte h.
          on_reading_keeps byte (reading_of port.prefix byte) port shared (below (reads_itself port.prefix) 256 (read_test port.prefix) byte h);
    }
