-- A byte at a port does what it did, and puts a word for which an old program knows the former one.
-- Assumes nothing.
use Rattle.std.specs.Prelude.{Option, None, Some, ℕ}
use mathlib.Core.Path.{◌≡◌, refl, ap, sym, subst}
use Rattle.bits.proofs.Choice.{either, both}
use Rattle.word.specs.declared.Word.{Word}
use Rattle.word.specs.Word.{ascii_of, is_enhanced}
use Rattle.word.specs.OldWord.{old_word_of}
use Rattle.word.proofs.Laws.{character_stays}
use Rattle.rows.specs.declared.Entry.{Entry}
use Rattle.rows.specs.declared.Entry.TheVariants.{NoRow, NoWord, Has}
use Rattle.rows.specs.Column.{column_of}
use Rattle.rows.specs.Lookup.{entry_at, lookup_of}
use Rattle.port.specs.declared.Code.{Code}
use Rattle.port.specs.declared.Effect.{Effect}
use Rattle.port.specs.declared.Effect.TheVariants.{Nothing, Put, Break, RestartAsked, Overrun}
use Rattle.port.specs.declared.Port.{Port}
use Rattle.port.specs.declared.Shared.{Shared}
use Rattle.port.specs.declared.Decoded.{Decoded}
use Rattle.port.specs.declared.Prefix.TheVariants.{Closed}
use Rattle.port.specs.declared.Reading.{Reading}
use Rattle.port.specs.declared.Reading.TheVariants as reading
use Rattle.port.specs.State.{either_side, with_prefix, with_sum, result_of}
use Rattle.port.specs.Flags.{flags_changed}
use Rattle.port.specs.AltEntry.{alt_digit, alt_ended}
use Rattle.port.specs.Makes.{selector_of, entry_for, word_put, entry_put, typed, counted, entered, made_of}
use Rattle.port.specs.KeyByte.{on_entry, code_read, on_reading}
use Rattle.former.specs.Former.{former_entry_for, former_code_read, former_on_reading}
use Rattle.former.proofs.Rows.{former_entry, Kept, KeptEntry, former_entries}

abbrev pub former_effect : Effect → Effect
former_effect Nothing = Nothing
former_effect (Put word) = Put (old_word_of word)
former_effect Break = Break
former_effect RestartAsked = RestartAsked
former_effect Overrun = Overrun

abbrev pub KeptEffect : Effect → Type 0
KeptEffect Nothing = Unit {0}
KeptEffect (Put word) = is_enhanced (old_word_of word) ≡ is_enhanced word
KeptEffect Break = Unit {0}
KeptEffect RestartAsked = Unit {0}
KeptEffect Overrun = Unit {0}

pub record FormerDecoded (now former : Decoded) : Type 0 where
  pub is : former ≡ result_of now.port now.shared (former_effect now.effect)
  pub kept : KeptEffect now.effect

-- nothing that the rows say
unchanged : (port : Port) (shared : Shared) (effect : Effect) → former_effect effect ≡ effect → KeptEffect effect
    → FormerDecoded (result_of port shared effect) (result_of port shared effect)
unchanged port shared effect e k = record { is = ap (result_of port shared) (sym e); kept = k }

-- ---- codes without a row

-- an Alt number's word is a character, and has 00 above it
sum_decoded : (port : Port) (shared : Shared) → FormerDecoded (alt_ended port shared) (alt_ended port shared)
unfolding alt_ended
sum_decoded port shared =
    either (λ (effect : Effect). FormerDecoded (result_of (with_sum port 0) shared effect) (result_of (with_sum port 0) shared effect)) _ _ _
    (unchanged _ shared Nothing refl tt)
    (let stays = character_stays (ascii_of port.sum) in unchanged _ shared (Put _) (ap Put stays) (ap is_enhanced stays))

flags_decoded : (port : Port) (shared : Shared) (code : Code) → FormerDecoded (flags_changed port shared code) (flags_changed port shared code)
unfolding flags_changed
flags_decoded port shared code = both FormerDecoded _ (sum_decoded _ _) (unchanged _ _ Nothing refl tt)

-- ---- makes

word_decoded : (port : Port) (shared : Shared) (code : Code) (word : Word) → Kept word
    → FormerDecoded (word_put port shared code word) (word_put port shared code (old_word_of word))
unfolding word_put
word_decoded port shared code word k = record { is = rw k.insert; kept = k.enhanced }

entry_decoded : (port : Port) (shared : Shared) (code : Code) (entry : Entry) → KeptEntry entry
    → FormerDecoded (entry_put port shared code entry) (entry_put port shared code (former_entry entry))
unfolding entry_put
entry_decoded port shared code NoRow k = unchanged port shared Nothing refl tt
entry_decoded port shared code NoWord k = unchanged port shared Nothing refl tt
entry_decoded port shared code (Has word) k = word_decoded port shared code word k

counted_decoded : (digit : Option ℕ) (port : Port) (shared : Shared) (code : Code) (entry : Entry) → KeptEntry entry
    → FormerDecoded (counted digit port shared code entry) (counted digit port shared code (former_entry entry))
unfolding counted typed
counted_decoded None port shared code entry k =
    both FormerDecoded _ (unchanged _ shared Break refl tt) (entry_decoded (with_sum port 0) shared code entry k)
counted_decoded (Some digit) port shared code entry k = unchanged _ shared Nothing refl tt

made_decoded : (port : Port) (shared : Shared) (code : Code) (entry : Entry) → KeptEntry entry
    → FormerDecoded (made_of port shared code entry) (made_of port shared code (former_entry entry))
unfolding made_of entered
made_decoded port shared code entry k =
    both FormerDecoded _ (unchanged port shared RestartAsked refl tt)
    (both FormerDecoded _ (unchanged port _ Nothing refl tt)
    (counted_decoded (alt_digit (either_side port.modifiers.alt) code) port shared code entry k))

-- ---- every byte

on_entry_decoded : (entry : Entry) (port : Port) (shared : Shared) (code : Code) → KeptEntry entry
    → FormerDecoded (on_entry entry port shared code) (on_entry (former_entry entry) port shared code)
unfolding on_entry
on_entry_decoded NoRow port shared code k = flags_decoded port shared code
on_entry_decoded NoWord port shared code k = made_decoded port shared code NoWord k
on_entry_decoded (Has word) port shared code k = made_decoded port shared code (Has word) k

code_decoded : (port : Port) (shared : Shared) (code : Code) → FormerDecoded (code_read port shared code) (former_code_read port shared code)
unfolding code_read former_code_read entry_for former_entry_for lookup_of entry_at
code_decoded port shared code =
    let found = former_entries code.extended code.scan (column_of code.scan (selector_of port.modifiers shared.locks)) in
    subst (λ (entry : Entry). FormerDecoded (code_read port shared code) (on_entry entry port shared code)) (sym found.is)
    (on_entry_decoded _ port shared code found.kept)

pub reading_decoded : (reading : Reading) (port : Port) (shared : Shared) → FormerDecoded (on_reading reading port shared) (former_on_reading reading port shared)
unfolding on_reading former_on_reading
reading_decoded reading.Overrun port shared = unchanged _ shared Overrun refl tt
reading_decoded (reading.Opens prefix) port shared = unchanged _ shared Nothing refl tt
reading_decoded reading.Pauses port shared = unchanged _ _ Nothing refl tt
reading_decoded reading.PauseEnds port shared = unchanged _ shared Nothing refl tt
reading_decoded (reading.Key code) port shared = code_decoded (with_prefix port Closed) shared code
