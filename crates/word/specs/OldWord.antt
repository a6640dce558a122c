-- Document 02, W-205: what functions 00 and 01 return for a stored word.
-- Assumes nothing.
use Rattle.std.specs.Prelude.{ℕ, Bool, ◌&&◌, not, eqb}
use Rattle.bits.specs.Choice.{when◌then◌else◌}
use Rattle.word.specs.declared.Word.{Word}
use Rattle.word.specs.Word.{ascii_of, word_with, word_from}

-- a word tested by its two bytes
abbrev pub has_bytes : ℕ → ℕ → Word → Bool
has_bytes high low word = eqb word.scan.0 high && eqb word.ascii.0 low

-- the word as an old program knows it: grey Enter and the grey slash are the keys that they double, and a low byte E0 is 00; 00E0 is a character, and stays
unfoldable pub old_word_of : Word → Word
old_word_of word =
    when has_bytes 0xE0 0x0D word then word_from 0x1C0D
    else when has_bytes 0xE0 0x0A word then word_from 0x1C0A
    else when has_bytes 0xE0 0x2F word then word_from 0x352F
    else when not (eqb word.scan.0 0x00) && eqb word.ascii.0 0xE0 then word_with word.scan (ascii_of 0x00)
    else word
