-- Document 01, the words: a scan code over an ASCII byte, on types that keep the two apart.
-- Assumes nothing.
use Rattle.std.specs.Prelude.{ℕ, ◌+◌, ◌-◌, ◌*◌, ◌/◌, ◌%◌, Bool, ◌&&◌, eqb, leb}
use Rattle.word.specs.declared.ScanCode.{ScanCode}
use Rattle.word.specs.declared.Ascii.{Ascii}
use Rattle.word.specs.declared.Word.{Word}

abbrev pub code_of : ℕ → ScanCode
code_of byte = record { 0 = byte }

abbrev pub ascii_of : ℕ → Ascii
ascii_of byte = record { 0 = byte }

abbrev pub ascii_less : Ascii → ℕ → Ascii
ascii_less ascii n = ascii_of (ascii.0 - n)

-- a code tested by its number, and by a run of numbers
abbrev pub is_code : ℕ → ScanCode → Bool
is_code number code = eqb code.0 number

abbrev pub within : ℕ → ℕ → ScanCode → Bool
within first last code = leb first code.0 && leb code.0 last

-- two codes are one
abbrev pub same_code : ScanCode → ScanCode → Bool
same_code code other = eqb code.0 other.0

-- a code's place in a table with a place for each code
abbrev pub table_index : ScanCode → ℕ
table_index code = code.0

abbrev pub word_with : ScanCode → Ascii → Word
word_with scan ascii = record { scan = scan; ascii = ascii }

-- document 02, W-201: a word that functions 00 and 01 do not return
abbrev pub is_enhanced : Word → Bool
is_enhanced word = leb 0x85 word.scan.0 && eqb word.ascii.0 0x00

-- the word of a 16-bit number
abbrev pub word_from : ℕ → Word
word_from number = word_with (code_of (number / 0x100)) (ascii_of (number % 0x100))

-- the 16-bit number of a word
abbrev pub number_of : Word → ℕ
number_of word = word.scan.0 * 0x100 + word.ascii.0
