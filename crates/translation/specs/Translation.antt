-- Document 02, W-203: what a byte of set 2 becomes, and what it does to the mark.
-- Assumes nothing.
use Rattle.std.specs.Prelude.{ℕ, ◌+◌, ◌%◌, ◌||◌, List, [], ◌∷◌, eqb, ltb, get_or, Option, None, Some}
use Rattle.bits.specs.Choice.{when◌then◌else◌}
use Rattle.translation.specs.declared.CodeSet.{CodeSet}
use Rattle.translation.specs.declared.CodeSet.TheVariants.{One, Two}
use Rattle.translation.specs.declared.Codes.{Codes}
use Rattle.translation.specs.declared.Codes.TheVariants.{SetOne, SetTwo, SetTwoMarked}
use Rattle.translation.specs.declared.Translated.{Translated}
use Rattle.translation.specs.Table.{table}

-- a set without the mark, and the set that codes are of, marked or not
abbrev pub unmarked_of : CodeSet → Codes
unmarked_of One = SetOne
unmarked_of Two = SetTwo

abbrev pub set_of : Codes → CodeSet
set_of SetOne = One
set_of SetTwo = Two
set_of SetTwoMarked = Two

-- below 80 the table's code; from 80 up the code itself, but for 83 and 84
unfoldable pub set_one_code : ℕ → ℕ
set_one_code code =
    when ltb code 0x80 then get_or table code 0
    else when eqb code 0x83 then 0x41
    else when eqb code 0x84 then 0x54
    else code

-- bit 7 set
abbrev pub break_of : ℕ → ℕ
break_of code = code % 0x80 + 0x80

abbrev pub passes : Codes → ℕ → Translated
passes codes byte = record { codes = codes; passed = Some byte }

-- F0 marks the next code; FA and FE leave the mark, E0 and E1 close it; any other byte is a code, which closes it too
unfoldable pub from_set_two : Codes → ℕ → ℕ → Translated
from_set_two codes byte code =
    when eqb byte 0xF0 then record { codes = SetTwoMarked; passed = None }
    else when eqb byte 0xFA || eqb byte 0xFE then passes codes byte
    else when eqb byte 0xE0 || eqb byte 0xE1 then passes SetTwo byte
    else passes SetTwo code

unfoldable pub translated_of : Codes → ℕ → Translated
translated_of SetOne byte = passes SetOne byte
translated_of SetTwo byte = from_set_two SetTwo byte (set_one_code byte)
translated_of SetTwoMarked byte = from_set_two SetTwoMarked byte (break_of (set_one_code byte))

-- Lists of bytes: what comes out, and the codes that come after them.

abbrev pub passed_on : Option ℕ → List ℕ → List ℕ
passed_on None later = later
passed_on (Some byte) later = byte ∷ later

abbrev pub translation : Codes → List ℕ → List ℕ
translation codes [] = []
translation codes (byte ∷ more) = let translated = translated_of codes byte in passed_on translated.passed (translation translated.codes more)

abbrev pub codes_after : Codes → List ℕ → Codes
codes_after codes [] = codes
codes_after codes (byte ∷ more) = codes_after (translated_of codes byte).codes more
