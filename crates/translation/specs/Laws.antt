-- What holds of the translation. Laws.antt of proofs/ proves each sentence.
-- Assumes nothing.
use Rattle.std.specs.Prelude.{ℕ, zero, suc, ◌<◌, ◌≡◌, Bool, false, ◌||◌, List, [], ◌∷◌, eqb}
use Rattle.bits.specs.Choice.{when◌then◌else◌}
use Rattle.translation.specs.declared.Codes.{Codes}
use Rattle.translation.specs.declared.Codes.TheVariants.{SetTwo, SetTwoMarked}
use Rattle.translation.specs.Table.{table}
use Rattle.translation.specs.Translation.{set_one_code, break_of, passes, translated_of}

-- 01 to 7F
pub record IsCode (code : ℕ) : Type 0 where
  pub some : 0 < code
  pub below : code < 0x80

-- the place at which a list has a number first, its length where it has none
abbrev pub place_in : ℕ → List ℕ → ℕ
place_in number [] = zero
place_in number (first ∷ more) = when eqb first number then zero else suc (place_in number more)

-- the code of set 2 that becomes a code of set 1
unfoldable pub set_two_code : ℕ → ℕ
set_two_code code = place_in code table

-- 01 to 7F become 01 to 7F, each exactly once: no two become the same, and none is left out
pub record EachOnce : Type 0 where
  pub onto : (code : ℕ) → IsCode code → IsCode (set_one_code code)
  pub once : (first second : ℕ) → IsCode first → IsCode second → set_one_code first ≡ set_one_code second → first ≡ second
  pub reached : (code : ℕ) → IsCode code → IsCode (set_two_code code) × (set_one_code (set_two_code code) ≡ code)

-- every byte but F0, the replies and the prefixes is a code: marked or not it closes the mark, and marked it passes as a break
abbrev pub is_no_code : ℕ → Bool
is_no_code byte = eqb byte 0xF0 || ((eqb byte 0xFA || eqb byte 0xFE) || (eqb byte 0xE0 || eqb byte 0xE1))

pub record CodesPass (byte : ℕ) : Type 0 where
  pub make : translated_of SetTwo byte ≡ passes SetTwo (set_one_code byte)
  pub break : translated_of SetTwoMarked byte ≡ passes SetTwo (break_of (set_one_code byte))

abbrev pub EachCodePasses : Type 0
EachCodePasses = (byte : ℕ) → is_no_code byte ≡ false → CodesPass byte

-- 00 and FF pass as FF and close the mark
abbrev pub OverrunPasses : Codes → Type 0
OverrunPasses codes = (translated_of codes 0x00 ≡ passes SetTwo 0xFF) × (translated_of codes 0xFF ≡ passes SetTwo 0xFF)

pub record OverrunsPass : Type 0 where
  pub unmarked : OverrunPasses SetTwo
  pub marked : OverrunPasses SetTwoMarked
