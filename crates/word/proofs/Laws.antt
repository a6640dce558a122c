-- Codes and words are determined by their numbers; and which words old programs know as they are stored.
-- Assumes nothing.
use mathlib.Core.Path.{◌≡◌, refl, sym, ap, ◌∙◌}
use mathlib.Core.Bool.{Bool, true, false, ◌&&◌, ◌||◌, not, and-false}
use Prim.Native.Nat.{ℕ, ◌+◌, ◌*◌, ◌/◌, ◌%◌, ◌<◌}
use native.Mathlib.Omega.{arith}
use lib.Dec.{T, eqb, eqb→eq, lit<}
use borrow.Author.Tests.{eqb-true, eqb-false, eq-eqb, ne_eqb}
use Rattle.bits.specs.Choice.{when◌then◌else◌}
use Rattle.bits.proofs.Tests.{neither}
use Rattle.word.specs.declared.ScanCode.{ScanCode}
use Rattle.word.specs.declared.Ascii.{Ascii}
use Rattle.word.specs.declared.Word.{Word}
use Rattle.word.specs.Word.{code_of, ascii_of, same_code, table_index, word_with, word_from, number_of}
use Rattle.word.specs.OldWord.{has_bytes, old_word_of}

-- codes that test as the same are equal
pub same_code_lem : (code other : ScanCode) → T (same_code code other) → code ≡ other
same_code_lem code other t = ap code_of (eqb→eq (table_index code) (table_index other) t)

-- words with equal bytes are equal
pub word_equal : {v w : Word} → v.scan.0 ≡ w.scan.0 → v.ascii.0 ≡ w.ascii.0 → v ≡ w
word_equal {v} {w} p q = ap (λ (x : ℕ). word_with (code_of x) v.ascii) p ∙ ap (λ (x : ℕ). word_with w.scan (ascii_of x)) q

pub number_of_from : (n : ℕ) → number_of (word_from n) ≡ n
number_of_from n = omega arith

pub from_of_number : (w : Word) → w.ascii.0 < 0x100 → word_from (number_of w) ≡ w
from_of_number w h =
    let high : (w.scan.0 * 0x100 + w.ascii.0) / 0x100 ≡ w.scan.0 = omega arith in
    let low : (w.scan.0 * 0x100 + w.ascii.0) % 0x100 ≡ w.ascii.0 = omega arith in
    word_equal high low

-- ---- what old programs know as it is stored

-- a word's bytes are tested by its number
bytes_by_number : (high low : ℕ) (word : Word) → word.ascii.0 < 0x100 → low < 0x100 → has_bytes high low word ≡ eqb (number_of word) (high * 0x100 + low)
bytes_by_number high low word a l = go (eqb word.scan.0 high) (eqb word.ascii.0 low) refl refl
  where
    go : (s t : Bool) → eqb word.scan.0 high ≡ s → eqb word.ascii.0 low ≡ t → s && t ≡ eqb (number_of word) (high * 0x100 + low)
    go true true p q =
        let first = eqb-true _ _ p in
        let second = eqb-true _ _ q in
        sym (eq-eqb _ _ (omega arith))
    go true false p q = sym (ne_eqb _ _ (λ e. eqb-false _ _ q (omega arith)))
    go false t p q = sym (ne_eqb _ _ (λ e. eqb-false _ _ p (omega arith)))

-- the conversion by the number of the word
pub old_by_number : (word : Word) (number : ℕ) → number ≡ number_of word → word.ascii.0 < 0x100 → old_word_of word
    ≡ (when eqb number 0xE00D then word_from 0x1C0D
    else when eqb number 0xE00A then word_from 0x1C0A
    else when eqb number 0xE02F then word_from 0x352F
    else when not (eqb word.scan.0 0x00) && eqb word.ascii.0 0xE0 then word_with word.scan (ascii_of 0x00)
    else word)
unfolding old_word_of when◌then◌else◌
old_by_number word number is a =
    simp (bytes_by_number 0xE0 0x0D word a (lit< tt), bytes_by_number 0xE0 0x0A word a (lit< tt), bytes_by_number 0xE0 0x2F word a (lit< tt), ← is)

-- the three words of grey keys
pub old_grey_enter : (word : Word) → word.ascii.0 < 0x100 → number_of word ≡ 0xE00D → old_word_of word ≡ word_from 0x1C0D
unfolding when◌then◌else◌
old_grey_enter word a e = simp (old_by_number word 0xE00D (sym e) a)

pub old_grey_ctrl_enter : (word : Word) → word.ascii.0 < 0x100 → number_of word ≡ 0xE00A → old_word_of word ≡ word_from 0x1C0A
unfolding when◌then◌else◌
old_grey_ctrl_enter word a e = simp (old_by_number word 0xE00A (sym e) a)

pub old_grey_slash : (word : Word) → word.ascii.0 < 0x100 → number_of word ≡ 0xE02F → old_word_of word ≡ word_from 0x352F
unfolding when◌then◌else◌
old_grey_slash word a e = simp (old_by_number word 0xE02F (sym e) a)

-- a character, 00E0 too
pub character_stays : (ascii : Ascii) → old_word_of (word_with (code_of 0x00) ascii) ≡ word_with (code_of 0x00) ascii
unfolding old_word_of when◌then◌else◌
character_stays ascii = refl

-- a word without E0, which stands in the words of grey keys
abbrev pub has_e0 : Word → Bool
has_e0 word = eqb word.scan.0 0xE0 || eqb word.ascii.0 0xE0

pub other_word_stays : (word : Word) → has_e0 word ≡ false → old_word_of word ≡ word
unfolding old_word_of when◌then◌else◌
other_word_stays word h =
    let none = neither (eqb word.scan.0 0xE0) (eqb word.ascii.0 0xE0) h in
    simp (none.first, none.second, and-false (not (eqb word.scan.0 0x00)))
