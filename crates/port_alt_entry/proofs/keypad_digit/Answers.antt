-- The proof of `port_alt_entry::keypad_digit`.
-- Assumes nothing.
use Rattle.std.proofs.Common.{◌≡◌, refl, sym, ◌∙◌, position, ℕ, suc, ◌+◌, length, Bool, true, false, nat_lt, List, [], ◌∷◌, Option, Some, None, cond, arith}
use Rattle.std.specs.List.{position_or_len}
use Rattle.std.proofs.lemmas.Grind.{common_steps}
use Rattle.bits.specs.Choice.{when◌then◌else◌}
use Rattle.word.specs.declared.ScanCode.{ScanCode}
use Rattle.word.specs.Word.{is_code}
use Rattle.port.specs.AltEntry.{digit_keys, place_from, digit_in}
use Rattle.port_alt_entry.proofs.keypad_digit.Goals as goal

-- the place of the first key that the code is, counted from a digit on
abbrev counted : ScanCode → ℕ → List ℕ → Option ℕ
counted scan digit keys =
    cond (nat_lt (position_or_len (λ key. is_code key scan) keys) (length keys)) (Some (digit + position_or_len (λ key. is_code key scan) keys)) None

grown : (digit place count : ℕ) → cond (nat_lt place count) (Some (suc digit + place)) None ≡ cond (nat_lt (1 + place) (suc count)) (Some (digit + (1 + place))) None
grown digit place count = grind (arith, common_steps)

first : (digit count : ℕ) → Some digit ≡ cond (nat_lt 0 (suc count)) (Some (digit + 0)) None
first digit count = grind (arith, common_steps)

placed : (scan : ScanCode) (digit : ℕ) (keys : List ℕ) → place_from digit keys scan ≡ counted scan digit keys
unfolding when◌then◌else◌
placed scan digit [] = refl
placed scan digit (number ∷ more) = go (is_code number scan) refl (placed scan (suc digit) more)
  where
    go : (t : Bool) → is_code number scan ≡ t → place_from (suc digit) more scan ≡ counted scan (suc digit) more → place_from digit (number ∷ more) scan ≡ counted scan digit (number ∷ more)
    go true e later = simp e (first digit (length more))
    go false e later = simp (e, later) (grown digit (position_or_len (λ key. is_code key scan) more) (length more))

from_zero : (place count : ℕ) → cond (nat_lt place count) (Some (0 + place)) None ≡ cond (nat_lt place count) (Some place) None
from_zero place count = grind (arith, common_steps)

found : (scan : ScanCode) → place_from 0 digit_keys scan ≡ position (λ key. is_code key scan) digit_keys
found scan = placed scan 0 digit_keys ∙ from_zero (position_or_len (λ key. is_code key scan) digit_keys) (length digit_keys)

pub returns-in_err-digit : goal.returns-in_err-digit
unfolding digit_in
returns-in_err-digit c = c.from_residual.ensures ∙ c.in_err-digit.ensures ∙ sym (found c.args.scan)

pub returns : goal.returns
unfolding digit_in
returns c = c.in_ok-digit.ensures ∙ sym (found c.args.scan)
