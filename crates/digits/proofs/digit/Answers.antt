-- The proof of `digits::digit`.
-- Assumes nothing.
use Rattle.std.proofs.Common.{◌≡◌, ap, ◌∙◌, ℕ, ◌%◌, List, [], ◌∷◌, slice_index_or, arith}
use Rattle.std.specs.Prelude.{map}
use lib.Dec.{eqb, eqb→eq}
use Rattle.bits.specs.Choice.{when◌then◌else◌}
use Rattle.bits.proofs.Tests.{below}
use Rattle.digits.specs.Digits.{character_of, digit_of}
use Rattle.digits.proofs.digit.Goals as goal

abbrev table : List ℕ
table = map character_of (0 ∷ 1 ∷ 2 ∷ 3 ∷ 4 ∷ 5 ∷ 6 ∷ 7 ∷ 8 ∷ 9 ∷ 10 ∷ 11 ∷ 12 ∷ 13 ∷ 14 ∷ 15 ∷ [])

-- at each nibble the table has its character
shown : (number nibble : ℕ) → nibble ≡ number % 16 → slice_index_or table nibble 0 ≡ digit_of number
unfolding digit_of when◌then◌else◌
shown number nibble e =
    eqb→eq _ _ (below (λ n. eqb (slice_index_or table n 0) (character_of n)) 16 tt nibble (omega arith)) ∙ ap character_of e

pub returns : goal.returns
unfolding when◌then◌else◌
returns c = shown c.args.number c.low_nibble.result c.low_nibble.ensures
