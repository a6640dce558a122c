-- The table in lines of eight, as the code reads it, has at every code what the table has there: one test, computed at every code.
-- Assumes nothing.
use Prim.Native.Nat.{ℕ, zero, suc, ◌/◌, ◌%◌, ◌<◌}
use mathlib.Core.Path.{◌≡◌}
use mathlib.Core.List.{List, [], ◌∷◌}
use lib.Dec.{T, eqb, eqb→eq}
use lib.ListN.{get_or, take, drop}
use Rattle.bits.proofs.Tests.{all_below, below}
use Rattle.translation.specs.Table.{table}

abbrev lines_of : ℕ → List ℕ → List (List ℕ)
lines_of zero list = []
lines_of (suc lines) list = take 8 list ∷ lines_of lines (drop 8 list)

abbrev pub in_lines : ℕ → ℕ
in_lines code = get_or (get_or (lines_of 16 table) (code / 8) []) (code % 8) 0

test : T (all_below (λ (code : ℕ). eqb (in_lines code) (get_or table code 0)) 0x80)
unfolding table
test = tt

pub in_lines_lem : (code : ℕ) → code < 0x80 → in_lines code ≡ get_or table code 0
in_lines_lem code h = eqb→eq (in_lines code) (get_or table code 0) (below (λ (c : ℕ). eqb (in_lines c) (get_or table c 0)) 0x80 test code h)
