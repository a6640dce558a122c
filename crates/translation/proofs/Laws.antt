-- The laws that Laws.antt of specs/ states. That 01 to 7F come out as 01 to 7F, each once, is one test of the table, computed at every code: the
-- table and the search for a place in it undo each other.
-- Assumes nothing.
use Prim.Native.Nat.{ℕ, zero, suc}
use native.Mathlib.Nat.{not-suc-le-zero}
use native.Mathlib.Omega.{arith}
use mathlib.Core.Path.{◌≡◌, refl, ap, sym, ◌∙◌}
use mathlib.Core.Bool.{Bool, ◌&&◌, ◌||◌}
use lib.Dec.{T, eqb, ltb, eqb→eq, ltb→lt}
use Rattle.bits.specs.Choice.{when◌then◌else◌}
use Rattle.bits.proofs.Tests.{and_left, and_right, each_of_four, neither, all_below, below}
use Rattle.translation.specs.declared.CodeSet.{CodeSet}
use Rattle.translation.specs.declared.CodeSet.TheVariants.{One, Two}
use Rattle.translation.specs.Table.{table}
use Rattle.translation.specs.Translation.{unmarked_of, set_of, set_one_code, from_set_two, translated_of}
use Rattle.translation.specs.Laws.{IsCode, set_two_code, EachOnce, EachCodePasses, OverrunsPass}

-- ---- each once

abbrev is_code : ℕ → Bool
is_code code = ltb 0 code && ltb code 0x80

is_code_lem : (code : ℕ) → T (is_code code) → IsCode code
is_code_lem code t =
    record {
      some = ltb→lt 0 code (and_left (ltb 0 code) (ltb code 0x80) t);
      below = ltb→lt code 0x80 (and_right (ltb 0 code) (ltb code 0x80) t);
    }

-- a code comes out as a code, from which the search leads back; the search finds a code, from which the table leads back
abbrev undone : ℕ → Bool
undone code =
    is_code (set_one_code code)
    && (eqb (set_two_code (set_one_code code)) code && (is_code (set_two_code code) && eqb (set_one_code (set_two_code code)) code))

test : T (all_below (λ (n : ℕ). undone (suc n)) 0x7F)
unfolding table set_one_code set_two_code when◌then◌else◌
test = tt

-- what the test says of one code
record Undone (code : ℕ) : Type 0 where
  onto : IsCode (set_one_code code)
  back : set_two_code (set_one_code code) ≡ code
  found : IsCode (set_two_code code)
  forth : set_one_code (set_two_code code) ≡ code

at_code : (code : ℕ) → T (undone code) → Undone code
at_code code t =
    let each = each_of_four (is_code (set_one_code code)) (eqb (set_two_code (set_one_code code)) code) (is_code (set_two_code code)) (eqb (set_one_code (set_two_code code)) code) t in
    record {
      onto = is_code_lem (set_one_code code) each.0;
      back = eqb→eq (set_two_code (set_one_code code)) code each.1;
      found = is_code_lem (set_two_code code) each.2;
      forth = eqb→eq (set_one_code (set_two_code code)) code each.3;
    }

undone_at : (code : ℕ) → IsCode code → Undone code
undone_at zero is = absurd (not-suc-le-zero is.some)
undone_at (suc n) is = at_code (suc n) (below (λ (m : ℕ). undone (suc m)) 0x7F test n (omega (arith, is.below)))

pub each_once : EachOnce
each_once = record {
  onto = λ code is. (undone_at code is).onto;
  once = λ first second is_first_lem is_second same. sym (undone_at first is_first_lem).back ∙ ap set_two_code same ∙ (undone_at second is_second).back;
  reached = λ code is. ((undone_at code is).found, (undone_at code is).forth);
}

-- ---- codes and overruns

pub each_code_passes : EachCodePasses
unfolding translated_of from_set_two when◌then◌else◌
each_code_passes byte is =
    let mark = neither (eqb byte 0xF0) _ is in
    let rest = neither (eqb byte 0xFA || eqb byte 0xFE) _ mark.second in
    record { make = simp (mark.first, rest.first, rest.second); break = simp (mark.first, rest.first, rest.second) }

pub overruns_pass : OverrunsPass
unfolding table set_one_code translated_of from_set_two when◌then◌else◌
overruns_pass = record { unmarked = (refl, refl); marked = (refl, refl) }

-- ---- sets

pub set_back : (set : CodeSet) → set_of (unmarked_of set) ≡ set
set_back One = refl
set_back Two = refl
