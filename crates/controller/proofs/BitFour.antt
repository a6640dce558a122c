-- AD and AE move bit 4 of the command byte alone.
-- Assumes nothing.
use Prim.Native.Nat.{ℕ, ◌+◌, ◌-◌, ◌/◌, ◌%◌}
use mathlib.Core.Path.{◌≡◌, refl}
use mathlib.Core.Bool.{true, false}
use native.Mathlib.Omega.{arith}
use borrow.Author.Tests.{eqb-true, eqb-false, eq-eqb, ne_eqb}
use Rattle.bits.specs.Bits.{bit4}
use Rattle.bits.proofs.Choice.{by_test}
use Rattle.controller.specs.PortEvents.{disabled_of, enabled_of}
use Rattle.controller.specs.Laws.{OtherBitsStay, BitFourAlone}

-- the bit as a number
pub is_on : (command : ℕ) → bit4 command ≡ true → command / 16 % 2 ≡ 1
is_on command = eqb-true (command / 16 % 2) 1

pub is_off : (command : ℕ) → bit4 command ≡ false → command / 16 % 2 ≡ 1 → ⊥
is_off command = eqb-false (command / 16 % 2) 1

put_on : (command : ℕ) → OtherBitsStay command (disabled_of command) true
unfolding disabled_of
put_on command =
    by_test (λ (moved : ℕ). OtherBitsStay command moved true) _ _ _
    (λ on. record { fourth = on; below = refl; above = refl })
    (λ off.
    let clear = is_off command off in
    record { fourth = eq-eqb ((command + 16) / 16 % 2) 1 (omega (arith, clear)); below = omega (arith, clear); above = omega (arith, clear) })

put_off : (command : ℕ) → OtherBitsStay command (enabled_of command) false
unfolding enabled_of
put_off command =
    by_test (λ (moved : ℕ). OtherBitsStay command moved false) _ _ _
    (λ on.
    let set = is_on command on in
    record { fourth = ne_eqb ((command - 16) / 16 % 2) 1 (λ e. omega (arith, set, e)); below = omega (arith, set); above = omega (arith, set) })
    (λ off. record { fourth = off; below = refl; above = refl })

pub bit_four_alone : BitFourAlone
bit_four_alone = record { disabled = put_on; enabled = put_off }
