-- The code's `^` and the toggle of the definitions.
-- Assumes nothing.
use mathlib.Core.Path.{◌≡◌, refl}
use mathlib.Core.Bool.{Bool, true, false}
use Rattle.bits.specs.Bits.{exactly_one, toggle}

pub toggles : (bit test : Bool) → exactly_one bit test ≡ toggle test bit
toggles true true = refl
toggles true false = refl
toggles false true = refl
toggles false false = refl
