-- The choice that all definitions are written with.
-- Assumes nothing.
use Rattle.std.specs.Prelude.{Bool, true, false}

infixr 10 when◌then◌else◌
-- shut by default, so that a proof about a choice finds its test and its branches
unfoldable pub when◌then◌else◌ : {A : Type 0} → Bool → A → A → A
when◌then◌else◌ true a b = a
when◌then◌else◌ false a b = b
