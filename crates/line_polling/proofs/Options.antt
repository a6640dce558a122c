-- What the definitions say of values that may be missing is what the library's calls give.
-- Assumes nothing.
use mathlib.Core.Path.{◌≡◌, refl}
use Rattle.std.specs.Prelude.{ℕ, Option, None, Some, nat_eq}
use Rattle.std.specs.Option.{option_eq, option_or}
use Rattle.line.specs.declared.Kind.{Kind}
use Rattle.line.specs.State.{is_value_of}
use Rattle.line.specs.Poll.{first_of}

pub is_value_as_equal : (setting : Option ℕ) (value : ℕ) → is_value_of setting value ≡ option_eq nat_eq setting (Some value)
unfolding is_value_of
is_value_as_equal None value = refl
is_value_as_equal (Some known) value = refl

pub first_as_or : (ahead behind : Option (Kind × ℕ)) → first_of ahead behind ≡ option_or ahead behind
unfolding first_of
first_as_or None behind = refl
first_as_or (Some start) behind = refl
