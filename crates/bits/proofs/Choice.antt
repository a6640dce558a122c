-- What is known of a choice.
-- Assumes nothing.
use mathlib.Core.Bool.{Bool, true, false}
use mathlib.Core.Path.{◌≡◌, refl}
use Rattle.bits.specs.Choice.{when◌then◌else◌}

-- a property of the choice, from its branches, each with what the test said
pub by_test : {A : Type 0} (P : A → Type 0) (t : Bool) (a b : A) → (t ≡ true → P a) → (t ≡ false → P b) → P (when t then a else b)
unfolding when◌then◌else◌
by_test P true a b f g = f refl
by_test P false a b f g = g refl

-- the same, where the branches need no test
pub either : {A : Type 0} (P : A → Type 0) (t : Bool) (a b : A) → P a → P b → P (when t then a else b)
either P t a b f g = by_test P t a b (λ _. f) (λ _. g)

-- a relation of two choices by one test
pub by_test_both : {A : Type 0} (R : A → A → Type 0) (t : Bool) {a b c d : A} → (t ≡ true → R a c) → (t ≡ false → R b d)
    → R (when t then a else b) (when t then c else d)
unfolding when◌then◌else◌
by_test_both R true f g = f refl
by_test_both R false f g = g refl

pub both : {A : Type 0} (R : A → A → Type 0) (t : Bool) {a b c d : A} → R a c → R b d → R (when t then a else b) (when t then c else d)
both R t f g = by_test_both R t (λ _. f) (λ _. g)
