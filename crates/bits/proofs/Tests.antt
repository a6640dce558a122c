-- What is known of tests that are joined, and a fact about every number below a bound from one test that the checker computes.
-- Assumes nothing.
use mathlib.Core.Path.{◌≡◌, refl, subst, sym, ◌∙◌}
use mathlib.Core.Logic.{⊎_elim}
use mathlib.Core.Bool.{Bool, true, false, ◌&&◌, ◌||◌, true≢false}
use Prim.Native.Nat.{ℕ, zero, suc, ◌<◌}
use native.Mathlib.Nat.{le_of_suc-le-suc, not-suc-le-zero, eq-or-lt_of_le}
use lib.Dec.{T}

pub and_left : (a b : Bool) → T (a && b) → T a
and_left true b t = tt
and_left false b t = t

pub and_right : (a b : Bool) → T (a && b) → T b
and_right true b t = t
and_right false b t = absurd t

pub each_of_four : (p q r s : Bool) → T (p && (q && (r && s))) → T p × T q × T r × T s
each_of_four p q r s t =
    let u = and_right p (q && (r && s)) t in
    let v = and_right q (r && s) u in
    (and_left p (q && (r && s)) t, and_left q (r && s) u, and_left r s v, and_right r s v)

-- no test comes out both ways
pub not_both : {A : Type 0} {test : Bool} → test ≡ true → test ≡ false → A
not_both holds fails = absurd (true≢false (sym holds ∙ fails))

pub record Neither (a b : Bool) : Type 0 where
  pub first : a ≡ false
  pub second : b ≡ false

pub neither : (a b : Bool) → (a || b) ≡ false → Neither a b
neither true b h = absurd (true≢false h)
neither false b h = record { first = refl; second = h }

-- b wherever a
abbrev pub implies : Bool → Bool → Bool
implies true b = b
implies false b = true

pub implied : (a b : Bool) → T (implies a b) → T a → T b
implied true b t h = t
implied false b t h = absurd h

-- the test f passes at each number below n
abbrev pub all_below : (ℕ → Bool) → ℕ → Bool
all_below f zero = true
all_below f (suc n) = f n && all_below f n

pub below : (f : ℕ → Bool) (n : ℕ) → T (all_below f n) → (k : ℕ) → k < n → T (f k)
below f zero t k h = absurd (not-suc-le-zero h)
below f (suc n) t k h =
    ⊎_elim (λ e. subst (λ (m : ℕ). T (f m)) (sym e) (and_left (f n) (all_below f n) t))
    (λ l. below f n (and_right (f n) (all_below f n) t) k l)
    (eq-or-lt_of_le (le_of_suc-le-suc h))
