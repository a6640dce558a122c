-- An array's `map` by a function that is told by its contract: the list of what it gives.
-- Assumes nothing.
use Rattle.std.specs.Array.{IsMapOf}
use Rattle.std.specs.Fn.{Mut, Called}
use Rattle.std.proofs.Common.{ℕ, ◌<◌, List, [], ◌∷◌, length, map, ◌≡◌, sym, ◌∙◌, arith}
use Rattle.std.proofs.lemmas.List.{ext_get_or, get_or-map, length-map, nil_from_length}

module _ {F A B : Type 0} (g : Mut F (A × Unit {0}) B) (h : A → B) where
  at_places : (f : F) (xs : List A) (ys : List B) (n : ℕ) (d : A) → length xs ≡ n
      → ((p : F) (x : A) (y : B) (q : F) → Called g p (x, tt) y q → y ≡ h x) → IsMapOf g f xs ys n → ys ≡ map h xs
  at_places f xs ys n d long gives of =
      ext_get_or (h d) ys (map h xs) (of.long ∙ sym long ∙ sym (length-map xs h))
      (λ i within.
      let called = of.at i d (h d) (omega (arith, within, of.long)) in
      gives called.0 _ _ called.1 called.2 ∙ sym (get_or-map h xs i d (h d) (omega (arith, within, of.long, long))))

  -- whatever a call leaves of the function, what it returns is h of what it was given
  pub mapped : (f : F) (xs : List A) (ys : List B) (n : ℕ) → length xs ≡ n
      → ((p : F) (x : A) (y : B) (q : F) → Called g p (x, tt) y q → y ≡ h x) → IsMapOf g f xs ys n → ys ≡ map h xs
  mapped f [] ys n long gives of = nil_from_length ys (of.long ∙ sym long)
  mapped f (x ∷ xs) ys n long gives of = at_places f (x ∷ xs) ys n x long gives of
