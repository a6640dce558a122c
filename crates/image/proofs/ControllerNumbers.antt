-- The numbers of the controller that any numbers mean: those that are read, as they are, and zeros for those that are not.
-- Assumes nothing.
use Prim.Native.Nat.{ℕ}
use mathlib.Core.Path.{◌≡◌, refl, sym}
use mathlib.Core.Bool.{Bool, true, false, not, ◌&&◌}
use lib.Dec.{eqb}
use lib.ListN.{replicate}
use borrow.Author.Tests.{eqb-true}
use Rattle.bits.specs.Choice.{when◌then◌else◌}
use Rattle.bits.proofs.Tests.{not_both}
use Rattle.controller.specs.declared.Buffer.{Buffer}
use Rattle.controller.specs.declared.Buffer.TheVariants.{Empty, Key, Answer}
use Rattle.image.specs.declared.ControllerImage.{ControllerImage}
use Rattle.image.specs.ImageLine.{flag_of, is_set}
use Rattle.image.specs.ImageController.{buffer_number, held_in, buffer_at, controller_image, controller_at}
use Rattle.image.proofs.ImageLaws.{turned_back}

abbrev numbered : ControllerImage → ℕ → ControllerImage
numbered image buffer =
    record {
      buffer = buffer;
      byte = image.byte;
      command = image.command;
      awaiting = flag_of (is_set image.awaiting);
      commanded = flag_of (is_set image.commanded);
      spare = replicate 3 0;
    }

-- the buffer's number is neither 1 nor 2
abbrev is_other : ℕ → Bool
is_other number = not (eqb number 1) && not (eqb number 2)

abbrev chosen : Bool → Bool → ℕ → Buffer
chosen key answer byte = when key then Key byte else when answer then Answer byte else Empty byte

record Holds (held : Buffer) (number byte : ℕ) : Type 0 where
  number_is : buffer_number held ≡ number
  holds : held_in held ≡ byte

is_empty : (key answer : Bool) (byte : ℕ) → (not key && not answer) ≡ true → Holds (chosen key answer byte) 0 byte
unfolding when◌then◌else◌
is_empty true answer byte other = not_both other refl
is_empty false true byte other = not_both other refl
is_empty false false byte other = record { number_is = refl; holds = refl }

is_full_lem : (key answer : Bool) (number byte : ℕ) → (key ≡ true → number ≡ 1) → (answer ≡ true → number ≡ 2) → (not key && not answer) ≡ false
    → Holds (chosen key answer byte) number byte
unfolding when◌then◌else◌
is_full_lem true answer number byte one two held = record { number_is = sym (one refl); holds = refl }
is_full_lem false true number byte one two held = record { number_is = sym (two refl); holds = refl }
is_full_lem false false number byte one two held = not_both refl held

pub none_held : (image : ControllerImage) → is_other image.buffer ≡ true → numbered image 0 ≡ controller_image (controller_at image)
unfolding controller_image controller_at buffer_at
none_held image other =
    let empty = is_empty (eqb image.buffer 1) (eqb image.buffer 2) image.byte other in
    simp (turned_back, empty.number_is, empty.holds)

pub one_held : (image : ControllerImage) → is_other image.buffer ≡ false → numbered image image.buffer ≡ controller_image (controller_at image)
unfolding controller_image controller_at buffer_at
one_held image held =
    let n = image.buffer in
    let full = is_full_lem (eqb n 1) (eqb n 2) n image.byte (eqb-true n 1) (eqb-true n 2) held in
    simp (turned_back, full.number_is, full.holds)
