-- The proof of `pack_reading::rest`.
-- Assumes nothing.
use mathlib.Core.Path.{◌≡◌, sym}
use native.Mathlib.Omega.{arith}
use borrow.Author.Rules.{rules}
use Rattle.std.specs.Prelude.{None, Ok}
use Rattle.pack.specs.Reading.{first_of}
use Rattle.pack.proofs.Reading.{to_end}
use Rattle.pack.proofs.Events.{read_is_encoded}
use Rattle.pack_reading.proofs.rest.Goals as goal

pub returns-in_default : goal.returns-in_default
returns-in_default c =
    let none : c.in_default.field-0 ≡ None = search rules in
    let is = c.in_default.is in
    let read = c.read_first.ensures in
    let ended : first_of c.args.part.now ≡ Ok None = cc in
    rw ended

-- the event that was found, and its bytes
pub slice_bounds-result-count : goal.slice_bounds-result-count
slice_bounds-result-count c = omega (arith, read_is_encoded _ _ _ (sym (rw c.in-Ok-Some.field-0-is at c.in-Ok-Some.ensures)))

pub returns : goal.returns
returns c = simp to_end (sym (read_is_encoded _ _ _ (sym (rw c.in-Ok-Some.field-0-is at c.in-Ok-Some.ensures))).rest)

pub slice_bounds-result-start : goal.slice_bounds-result-start
slice_bounds-result-start c = omega (arith, read_is_encoded _ _ _ (sym (rw c.in-Ok-Some.field-0-is at c.in-Ok-Some.ensures)))
