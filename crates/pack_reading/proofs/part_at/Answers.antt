-- The proof of `pack_reading::part_at`.
-- Assumes nothing.
use Prim.Native.Nat.{ℕ, ◌≤◌}
use mathlib.Core.Path.{◌≡◌, refl, sym, ◌∙◌}
use mathlib.Core.List.{List, []}
use native.Mathlib.Omega.{arith}
use lib.ListN.{length}
use Rattle.std.specs.Prelude.{Option, Some, None, unwrap_or}
use Rattle.std.proofs.Common.{Bor, inl, inr}
use Rattle.std.specs.Slice.{IsGetRangeResult}
use Rattle.pack.specs.Reading.{limit, part_at}
use Rattle.pack.proofs.Reading.{to_end, part_too_long, part_within, part_beyond}
use Rattle.pack_reading.proofs.part_at.Goals as goal

part_or : (pack : List ℕ) (start : ℕ) (found : Option (Bor (List ℕ))) (other : Bor (List ℕ)) → other.now ≡ [] → length pack ≤ limit
    → IsGetRangeResult pack start (length pack) found → (unwrap_or found other).now ≡ part_at pack start
part_or pack start None other none small given =
    elim given.0 [ inl beyond ↦ none ∙ sym (part_beyond pack start small beyond) | inr never ↦ absurd (omega arith) ]
part_or pack start (Some part) other none small given = given.0.2 ∙ to_end start pack ∙ sym (part_within pack start small)

pub returns-then-pack-gt-LIMIT : goal.returns-then-pack-gt-LIMIT
returns-then-pack-gt-LIMIT c = rw (part_too_long c.args.pack.now c.args.start (omega arith))

pub returns : goal.returns
returns c =
    let a = c.args in
    let found = part_or a.pack.now a.start c.get.result _ refl (omega arith) c.get.ensures.lookup in
    rw c.unwrap_or.ensures found
