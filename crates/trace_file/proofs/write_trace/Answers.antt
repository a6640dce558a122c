-- The proof of `trace_file::write_trace`: the part that is written out stands in the buffer, and leaves less to read.
use mathlib.Core.Path.{sym}
use Prim.Native.Nat.{◌≤◌}
use lib.ListN.{length}
use lib.Seq.{length-take-le}
use borrow.Author.Tests.{not-true}
use Rattle.trace.proofs.Parts.{unread_falls, part_fits}
use Rattle.trace_file.proofs.write_trace.Goals as goal

pub slice_bounds-text-end : goal.slice_bounds-text-end
slice_bounds-text-end g c = rw (c.next_part-part.ensures.value, c.next_part-part.ensures.text_after) (part_fits _ _ _)

pub slice_bounds-write_all-end : goal.slice_bounds-write_all-end
slice_bounds-write_all-end g c =
    let fits : c.next_part-part.result.length ≤ length c.next_part-part.new.text =
    rw (c.next_part-part.ensures.value, c.next_part-part.ensures.text_after) (part_fits _ _ _) in
    sym (length-take-le _ _ fits)

pub loop-place-smaller : goal.loop-place-smaller
loop-place-smaller g c = rw c.next_part-part.ensures.value (unread_falls _ _ (not-true _ c.loop-place-test.true))
