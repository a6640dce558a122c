-- The proof of `trace_parts::next_part`.
-- Assumes nothing.
use Prim.Native.Nat.{◌-◌}
use Rattle.trace.specs.Parts.{reports_most, lines_by}
use Rattle.trace.proofs.Tracing.{Yet}
use Rattle.trace_parts.proofs.next_part.Given as goal

abbrev pub invariant-loop : goal.invariant-loop
invariant-loop l =
    Yet l.pack (lines_by reports_most l.pack l.initial.service l.initial.offset) l.initial.text l.text l.service l.offset l.part l.at (reports_most - l.counter)
