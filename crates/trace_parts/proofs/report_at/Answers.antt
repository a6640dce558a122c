-- The proof of `trace_parts::report_at`.
-- Assumes nothing.
use mathlib.Core.Path.{ap, ◌∙◌}
use Rattle.report.specs.Text.{text_of}
use Rattle.trace.proofs.Writing.{part_placed}
use native.Mathlib.Omega.{arith}
use lib.ListN.{length, drop, length-drop}
use borrow.Author.Tests.{le-ltb}
use Rattle.bits.specs.Choice.{when◌then◌else◌}
use Rattle.report.specs.Reported.{event_report, reported_of, written_of, buffer_of}
use Rattle.lent_calls.specs.Lent.{Tried, reported_in}
use Rattle.pack.proofs.Reading.{to_end}
use Rattle.trace_parts.proofs.report_at.Goals as goal

pub returns : goal.returns
unfolding reported_in reported_of written_of buffer_of when◌then◌else◌
returns c =
    let a = c.args in
    let enough = le-ltb (length (drop a.at a.text.now)) 44 (simp length-drop (omega arith)) in
    record {
      value = ap (λ (tried : Tried). tried.service) c.report_on_copy-back.ensures.value ∙ simp (to_end, enough);
      text_after =
          simp (c.report_on_copy-back.ensures.buffer_after, to_end, enough) (part_placed a.at 44 (text_of (event_report a.service a.event)) a.text.now);
    }
