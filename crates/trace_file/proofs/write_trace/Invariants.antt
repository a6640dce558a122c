-- The measure of `trace_file::write_trace`: each part leaves less of the pack unread.
use Rattle.trace.proofs.Parts.{unread}
use Rattle.trace_file.proofs.write_trace.Given as goal

abbrev pub decreases-loop-place : goal.decreases-loop-place
decreases-loop-place g l = unread l.place
