-- The proof of `queue::Queue::pass_enhanced`.
-- Assumes nothing.
use mathlib.Core.Path.{sym, ◌∙◌}
use native.Mathlib.Omega.{arith}
use Rattle.queue.proofs.Past.{one_fewer, past_one, past_end}
use Rattle.queue.proofs.Queue.pass_enhanced.Goals as goal

pub loop-self-smaller : goal.loop-self-smaller
loop-self-smaller c =
    let fewer = one_fewer _ (sym c.starts_enhanced.ensures ∙ c.loop-self-test.true) in
    rw c.advance.ensures (omega (arith, fewer))

pub loop-self-preserved : goal.loop-self-preserved
loop-self-preserved c =
    let next = past_one _ (sym c.starts_enhanced.ensures ∙ c.loop-self-test.true) in
    c.loop-self.invariant ∙ next ∙ rw c.advance.ensures

pub returns : goal.returns
returns c =
    let end = past_end _ (sym c.starts_enhanced.ensures ∙ c.loop-self-test.false) in
    sym (c.loop-self.invariant ∙ end)
