-- The proof of `line_replies::ended`.
-- Assumes nothing.
use Rattle.bits.specs.Choice.{when◌then◌else◌}
use Rattle.line.specs.Reply.{ended_of}
use Rattle.line.proofs.Cases.{after_led, after_rate}
use Rattle.line_replies.proofs.ended.Goals as goal

pub returns-then-is_led : goal.returns-then-is_led
unfolding ended_of when◌then◌else◌
returns-then-is_led c =
    let led = simp c.is_led.ensures at c.if-is_led.true in
    simp (led, after_led _ led)

pub returns : goal.returns
unfolding ended_of when◌then◌else◌
returns c =
    let rate = simp c.is_led.ensures at c.if-is_led.false in
    simp (c.in_phase.ensures, rate, after_rate _ rate)
