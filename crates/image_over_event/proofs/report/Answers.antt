-- The proof of `image_over_event::report`.
-- Assumes nothing.
use mathlib.Core.Path.{◌≡◌, sym, ◌∙◌}
use native.Mathlib.Omega.{arith}
use Rattle.image_calls.specs.Exports.{recognised, is_unknown}
use Rattle.image_calls.proofs.Events.{none_unknown, named, unknown_report, short_report, long_report}
use borrow.Author.Rules.{rules}
use Rattle.image_over_event.proofs.report.Goals as goal

pub returns-then-is_none : goal.returns-then-is_none
returns-then-is_none c =
    let a = c.args in
    let unknown : is_unknown (recognised a.tagged) ≡ c.is_none.result = sym (rw (← c.recognise.ensures) (none_unknown _ _ c.is_none.ensures)) in
    let made = unknown_report a.image a.tagged a.buffer.now (recognised a.tagged) (unknown ∙ c.if-is_none.true) in
    (made.result, made.writes)

pub returns-then-buffer-lt-LENGTH : goal.returns-then-buffer-lt-LENGTH
returns-then-buffer-lt-LENGTH c =
    let a = c.args in
    let unknown : is_unknown (recognised a.tagged) ≡ c.is_none.result = sym (rw (← c.recognise.ensures) (none_unknown _ _ c.is_none.ensures)) in
    let made = short_report a.image a.tagged a.buffer.now (recognised a.tagged) (unknown ∙ c.if-is_none.false) (omega arith) in
    (made.result, made.writes)

pub returns : goal.returns
returns c =
    let a = c.args in
    let unknown : is_unknown (recognised a.tagged) ≡ c.is_none.result = sym (rw (← c.recognise.ensures) (none_unknown _ _ c.is_none.ensures)) in
    let copied = c.event_on_copy-changed.ensures in
    let made = long_report a.image a.tagged a.buffer.now (recognised a.tagged) (unknown ∙ c.if-is_none.false) (named a.tagged) (omega (arith, c.if-buffer-lt-LENGTH.false)) in
    (rw (c.refusal.ensures, copied) made.result, rw (c.write.ensures, c.report_of.ensures, copied) made.writes)
