-- The proof of `report_call::report_event`.
-- Assumes nothing.
use mathlib.Core.Path.{◌≡◌, refl, ap, sym, ◌∙◌}
use native.Mathlib.Omega.{arith}
use Prim.Native.Nat.{ℕ, ◌≤◌}
use lib.ListN.{length}
use borrow.Author.Tests.{lt-ltb}
use Rattle.bits.specs.Choice.{when◌then◌else◌}
use Rattle.answers.specs.declared.Answer.TheVariants.{Refused}
use Rattle.answers.specs.Answers.{ans_of}
use Rattle.state.specs.declared.Service.{Service}
use Rattle.events.specs.declared.Outcome.{Outcome}
use Rattle.events.specs.Step.{step_of}
use Rattle.report.specs.Report.{report_of}
use Rattle.report.specs.Reported.{Reported, report_length, refusal_in, reported_of, written_of, buffer_of}
use Rattle.report.proofs.BufferLaws.{long_reported, refused_call_written}
use Rattle.report_call.proofs.Answered.{none_shown}
use Rattle.report_call.proofs.report_event.Goals as goal

pub returns-then-buffer-lt-LENGTH : goal.returns-then-buffer-lt-LENGTH
unfolding reported_of written_of buffer_of when◌then◌else◌
returns-then-buffer-lt-LENGTH c = simp (lt-ltb (length c.args.buffer.now) report_length (omega arith))
    (record { value = refl; refused = refl; buffer_after = refl })

pub returns-in-Refused : goal.returns-in-Refused
unfolding buffer_of
returns-in-Refused c =
    let a = c.args in
    let long : report_length ≤ length a.buffer.now = omega (arith, c.if-buffer-lt-LENGTH.false) in
    let refused : (step_of a.service a.event).answer ≡ Refused c.in-Refused.refusal = rw (← c.step-outcome.ensures) c.in-Refused.is in
    let told = refused_call_written a.service a.event a.buffer.now c.in-Refused.refusal long refused in
    let left : c.step-outcome.result.service ≡ (reported_of a.service a.event a.buffer.now).service =
    ap (λ (o : Outcome). o.service) c.step-outcome.ensures ∙ ap (λ (r : Reported). r.service) (sym (long_reported a.service a.event a.buffer.now long)) in
    record {
      value =
          ap (λ (n : ℕ). record { refusal = n; service = c.step-outcome.result.service }) (sym told.number)
          ∙ ap (λ (s : Service). record { refusal = (reported_of a.service a.event a.buffer.now).refusal; service = s }) left;
      refused = left ∙ told.kept;
      buffer_after = simp (c.write.ensures, ← c.report_of-report.ensures, ← c.step-outcome.ensures);
    }

pub returns-in_default : goal.returns-in_default
unfolding buffer_of report_of
returns-in_default c =
    let a = c.args in
    let long : report_length ≤ length a.buffer.now = omega (arith, c.if-buffer-lt-LENGTH.false) in
    record {
      value =
          ap (λ (n : ℕ). record { refusal = n; service = c.step-outcome.result.service }) (sym (none_shown _ c.in_default.not-Refused))
          ∙ ap (λ (o : Outcome). record { refusal = refusal_in (ans_of o.answer); service = o.service }) c.step-outcome.ensures
          ∙ sym (long_reported a.service a.event a.buffer.now long);
      refused = tt;
      buffer_after = simp (c.write.ensures, ← c.report_of-report.ensures, ← c.step-outcome.ensures);
    }
