-- The laws that ListLaws.antt of specs/ states.
-- Assumes nothing.
use mathlib.Core.Path.{◌≡◌, refl, ap}
use mathlib.Core.List.{[], ◌∷◌}
use native.Mathlib.Omega.{arith}
use Rattle.state.specs.State.{new_service}
use Rattle.events.specs.Step.{step_of}
use Rattle.events.specs.Run.{Shown, shown_of, next, run, after}
use Rattle.events.proofs.SentCounts.{sent_at_most_six}
use Rattle.events.specs.Tags.{tag_of}
use Rattle.report.specs.Report.{report_from, report_of}
use Rattle.report.specs.Text.{text_of}
use Rattle.report.specs.ListLaws.{RunPrints, SentOnOneDigit}
use Rattle.report.proofs.DigitFacts.{digit_value}

pub run_prints : RunPrints
unfolding report_of
run_prints a b [] e = refl
run_prints a b (event ∷ more) e =
    let first : shown_of (step_of a event) ≡ shown_of (step_of b event) = cc in
    let later : run (next a event) more ≡ run (next b event) more = cc in
    let text = ap (λ (shown : Shown). text_of (report_from (tag_of event) shown)) first in
    rw (text, run_prints (next a event) (next b event) more later)

pub sent_on_one_digit : SentOnOneDigit
unfolding text_of report_of
sent_on_one_digit set locks events event =
    let sent = (step_of (after (new_service set locks) events) event).sent in
    omega (arith, digit_value sent, sent_at_most_six set locks events event)
