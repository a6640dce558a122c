-- What the code of an event and of a report makes is what their definitions say.
-- Assumes nothing.
use Rattle.std.specs.Prelude.{Option, None, Some, Bool, not, is_some}
use Prim.Native.Nat.{ℕ, ◌<◌, ◌≤◌}
use mathlib.Core.Path.{◌≡◌, refl, ap, sym, ◌∙◌}
use mathlib.Core.Bool.{true, false, true≢false}
use mathlib.Core.List.{List}
use lib.Dec.{eqb, ltb}
use lib.ListN.{length}
use borrow.Author.Tests.{eqb-true, le-ltb, lt-ltb}
use Rattle.bits.specs.Choice.{when◌then◌else◌}
use Rattle.bits.proofs.Choice.{by_test, either}
use Rattle.frame.specs.declared.Fault.TheVariants.{Start, Parity, Stop}
use Rattle.answers.specs.declared.Refusal.TheVariants as refusal
use Rattle.answers.specs.declared.Answer.{Answer}
use Rattle.answers.specs.declared.Answer.TheVariants as answer
use Rattle.answers.specs.Answers.{ans_of, word_of}
use Rattle.controller.specs.declared.PortRefusal.TheVariants.{Busy, Command, Unawaited}
use Rattle.state.specs.declared.Service.{Service}
use Rattle.events.specs.declared.Event.{Event}
use Rattle.events.specs.declared.Outcome.{Outcome}
use Rattle.events.specs.Tags.{key_tag, call_tag, poll_tag, time_out_tag, empty_tag, restart_tag, scan_tag, tag_of}
use Rattle.events.specs.Outcomes.{answered_of}
use Rattle.events.specs.Functions.{call_of}
use Rattle.events.specs.Step.{step_of}
use Rattle.events.specs.Run.{shown_of}
use Rattle.report.specs.Report.{report_from, report_of}
use Rattle.report.specs.Reported.{report_length, refusal_in, written_of, buffer_of}
use Rattle.report.proofs.BufferLaws.{short_refused, long_reported}
use Rattle.image.specs.declared.Image.{Image}
use Rattle.image.specs.Image.{image_of, service_of, bare_service_of}
use Rattle.image_calls.specs.declared.Shown.{Shown}
use Rattle.image_calls.specs.declared.Tagged.{Tagged}
use Rattle.image_calls.specs.declared.Ran.{Ran}
use Rattle.image_calls.specs.declared.Changed.{Changed}
use Rattle.image_calls.specs.declared.Refused.{Refused}
use Rattle.image_calls.specs.Exports.{shown_with, seen, shown_to_c, changed_by, step_in, refused_in, recognised, is_unknown, event_run, ans_in, ran_of, tagged_in, tried_in, reported_as, written_as}
use Rattle.image_calls.proofs.Beside.{left_on, on_image}

-- ---- an event

-- what `is_none` returns of a tag's event is whether the tag is unknown
pub none_unknown : (event : Option Event) (none : Bool) → is_some event ≡ not none → none ≡ is_unknown event
none_unknown None true tells = refl
none_unknown None false tells = tells
none_unknown (Some event) true tells = tells
none_unknown (Some event) false tells = refl

-- what the code makes of the image that an event left
abbrev told : Image → Image → ℕ → ℕ → ℕ → Changed
told image left ans word sent =
    let shown = shown_with left.flags ans word sent in
    when ltb 0x7F ans then record { image = image; shown = shown } else record { image = left; shown = shown }

told_tagged : (image : Image) (event : Option Event) →
    let ran = ran_of (service_of image) event in told image (image_of ran.service) ran.ans ran.word ran.sent ≡ tagged_in image event
unfolding image_of refused_in step_in shown_to_c step_of call_of answered_of when◌then◌else◌
told_tagged image None = refl
told_tagged image (Some event) = refl

module _ (image : Image) (event : Option Event) (ran : Ran) (is : ran ≡ ran_of (bare_service_of image) event) where
  abbrev left : Image
  left = left_on image (event_run event) ran.service

  abbrev shown_by : Shown
  shown_by = shown_with left.flags ran.ans ran.word ran.sent

  as_told : told image left ran.ans ran.word ran.sent ≡ tagged_in image event
  as_told =
      let run = event_run event in
      let beside = step_of (bare_service_of image) run in
      let here = step_of (service_of image) run in
      let same = on_image image run in
      let unknown = is_unknown event in
      ap (λ (r : Ran). told image (left_on image run r.service) r.ans r.word r.sent) is
      ∙ ap (λ (l : Image). told image l (ans_in beside.answer unknown) (word_of beside.answer) beside.sent) same.left
      ∙ ap (λ (a : Answer). told image (image_of here.service) (ans_in a unknown) (word_of a) beside.sent) same.answer
      ∙ ap (λ (n : ℕ). told image (image_of here.service) (ans_in here.answer unknown) (word_of here.answer) n) same.sent
      ∙ told_tagged image event

  pub refused_event : 0x7F < ran.ans → record { image = image; shown = shown_by } ≡ tagged_in image event
  unfolding when◌then◌else◌
  refused_event h =
      let found : record { image = image; shown = shown_by } ≡ told image left ran.ans ran.word ran.sent = simp (lt-ltb 0x7F ran.ans h) in
      found ∙ as_told

  pub accepted_event : ran.ans ≤ 0x7F → record { image = left; shown = shown_by } ≡ tagged_in image event
  unfolding when◌then◌else◌
  accepted_event h =
      let found : record { image = left; shown = shown_by } ≡ told image left ran.ans ran.word ran.sent = simp (le-ltb 0x7F ran.ans h) in
      found ∙ as_told

-- ---- a report

-- an event shows the same whether or not it changed its image
pub outcome_shows : (image : Image) (outcome : Outcome) → seen (changed_by image outcome).shown ≡ shown_of outcome
unfolding shown_to_c
outcome_shows image outcome = either (λ (changed : Changed). seen changed.shown ≡ shown_of outcome) _ _ _ refl refl

pub step_shows : (image : Image) (event : Event) → seen (step_in image event).shown ≡ shown_of (step_of (service_of image) event)
unfolding step_in
step_shows image event = outcome_shows image (step_of (service_of image) event)

-- the image and the number that an outcome leaves, by its answer
abbrev pub left_by : Image → Outcome → Refused
left_by image outcome = let changed = changed_by image outcome in record { image = changed.image; refusal = refusal_in changed.shown.ans }

pub tried_by : (image : Image) (after : Service) (sent : ℕ) (answer : Answer)
    → left_by image (record { service = after; answer = answer; sent = sent }) ≡ tried_in image (refusal_in (ans_of answer)) after
unfolding shown_to_c tried_in when◌then◌else◌
tried_by image after sent answer.Nothing = refl
tried_by image after sent (answer.Put word) = refl
tried_by image after sent (answer.Dropped word) = refl
tried_by image after sent answer.Break = refl
tried_by image after sent answer.RestartAsked = refl
tried_by image after sent answer.Overrun = refl
tried_by image after sent answer.Taken = refl
tried_by image after sent answer.Ignored = refl
tried_by image after sent (answer.Returned word) = refl
tried_by image after sent answer.NoWord = refl
tried_by image after sent (answer.Status word) = refl
tried_by image after sent answer.Done = refl
tried_by image after sent (answer.Stored word) = refl
tried_by image after sent (answer.Send byte) = refl
tried_by image after sent answer.Quiet = refl
tried_by image after sent answer.GivenUp = refl
tried_by image after sent (answer.Refused refusal.Function) = refl
tried_by image after sent (answer.Refused refusal.Delay) = refl
tried_by image after sent (answer.Refused refusal.Rate) = refl
tried_by image after sent (answer.Refused refusal.Full) = refl
tried_by image after sent (answer.Refused (refusal.Frame Start)) = refl
tried_by image after sent (answer.Refused (refusal.Frame Parity)) = refl
tried_by image after sent (answer.Refused (refusal.Frame Stop)) = refl
tried_by image after sent (answer.Refused (refusal.Port Busy)) = refl
tried_by image after sent (answer.Refused (refusal.Port Command)) = refl
tried_by image after sent (answer.Refused (refusal.Port Unawaited)) = refl

-- the tag that was recognised is the tag of the event
abbrev Named : Tagged → Option Event → Type 0
Named tagged None = Unit {0}
Named tagged (Some event) = tagged.tag ≡ tag_of event

pub named : (tagged : Tagged) → Named tagged (recognised tagged)
unfolding recognised
named tagged =
    by_test (Named tagged) (eqb tagged.tag key_tag) _ _ (eqb-true tagged.tag key_tag)
    (λ _. by_test (Named tagged) (eqb tagged.tag call_tag) _ _ (eqb-true tagged.tag call_tag)
    (λ _. by_test (Named tagged) (eqb tagged.tag poll_tag) _ _ (eqb-true tagged.tag poll_tag)
    (λ _. by_test (Named tagged) (eqb tagged.tag time_out_tag) _ _ (eqb-true tagged.tag time_out_tag)
    (λ _. by_test (Named tagged) (eqb tagged.tag empty_tag) _ _ (eqb-true tagged.tag empty_tag)
    (λ _. by_test (Named tagged) (eqb tagged.tag restart_tag) _ _ (eqb-true tagged.tag restart_tag)
    (λ _. by_test (Named tagged) (eqb tagged.tag scan_tag) _ _ (eqb-true tagged.tag scan_tag) (λ _. tt)))))))

-- what the code makes of a report, by what stopped it
module _ (image : Image) (tagged : Tagged) (buffer : List ℕ) where
  pub record Reports (event : Option Event) (refused : Refused) (left : List ℕ) : Type 0 where
    pub result : refused ≡ reported_as image event buffer
    pub writes : left ≡ written_as image event buffer

  pub unknown_report : (event : Option Event) → is_unknown event ≡ true → Reports event (record { image = image; refusal = 6 }) buffer
  unknown_report None is = record { result = refl; writes = refl }
  unknown_report (Some event) is = absurd (true≢false (sym is))

  pub short_report : (event : Option Event) → is_unknown event ≡ false → length buffer < report_length
      → Reports event (record { image = image; refusal = 9 }) buffer
  unfolding tried_in when◌then◌else◌
  short_report None is short = absurd (true≢false is)
  short_report (Some event) is short =
      let refused = short_refused (service_of image) event buffer short in
      record { result = rw refused.result; writes = sym refused.unwritten }

  pub long_report : (event : Option Event) → is_unknown event ≡ false → Named tagged event → report_length ≤ length buffer
      → let changed = tagged_in image event in
      Reports event (record { image = changed.image; refusal = refusal_in changed.shown.ans }) (written_of (report_from tagged.tag (seen changed.shown)) buffer)
  unfolding step_in buffer_of report_of
  long_report None is name long = absurd (true≢false is)
  long_report (Some event) is name long =
      let outcome : Outcome = step_of (service_of image) event in
      record {
        result = rw (long_reported (service_of image) event buffer long) (tried_by image outcome.service outcome.sent outcome.answer);
        writes = rw (name, step_shows image event);
      }
