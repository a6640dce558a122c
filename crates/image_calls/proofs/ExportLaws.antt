-- A refusal leaves an image as it was.
-- Assumes nothing.
use Rattle.std.specs.Prelude.{Option, None, Some, Result, Ok, Err}
use Rattle.frame.specs.declared.Fault.{Fault}
use Prim.Native.Nat.{ℕ, ◌<◌}
use mathlib.Core.Path.{◌≡◌, refl, sym, ◌∙◌}
use mathlib.Core.Logic.{◌≢◌}
use mathlib.Core.Bool.{true, true≢false}
use mathlib.Core.List.{List}
use borrow.Author.Tests.{lt-ltb}
use lib.Dec.{ltb}
use lib.ListN.{length}
use Rattle.bits.specs.Choice.{when◌then◌else◌}
use Rattle.bits.proofs.Choice.{by_test}
use Rattle.frame.specs.Frame.{read_frame}
use Rattle.translation.specs.declared.CodeSet.{CodeSet}
use Rattle.controller.specs.declared.PortEvent.{PortEvent}
use Rattle.state.specs.declared.Service.{Service}
use Rattle.events.specs.declared.Event.{Event}
use Rattle.events.specs.declared.Event.TheVariants.{Key, Call, Poll, TimeOut, Empty, Restart, Scan}
use Rattle.events.specs.declared.Outcome.{Outcome}
use Rattle.state.specs.State.{make_of}
use Rattle.events.specs.Step.{step_of}
use Rattle.events.specs.Controller.{port_step_of}
use Rattle.report.specs.Reported.{report_length}
use Rattle.report.proofs.BufferLaws.{short_refused}
use Rattle.image.specs.declared.Image.{Image}
use Rattle.image_calls.specs.declared.Changed.{Changed}
use Rattle.image_calls.specs.declared.Refused.{Refused}
use Rattle.image.specs.Image.{image_of, service_of}
use Rattle.image_calls.specs.Exports.{shown_to_c, changed_by, step_in, refused_in, recognised, tagged_in, framed_in, tried_in, reported_as, written_as, make_to}
use Rattle.image_calls.specs.PortCalls.{port_to}
use Rattle.image_calls.specs.ExportLaws.{TagsRecognised, Leaves, UnknownRefused}

pub tags_recognised : TagsRecognised
unfolding recognised when◌then◌else◌
tags_recognised (Key byte) = refl
tags_recognised (Call function a b) = refl
tags_recognised Poll = refl
tags_recognised TimeOut = refl
tags_recognised Empty = refl
tags_recognised Restart = refl
tags_recognised (Scan byte) = refl

-- ---- what a refusal leaves

outcome_leaves : (image : Image) (outcome : Outcome) → ltb 0x7F (changed_by image outcome).shown.ans ≡ true → (changed_by image outcome).image ≡ image
outcome_leaves image outcome =
    by_test (λ (changed : Changed). ltb 0x7F changed.shown.ans ≡ true → changed.image ≡ image) (ltb 0x7F (shown_to_c outcome).ans)
    (record { image = image; shown = shown_to_c outcome }) (record { image = image_of outcome.service; shown = shown_to_c outcome })
    (λ _ _. refl) (λ accepted refused. absurd (true≢false (sym refused ∙ accepted)))

step_leaves : (image : Image) (event : Event) → ltb 0x7F (step_in image event).shown.ans ≡ true → (step_in image event).image ≡ image
unfolding step_in
step_leaves image event = outcome_leaves image (step_of (service_of image) event)

port_leaves : (image : Image) (event : PortEvent) → ltb 0x7F (port_to image event).shown.shown.ans ≡ true → (port_to image event).image ≡ image
unfolding port_to
port_leaves image event = outcome_leaves image (port_step_of (service_of image) event).outcome

tagged_leaves : (image : Image) (event : Option Event) → ltb 0x7F (tagged_in image event).shown.ans ≡ true → (tagged_in image event).image ≡ image
unfolding refused_in
tagged_leaves image None refused = refl
tagged_leaves image (Some event) refused = step_leaves image event refused

framed_leaves : (image : Image) (read : Result ℕ Fault) → ltb 0x7F (framed_in image read).shown.ans ≡ true → (framed_in image read).image ≡ image
unfolding refused_in
framed_leaves image (Ok byte) refused = step_leaves image (Key byte) refused
framed_leaves image (Err fault) refused = refl

tried_leaves : (image : Image) (refusal : ℕ) (after : Service) → (tried_in image refusal after).refusal ≢ 0 → (tried_in image refusal after).image ≡ image
unfolding tried_in
tried_leaves image refusal after =
    by_test (λ (tried : Refused). tried.refusal ≢ 0 → tried.image ≡ image) _ _ _ (λ _ refused. absurd (refused refl)) (λ _ _. refl)

report_leaves : (image : Image) (event : Option Event) (buffer : List ℕ) → (reported_as image event buffer).refusal ≢ 0 → (reported_as image event buffer).image ≡ image
report_leaves image None buffer refused = refl
report_leaves image (Some event) buffer refused = tried_leaves image _ _ refused

short_leaves : (image : Image) (event : Option Event) (buffer : List ℕ) → length buffer < report_length → written_as image event buffer ≡ buffer
short_leaves image None buffer short = refl
short_leaves image (Some event) buffer short = (short_refused (service_of image) event buffer short).unwritten

make_leaves : (set : CodeSet) (image : Image) (bits : ℕ) → 15 < bits → make_to set image bits ≡ record { image = image; refusal = 1 }
unfolding make_of tried_in when◌then◌else◌
make_leaves set image bits above = simp (lt-ltb _ _ above)

pub leaves : Leaves
leaves = record {
  make = make_leaves;
  event = λ image tagged. tagged_leaves image (recognised tagged);
  frame = λ image frame. framed_leaves image (read_frame frame);
  port = port_leaves;
  report = λ image tagged. report_leaves image (recognised tagged);
  short = λ image tagged. short_leaves image (recognised tagged);
}

pub unknown_refused : UnknownRefused
unfolding refused_in
unknown_refused image tagged buffer unknown = record { ans = rw unknown; word = rw unknown; result = rw unknown; unwritten = rw unknown }
