-- The proof of `image_events::event`.
-- Assumes nothing.
use Prim.Native.Nat.{◌<◌, ◌≤◌}
use mathlib.Core.Path.{◌≡◌, subst}
use Rattle.image.specs.Image.{bare_service_of}
use Rattle.image_calls.specs.declared.Shown.{Shown}
use Rattle.image_calls.specs.Exports.{recognised, event_run, ran_of}
use Rattle.image_calls.proofs.Beside.{left_on}
use Rattle.image_calls.proofs.Events.{refused_event, accepted_event}
use borrow.Author.Rules.{rules}
use Rattle.image_events.proofs.event.Goals as goal

pub returns-then-shown-gt127 : goal.returns-then-shown-gt127
returns-then-shown-gt127 c =
    let a = c.args in
    let event = recognised a.tagged in
    let is : c.run-ran.result ≡ ran_of (bare_service_of a.image) event =
    rw (← c.service_of-service.ensures, ← c.recognise-event.ensures) c.run-ran.ensures in
    let left : c.image_of-next.result ≡ left_on a.image (event_run event) c.run-ran.result.service =
    simp (c.image_of-next.ensures, c.controller_after-controller.ensures, c.event_in.ensures, c.recognise-event.ensures) in
    let shows = rw left at c.shown_with-shown.ensures in
    rw shows (refused_event a.image event c.run-ran.result is (subst (λ (s : Shown). 0x7F < s.ans) shows c.if-shown-gt127.true))

pub returns : goal.returns
returns c =
    let a = c.args in
    let event = recognised a.tagged in
    let is : c.run-ran.result ≡ ran_of (bare_service_of a.image) event =
    rw (← c.service_of-service.ensures, ← c.recognise-event.ensures) c.run-ran.ensures in
    let left : c.image_of-next.result ≡ left_on a.image (event_run event) c.run-ran.result.service =
    simp (c.image_of-next.ensures, c.controller_after-controller.ensures, c.event_in.ensures, c.recognise-event.ensures) in
    let shows = rw left at c.shown_with-shown.ensures in
    rw (shows, left) (accepted_event a.image event c.run-ran.result is (subst (λ (s : Shown). s.ans ≤ 0x7F) shows c.if-shown-gt127.false))
