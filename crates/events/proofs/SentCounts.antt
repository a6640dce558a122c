-- `sent` counts the bytes that the answers of a list show as sent, at most six, at most three for each byte.
-- Assumes nothing.
use Prim.Native.Nat.{ℕ, ◌+◌, ◌≤◌}
use native.Mathlib.Omega.{arith}
use mathlib.Core.Bool.{false}
use mathlib.Core.Path.{◌≡◌, refl, ap, sym, ◌∙◌}
use mathlib.Core.List.{List, [], ◌∷◌, map}
use lib.Dec.{lit≤}
use Rattle.bits.proofs.Tests.{not_both}
use Rattle.line.specs.declared.Outcome.{Outcome as LineOutcome}
use Rattle.line.specs.declared.Line.{Line}
use Rattle.line.specs.declared.Phase.{Phase}
use Rattle.line.specs.declared.Phase.TheVariants.{Idle, Awaiting, Ready}
use Rattle.line.specs.State.{new_line, wait_rate_of, sent_in, sent_of}
use Rattle.line.specs.Inputs.{Input, line_after, sent_at}
use Rattle.line.specs.Inputs as input
use Rattle.line.specs.Poll as poll
use Rattle.line.specs.Laws.{Within, sends_by, Counts, CarriedIn}
use Rattle.line.specs.Turns.{bytes_at}
use Rattle.line.proofs.Within.{new_within, kept}
use Rattle.line.proofs.Counts.{true_counts, sent_most}
use Rattle.translation.specs.declared.CodeSet.{CodeSet}
use Rattle.controller.specs.declared.PortEvent.{PortEvent}
use Rattle.state.specs.declared.Service.{Service}
use Rattle.events.specs.declared.Event.{Event}
use Rattle.events.specs.declared.Event.TheVariants.{Key, Call, Poll, TimeOut, Empty, Restart, Scan}
use Rattle.answers.specs.declared.Answer.TheVariants.{Taken, Done}
use Rattle.events.specs.declared.Outcome.{Outcome}
use Rattle.state.specs.State.{new_service, with_line}
use Rattle.events.specs.Outcomes.{answered_of}
use Rattle.events.specs.Commands.{led_value, on_line, poll_of, restart_of}
use Rattle.events.specs.Step.{step_of}
use Rattle.events.specs.Run.{Shown, shown_of, next, run, after}
use Rattle.events.specs.Sent.{bytes_shown, count_at, carried_on, counts_of, SentIsCounted, SentAtMostSix, ThreeSendsEach}
use Rattle.events.specs.Controller.{port_step_of}
use Rattle.events.specs.ControllerLaws.{is_restart}
use Rattle.events.proofs.LineInputs.{IsReply, Silent, bytes_in, none_shown, bytes_of_line, Beside, nothing, replies, Gives, beside, polls, restarts, accepts, gives, port_gives}

-- an event's count is the one before it and the byte that it shows as sent, and goes on with the command
pub record Right (service : Service) (outcome : Outcome) : Type 0 where
  pub sent : outcome.sent ≡ sent_of service.line + bytes_shown (shown_of outcome)
  pub most : outcome.sent ≤ 6
  pub carried : carried_on outcome.service.line.phase outcome.sent ≡ sent_of outcome.service.line
  pub within : Within outcome.service.line

-- ---- by what the line is given

carried_in : (phase : Phase) (count : ℕ) → CarriedIn phase count → carried_on phase count ≡ sent_in phase
unfolding sent_in
carried_in (Idle turn) count h = refl
carried_in (Awaiting command) count h = sym h
carried_in (Ready command) count h = sym h

goes_on : (phase : Phase) → carried_on phase (sent_in phase) ≡ sent_in phase
unfolding sent_in
goes_on (Idle turn) = refl
goes_on (Awaiting command) = refl
goes_on (Ready command) = refl

-- the line is as it was, and its count stands
beside_right : (service : Service) (outcome : Outcome) → outcome.service.line.phase ≡ service.line.phase → outcome.sent ≡ sent_of service.line →
    Silent outcome.answer → Within service.line → Right service outcome
unfolding sent_of
beside_right service outcome l s h w =
    record {
      sent = let none = none_shown outcome.answer h in omega arith;
      most = let six = sent_most service.line w in omega arith;
      carried = rw (l, s) (goes_on service.line.phase);
      within = rw l w;
    }

-- the line counts what it sends
line_right : (service : Service) (outcome : Outcome) (o : LineOutcome) → outcome.service.line ≡ o.line → outcome.sent ≡ o.sent →
    bytes_in outcome.answer ≡ sends_by o.answer → Counts service.line o → Within o.line → Right service outcome
unfolding sent_of
line_right service outcome o l s b c w =
    record {
      sent = rw (s, b) c.shown;
      most = rw s c.most;
      carried = rw (l, s) (carried_in o.line.phase o.sent c.carried);
      within = rw l w;
    }

reply_right : (service : Service) (outcome : Outcome) (i : Input) → IsReply i → outcome.service.line ≡ line_after service.line i →
    outcome.sent ≡ sent_at service.line i → bytes_in outcome.answer ≡ bytes_at service.line i → Within service.line → Right service outcome
reply_right service outcome input.acknowledge r l s b w =
    line_right service outcome _ l s b (true_counts service.line w).acknowledge (kept service.line input.acknowledge w)
reply_right service outcome input.resend r l s b w =
    line_right service outcome _ l s b (true_counts service.line w).resend (kept service.line input.resend w)
reply_right service outcome input.time_out r l s b w =
    line_right service outcome _ l s b (true_counts service.line w).time_out (kept service.line input.time_out w)
reply_right service outcome (input.poll led) r l s b w = absurd r
reply_right service outcome input.restart r l s b w = absurd r
reply_right service outcome (input.wait_rate rate) r l s b w = absurd r

any_beside_right : (service : Service) (outcome : Outcome) → Within service.line → Beside service.line outcome → Right service outcome
any_beside_right service outcome w (nothing l s h) = beside_right service outcome (ap (λ (line : Line). line.phase) l) s h w
any_beside_right service outcome w (replies i r l s b h) = reply_right service outcome i r l s b w

poll_right : (service : Service) → Within service.line → Right service (poll_of service)
unfolding poll_of on_line
poll_right service w =
    let led = led_value service.shared.locks in
    let o = poll.poll_of service.line led in
    line_right service (poll_of service) o refl refl (bytes_of_line o.answer Taken (record { silent = refl })) ((true_counts service.line w).poll led)
    (kept service.line (input.poll led) w)

accepted_right : (service : Service) (rate : ℕ) → Within service.line → Right service (answered_of (with_line service (wait_rate_of service.line rate)) Done)
unfolding answered_of wait_rate_of sent_of
accepted_right service rate w = beside_right service _ refl refl (record { silent = refl }) w

event_right : (service : Service) (event : Event) (outcome : Outcome) → is_restart event ≡ false → Within service.line → Gives service event outcome → Right service outcome
event_right service event outcome other w (beside how) = any_beside_right service outcome w how
event_right service event outcome other w (polls is e) = rw e (poll_right service w)
event_right service event outcome other w (restarts is e) = not_both (ap is_restart is) other
event_right service event outcome other w (accepts delay rate is e) = rw e (accepted_right service _ w)

-- ---- every event

-- the count of an event, R's included
pub record Counted (service : Service) (event : Event) : Type 0 where
  pub count : (step_of service event).sent ≡ count_at (sent_of service.line) event (shown_of (step_of service event))
  pub most : (step_of service event).sent ≤ 6
  pub carried : carried_on (next service event).line.phase (step_of service event).sent ≡ sent_of (next service event).line
  pub within : Within (next service event).line

restart_carries : carried_on new_line.phase 0 ≡ sent_of new_line
unfolding new_line sent_of sent_in
restart_carries = refl

-- what no R does is counted by the byte that it shows
by_byte : (service : Service) (event : Event) → is_restart event ≡ false →
    ((shown : Shown) → count_at (sent_of service.line) event shown ≡ sent_of service.line + bytes_shown shown) → Within service.line → Counted service event
by_byte service event other adds w =
    let r = event_right service event (step_of service event) other w (gives service event) in
    record { count = r.sent ∙ sym (adds (shown_of (step_of service event))); most = r.most; carried = r.carried; within = r.within }

pub step_counted : (service : Service) (event : Event) → Within service.line → Counted service event
unfolding step_of restart_of
step_counted service (Key byte) w = by_byte service (Key byte) refl (λ _. refl) w
step_counted service (Call function a b) w = by_byte service (Call function a b) refl (λ _. refl) w
step_counted service Poll w = by_byte service Poll refl (λ _. refl) w
step_counted service TimeOut w = by_byte service TimeOut refl (λ _. refl) w
step_counted service Empty w = by_byte service Empty refl (λ _. refl) w
step_counted service Restart w = record { count = refl; most = lit≤ tt; carried = restart_carries; within = new_within }
step_counted service (Scan byte) w = by_byte service (Scan byte) refl (λ _. refl) w

pub port_right : (service : Service) (event : PortEvent) → Within service.line → Right service (port_step_of service event).outcome
port_right service event w = any_beside_right service (port_step_of service event).outcome w (port_gives service event)

-- one event of a list, by the count before it
pub record CountedOn (service : Service) (earlier : ℕ) (event : Event) : Type 0 where
  pub count : (step_of service event).sent ≡ count_at earlier event (shown_of (step_of service event))
  pub later : sent_of (next service event).line ≡ carried_on (next service event).line.phase (count_at earlier event (shown_of (step_of service event)))
  pub within : Within (next service event).line

pub counted_on : (service : Service) (earlier : ℕ) (event : Event) → Within service.line → sent_of service.line ≡ earlier → CountedOn service earlier event
counted_on service earlier event w e =
    let step = step_counted service event w in
    let now = step.count ∙ ap (λ (n : ℕ). count_at n event (shown_of (step_of service event))) e in
    record { count = now; later = sym step.carried ∙ ap (carried_on (next service event).line.phase) now; within = step.within }

-- ---- lists

counted : (service : Service) (earlier : ℕ) (events : List Event) → Within service.line → sent_of service.line ≡ earlier
    → map (λ (s : Shown). s.sent) (run service events) ≡ counts_of service earlier events
counted service earlier [] w e = refl
counted service earlier (event ∷ more) w e =
    let step = counted_on service earlier event w e in
    let count = count_at earlier event (shown_of (step_of service event)) in
    ap (λ (n : ℕ). n ∷ map (λ (s : Shown). s.sent) (run (next service event) more)) step.count
    ∙ ap (◌∷◌ count) (counted (next service event) _ more step.within step.later)

within_after : (service : Service) (events : List Event) → Within service.line → Within (after service events).line
within_after service [] w = w
within_after service (event ∷ more) w = within_after (next service event) more (step_counted service event w).within

pub within_new : (set : CodeSet) (locks : ℕ) → Within (new_service set locks).line
unfolding new_service
within_new set locks = new_within

pub three_sends_each : ThreeSendsEach
three_sends_each set locks events = within_after (new_service set locks) events (within_new set locks)

pub sent_at_most_six : SentAtMostSix
sent_at_most_six set locks events event = (step_counted (after (new_service set locks) events) event (three_sends_each set locks events)).most

pub sent_is_counted : SentIsCounted
unfolding new_service new_line sent_of sent_in
sent_is_counted set locks events = counted (new_service set locks) 0 events new_within refl
