-- What one item does for a command that is wanted, by the input that it gives the line and the line's own law of turns.
-- Assumes nothing.
use Prim.Native.Nat.{ℕ, ◌+◌, ◌≤◌}
use native.Mathlib.Omega.{arith}
use mathlib.Core.Bool.{Bool, true, false, ◌&&◌, ◌||◌}
use mathlib.Core.Path.{◌≡◌, refl, ap, sym, subst, ◌∙◌}
use mathlib.Core.List.{List, [], ◌∷◌, ◌++◌}
use lib.Dec.{eqb}
use borrow.Author.Tests.{eqb-true}
use Rattle.bits.specs.Choice.{when◌then◌else◌}
use Rattle.bits.proofs.Choice.{by_test}
use Rattle.bits.proofs.Tests.{not_both}
use Rattle.line.specs.declared.Kind.{Kind}
use Rattle.line.specs.declared.Kind.TheVariants.{Led, Rate}
use Rattle.line.specs.declared.Line.{Line}
use Rattle.line.specs.declared.Answer.{Answer as LineAnswer}
use Rattle.line.specs.declared.Answer.TheVariants as line-answer
use Rattle.line.specs.declared.Outcome.{Outcome as LineOutcome}
use Rattle.line.specs.State.{wait_rate_of}
use Rattle.line.specs.Poll.{first_byte_of, one_more_of, due_of, counted_of, send_of, start_of}
use Rattle.line.specs.Poll as line
use Rattle.line.specs.Inputs.{Input, poll, acknowledge, resend, time_out, restart, wait_rate, line_after}
use Rattle.line.specs.Laws.{Within, sends_by}
use Rattle.line.specs.Turns as turns
use Rattle.line.specs.Turns.{Wanted, Begun, ahead_of, SendsFirst}
use Rattle.line.proofs.Turns.{comes_to_its_turn}
use Rattle.state.specs.declared.Service.{Service}
use Rattle.answers.specs.declared.Answer.TheVariants.{Taken}
use Rattle.events.specs.declared.Event.{Event}
use Rattle.events.specs.declared.Event.TheVariants.{Poll, Restart}
use Rattle.events.specs.declared.Outcome.{Outcome}
use Rattle.events.specs.Commands.{led_value, on_line, poll_of}
use Rattle.events.specs.Outcomes.{answered_of}
use Rattle.events.specs.Step.{step_of}
use Rattle.events.specs.Sets.{change_of}
use Rattle.events.specs.Controller.{port_step_of}
use Rattle.events.specs.Run.{Shown, shown_of}
use Rattle.events.specs.Sent.{bytes_shown}
use Rattle.events.proofs.LineInputs.{IsReply, Silent, bytes_of_line, Beside, nothing, replies, Gives, beside, polls, restarts, accepts, gives, port_gives}
use Rattle.report.specs.Report.{report_of}
use Rattle.report.specs.Reported.{refusal_in}
use Rattle.lists.specs.Items.{Item, runs, Stepped, step_item}
use Rattle.lists.specs.Turns.{is_first, bytes_before, AcceptsRate, Keeps, shown_by, shows_first, Fate, starts, waits}
use Rattle.lists.proofs.ItemLaws.{by_item, event_shown, port_shown_lem}

-- ---- 1. what is shown

abbrev pub bytes_in : List Shown → ℕ
bytes_in [] = 0
bytes_in (shown ∷ more) = bytes_shown shown + bytes_in more

-- an answer that sends no byte
module _ (kind : Kind) (outcome : Outcome) (h : Silent outcome.answer) where
  silent_first : shows_first kind (shown_of outcome ∷ []) ≡ false
  silent_first = rw h.silent refl

  silent_bytes : bytes_in (shown_of outcome ∷ []) ≡ 0
  unfolding when◌then◌else◌
  silent_bytes = rw h.silent refl

-- bytes count up to the first byte of the command, and behind all else
pub before_first : (kind : Kind) (shown : Shown) (more : List Shown) → is_first kind shown ≡ true → bytes_before kind (shown ∷ more) ≡ 0
unfolding when◌then◌else◌
before_first kind shown more h = rw h refl

pub before_others : (kind : Kind) (shown more : List Shown) → shows_first kind shown ≡ false → bytes_before kind (shown ++ more) ≤ bytes_in shown + bytes_before kind more
before_others kind [] more h = omega arith
before_others kind (one ∷ shown) more h =
    by_test (λ (n : ℕ). n ≤ bytes_shown one + bytes_in shown + bytes_before kind more) (is_first kind one) _ _ (λ _. omega arith)
    (λ t. let later = before_others kind shown more (rw t at h) in omega arith)

pub both_true : (t u : Bool) → (t && u) ≡ true → (t ≡ true) × (u ≡ true)
both_true true u h = (refl, h)
both_true false u h = not_both h refl

-- a poll shows a first byte exactly where the line sends one
first_sends : (kind : Kind) (service : Service) (line : Line) (answer : LineAnswer) (sent : ℕ) → let o : LineOutcome = record { line = line; answer = answer; sent = sent } in
    is_first kind (shown_of (on_line service o Taken)) ≡ true → SendsFirst kind o
unfolding on_line
first_sends kind service line (line-answer.Send byte) sent h =
    let tests = both_true (eqb byte (first_byte_of kind)) (eqb sent 1) h in
    record { answer = ap line-answer.Send (eqb-true byte (first_byte_of kind) tests.0); sent = eqb-true sent 1 tests.1 }
first_sends kind service line line-answer.Quiet sent h = not_both h refl
first_sends kind service line line-answer.Taken sent h = not_both h refl
first_sends kind service line line-answer.Ignored sent h = not_both h refl
first_sends kind service line line-answer.GivenUp sent h = not_both h refl

start_shown : (kind : Kind) (operand : ℕ) (service : Service) → is_first kind (shown_of (on_line service (start_of service.line kind operand) Taken)) ≡ true
unfolding on_line start_of send_of due_of counted_of one_more_of first_byte_of when◌then◌else◌
start_shown Led operand service = refl
start_shown Rate operand service = refl

-- ---- 2. what an item does for a wanted command

pub data Step (kind : Kind) (operand : ℕ) (line : Line) (stepped : Stepped) : Type 0 where
  begins :
      (shown : Shown) → shown_by stepped ≡ shown ∷ [] → is_first kind shown ≡ true → stepped.ran ≡ runs Poll ∷ [] →
      stepped.service.line ≡ (start_of line kind operand).line → Step kind operand line stepped
  goes :
      Wanted kind operand stepped.service.line → shows_first kind (shown_by stepped) ≡ false →
      bytes_in (shown_by stepped) + ahead_of kind stepped.service.line ≤ ahead_of kind line → Step kind operand line stepped

keeps_reply : (kind : Kind) (operand : ℕ) (input : Input) → IsReply input → turns.Keeps kind operand input
keeps_reply Led operand acknowledge r = tt
keeps_reply Led operand resend r = tt
keeps_reply Led operand time_out r = tt
keeps_reply Led operand (poll led) r = absurd r
keeps_reply Led operand restart r = absurd r
keeps_reply Led operand (wait_rate rate) r = absurd r
keeps_reply Rate operand acknowledge r = tt
keeps_reply Rate operand resend r = tt
keeps_reply Rate operand time_out r = tt
keeps_reply Rate operand (poll led) r = absurd r
keeps_reply Rate operand restart r = absurd r
keeps_reply Rate operand (wait_rate rate) r = absurd r

-- what a list keeps, the line's law asks for
keeps_poll : (kind : Kind) (operand : ℕ) (service : Service) (stepped : Stepped) → stepped.ran ≡ runs Poll ∷ [] → Keeps kind operand service stepped →
    turns.Keeps kind operand (poll (led_value service.shared.locks))
keeps_poll Led operand service stepped ran k = k.locks ran
keeps_poll Rate operand service stepped ran k = tt

keeps_rate : (kind : Kind) (operand : ℕ) (service : Service) (stepped : Stepped) (rate : ℕ) → AcceptsRate stepped → Keeps kind operand service stepped →
    turns.Keeps kind operand (wait_rate rate)
keeps_rate Led operand service stepped rate a k = tt
keeps_rate Rate operand service stepped rate a k = absurd (k.no_rate a)

not_restarted : (kind : Kind) (operand : ℕ) (service : Service) (stepped : Stepped) → stepped.ran ≡ runs Restart ∷ [] → Keeps kind operand service stepped → ⊥
not_restarted Led operand service stepped ran k = k.no_restart ran
not_restarted Rate operand service stepped ran k = k.no_restart ran

none_first : (t : Bool) → (t ≡ true → ⊥) → (t || false) ≡ false
none_first true h = absurd (h refl)
none_first false h = refl

module _ (kind : Kind) (operand : ℕ) (service : Service) (w : Within service.line) (b : Begun service.line) (h : Wanted kind operand service.line) where
  abbrev ahead : ℕ
  ahead = ahead_of kind service.line

  -- an input that is no poll leaves it wanted
  abbrev Waits : Line → Type 0
  Waits line = Wanted kind operand line × (ahead_of kind line ≤ ahead)

  not_polled : (input : Input) → ((led : ℕ) → input ≡ poll led → ⊥) → turns.Fate kind operand service.line input → Waits (line_after service.line input)
  not_polled input other (turns.starts led is e) = absurd (other led is)
  not_polled input other (turns.waits wanted not_first falls) = (wanted, omega (arith, falls))

  silent_step : (outcome : Outcome) (stepped : Stepped) → stepped.service.line ≡ outcome.service.line → shown_by stepped ≡ shown_of outcome ∷ [] →
      Silent outcome.answer → Waits outcome.service.line → Step kind operand service.line stepped
  silent_step outcome stepped l s silent (wanted, most) =
      goes (rw l wanted) (rw s (silent_first kind outcome silent))
      (rw (l, s) (let none = silent_bytes kind outcome silent in omega arith))

  reply_waits : (input : Input) → IsReply input → Waits (line_after service.line input)
  reply_waits input r =
      not_polled input (λ led is. subst IsReply is r) (comes_to_its_turn kind operand service.line input w b h (keeps_reply kind operand input r))

  beside_waits : (outcome : Outcome) → Beside service.line outcome → Waits outcome.service.line × Silent outcome.answer
  beside_waits outcome (nothing l sent silent) = (rw l (h, omega arith), silent)
  beside_waits outcome (replies input r l sent bytes silent) = (rw l (reply_waits input r), silent)

  beside_step : (outcome : Outcome) (stepped : Stepped) → stepped.service.line ≡ outcome.service.line → shown_by stepped ≡ shown_of outcome ∷ [] →
      Beside service.line outcome → Step kind operand service.line stepped
  beside_step outcome stepped l s how = let left = beside_waits outcome how in silent_step outcome stepped l s left.1 left.0

  poll_step : (stepped : Stepped) → let led = led_value service.shared.locks in
      stepped.ran ≡ runs Poll ∷ [] → stepped.service.line ≡ (poll_of service).service.line → shown_by stepped ≡ shown_of (poll_of service) ∷ [] →
      turns.Fate kind operand service.line (poll led) → Step kind operand service.line stepped
  unfolding poll_of on_line
  poll_step stepped ran l s (turns.starts led is e) =
      let same : led_value service.shared.locks ≡ led = cc is in
      let start : line.poll_of service.line (led_value service.shared.locks) ≡ start_of service.line kind operand = rw same e in
      begins (shown_of (poll_of service)) s
      (subst (λ (o : LineOutcome). is_first kind (shown_of (on_line service o Taken)) ≡ true) (sym start) (start_shown kind operand service))
      ran (l ∙ ap (λ (o : LineOutcome). o.line) start)
  poll_step stepped ran l s (turns.waits wanted not_first falls) =
      let o = line.poll_of service.line (led_value service.shared.locks) in
      let bytes : bytes_shown (shown_of (on_line service o Taken)) ≡ sends_by o.answer = bytes_of_line o.answer Taken (record { silent = refl }) in
      goes (rw l wanted) (rw s (none_first _ (λ t. not_first (first_sends kind service o.line o.answer o.sent t)))) (rw (l, s) (omega (arith, falls)))

  rate_waits : (stepped : Stepped) (rate : ℕ) → AcceptsRate stepped → Keeps kind operand service stepped → Waits (wait_rate_of service.line rate)
  rate_waits stepped rate a k =
      not_polled (wait_rate rate) (λ led is. let z : ◌≡◌ {A = ℕ} 0 1 = cc in omega arith)
      (comes_to_its_turn kind operand service.line (wait_rate rate) w b h (keeps_rate kind operand service stepped rate a k))

  event_step : (event : Event) (outcome : Outcome) (stepped : Stepped) → stepped.service.line ≡ outcome.service.line → stepped.ran ≡ runs event ∷ [] →
      stepped.seen.refusal ≡ refusal_in (shown_of outcome).ans → shown_by stepped ≡ shown_of outcome ∷ [] →
      Keeps kind operand service stepped → Gives service event outcome → Step kind operand service.line stepped
  unfolding answered_of
  event_step event outcome stepped l ran refusal s k (beside how) = beside_step outcome stepped l s how
  event_step event outcome stepped l ran refusal s k (polls is e) =
      let polled : stepped.ran ≡ runs Poll ∷ [] = ran ∙ ap (λ (one : Event). runs one ∷ []) is in
      poll_step stepped polled (l ∙ ap (λ (o : Outcome). o.service.line) e) (s ∙ ap (λ (o : Outcome). shown_of o ∷ []) e)
      (comes_to_its_turn kind operand service.line _ w b h (keeps_poll kind operand service stepped polled k))
  event_step event outcome stepped l ran refusal s k (restarts is e) =
      absurd (not_restarted kind operand service stepped (ran ∙ ap (λ (one : Event). runs one ∷ []) is) k)
  event_step event outcome stepped l ran refusal s k (accepts delay rate is e) =
      let a : AcceptsRate stepped =
      record {
        delay = delay;
        rate = rate;
        ran = ran ∙ ap (λ (one : Event). runs one ∷ []) is;
        refusal = refusal ∙ ap (λ (o : Outcome). refusal_in (shown_of o).ans) e;
      } in
      silent_step outcome stepped l s (rw e (record { silent = refl })) (rw e (rate_waits stepped _ a k))

  pub item_step : (item : Item) → Keeps kind operand service (step_item service item) → Step kind operand service.line (step_item service item)
  unfolding step_item change_of answered_of report_of when◌then◌else◌
  item_step =
      by_item (λ (stepped : Stepped). Keeps kind operand service stepped → Step kind operand service.line stepped) service
      (λ event k. event_step event (step_of service event) _ refl refl refl (event_shown service event) k (gives service event))
      (λ buffer k. goes h refl (omega arith))
      (λ event buffer k. event_step event (step_of service event) _ refl refl refl (event_shown service event) k (gives service event))
      (λ number above k. goes h (simp above) (simp above (omega arith)))
      (λ set k. beside_step (change_of service set) _ refl refl (nothing refl refl (record { silent = refl })))
      (λ event accepted k. beside_step (port_step_of service event).outcome _ refl (port_shown_lem service event accepted) (port_gives service event))
