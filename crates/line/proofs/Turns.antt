-- A due LED value and a waiting rate come to their turn, behind 11 bytes at most.
-- Assumes nothing.
use Rattle.std.specs.Prelude.{Option, None, Some}
use Prim.Native.Nat.{ℕ, ◌+◌, ◌-◌, ◌≤◌}
use native.Mathlib.Omega.{arith}
use mathlib.Core.Bool.{Bool, true, false}
use mathlib.Core.Path.{◌≡◌, refl, ap, sym, ◌∙◌}
use Rattle.bits.specs.Choice.{when◌then◌else◌}
use Rattle.bits.proofs.Choice.{either}
use Rattle.line.specs.State.{new_line, wait_rate_of, is_led_of, other_of, is_value_of, unchanged_of}
use Rattle.line.specs.Poll.{waiting_of, unhandled_of, first_of, in_turn_of, next_of, one_more_of, first_byte_of, due_of, counted_of, send_of, rate_left_of, start_of, poll_of}
use Rattle.line.specs.Reply.{mark_acknowledged_of, mark_resend_of, mark_done_of, mark_abandoned_of, operand_of, ended_of, failed_of, reply_in, acknowledge_of, resend_of, time_out_of}
use Rattle.line.specs.Inputs.{Input, poll, acknowledge, resend, time_out, restart, wait_rate, line_after}
use Rattle.line.specs.Laws.{Counted, WithinIn, Within, sends_by, LedValueNow}
use Rattle.line.specs.Turns.{left_in, turn_in, first_in_turn, ahead_of, BegunIn, Begun, StaysBegun, ElevenAhead, started_in, started_of, Wanted, Keeps, SendsFirst, Fate, starts, waits, ComesToItsTurn}
use Rattle.line.specs.declared.Kind.{Kind}
use Rattle.line.specs.declared.Kind.TheVariants.{Led, Rate}
use Rattle.line.specs.declared.Command.{Command}
use Rattle.line.specs.declared.Phase.{Phase}
use Rattle.line.specs.declared.Phase.TheVariants.{Idle, Awaiting, Ready}
use Rattle.line.specs.declared.Line.{Line}
use Rattle.line.specs.declared.Answer.TheVariants.{Quiet}
use Rattle.line.specs.declared.Outcome.{Outcome}
use Rattle.line.proofs.Cases.{same_start, poll_cases, acknowledge_cases, failed_cases}
use Rattle.line.proofs.Within.{one_more, sent_below}

-- ---- 1. all but the start of a command: a send takes one of the bytes that are left, nothing adds any, and what is wanted stays so

record GoesOn (line : Line) (outcome : Outcome) : Type 0 where
  left : sends_by outcome.answer + left_in outcome.line.phase ≤ left_in line.phase
  turn : turn_in outcome.line.phase ≡ turn_in line.phase
  rate : outcome.line.rate ≡ line.rate
  started : started_of outcome.line ≡ started_of line

-- a LED command that is done is marked so, and nothing else changes
record Alike (line later : Line) : Type 0 where
  handled : later.handled ≡ line.handled
  rate : later.rate ≡ line.rate

marked_done : (line : Line) (command : Command) → Alike line (mark_done_of line command)
unfolding mark_done_of
marked_done line command =
    let same : Alike line line = record { handled = refl; rate = refl } in
    either (Alike line) (is_led_of command.kind) _ _ (record { handled = refl; rate = refl }) same

-- nothing that a reply makes of a command changes the LED value started last
stays_started : (line : Line) (handled : Option ℕ) (command : Command) → line.phase ≡ Awaiting command → handled ≡ line.handled →
    started_in handled (Awaiting command) ≡ started_of line
stays_started line handled command e h = ap (λ (s : Option ℕ). started_in s (Awaiting command)) h ∙ ap (started_in line.handled) (sym e)

stays_turn : (line : Line) (command : Command) → line.phase ≡ Awaiting command → other_of command.kind ≡ turn_in line.phase
stays_turn line command e = sym (ap turn_in e)

module _ (line : Line) where
  quiet_goes : GoesOn line (unchanged_of line Quiet)
  unfolding unchanged_of
  quiet_goes = record { left = omega arith; turn = refl; rate = refl; started = refl }

  send_goes : (command : Command) → line.phase ≡ Ready command → Within line → GoesOn line (send_of line command)
  unfolding send_of counted_of
  send_goes command e h =
      let k : Counted command 2 = rw e at h in
      let one : one_more_of command.sends 3 ≡ command.sends + 1 = one_more command.sends 3 (omega (arith, k.each)) in
      record { left = simp e (omega (arith, k.each)); turn = simp e; rate = refl; started = simp e }

  acknowledge_goes : GoesOn line (acknowledge_of line)
  unfolding unchanged_of mark_acknowledged_of ended_of operand_of when◌then◌else◌
  acknowledge_goes =
      acknowledge_cases (GoesOn line) line (record { left = omega arith; turn = refl; rate = refl; started = refl })
      (λ command e t.
      let same = marked_done (mark_acknowledged_of line) command in
      record { left = omega arith; turn = stays_turn line command e; rate = same.rate; started = stays_started line _ command e same.handled })
      (λ command e t. record { left = simp (e, t) (omega arith); turn = stays_turn line command e; rate = refl; started = stays_started line _ command e refl })

  failed_goes : (marked : Line) → Alike line marked → GoesOn line (reply_in line (failed_of marked) line.phase)
  unfolding unchanged_of mark_abandoned_of ended_of
  failed_goes marked m =
      failed_cases (GoesOn line) line marked (record { left = omega arith; turn = refl; rate = refl; started = refl })
      (λ command e b. record { left = simp e (omega arith); turn = stays_turn line command e; rate = m.rate; started = stays_started line _ command e m.handled })
      (λ command e b. record { left = omega arith; turn = stays_turn line command e; rate = m.rate; started = stays_started line _ command e m.handled })

  resend_goes : GoesOn line (resend_of line)
  unfolding resend_of mark_resend_of
  resend_goes = failed_goes (mark_resend_of line) (record { handled = refl; rate = refl })

  time_out_goes : GoesOn line (time_out_of line)
  unfolding time_out_of
  time_out_goes = failed_goes line (record { handled = refl; rate = refl })

-- ---- 2. at most eleven are ahead

module _ (line : Line) (h : Begun line) where
  begun_send : (command : Command) → line.phase ≡ Ready command → Within line → Begun (send_of line command).line
  unfolding send_of counted_of
  begun_send command e w =
      let c : Counted command 2 = rw e at w in
      let one : one_more_of command.sent 6 ≡ command.sent + 1 = one_more command.sent 6 (sent_below command c) in
      omega arith

  begun_poll : (led : ℕ) → Within line → Begun (poll_of line led).line
  unfolding unchanged_of start_of send_of counted_of one_more_of when◌then◌else◌
  begun_poll led w =
      poll_cases (λ (o : Outcome). Begun o.line) line led h (λ turn kind value e n. omega arith)
      (λ command e. begun_send command e w)

  begun_acknowledge : Begun (acknowledge_of line).line
  unfolding unchanged_of ended_of operand_of when◌then◌else◌
  begun_acknowledge =
      acknowledge_cases (λ (o : Outcome). Begun o.line) line h (λ command e t. tt)
      (λ command e t. let k : 1 ≤ command.sent = rw e at h in k)

  begun_failed : (marked : Line) → Begun (reply_in line (failed_of marked) line.phase).line
  unfolding unchanged_of ended_of
  begun_failed marked =
      failed_cases (λ (o : Outcome). Begun o.line) line marked h (λ command e b. let k : 1 ≤ command.sent = rw e at h in k) (λ command e b. tt)

  begun_after : (input : Input) → Within line → Begun (line_after line input)
  unfolding new_line wait_rate_of resend_of time_out_of
  begun_after (poll led) w = begun_poll led w
  begun_after acknowledge w = begun_acknowledge
  begun_after resend w = begun_failed (mark_resend_of line)
  begun_after time_out w = begun_failed line
  begun_after restart w = tt
  begun_after (wait_rate rate) w = h

pub stays_begun : StaysBegun
unfolding new_line
stays_begun = record { new = tt; input = λ line input w h. begun_after line h input w }

-- a first byte that was sent has two sends left, and the operand three
five_of : (operand : Bool) (sends sent : ℕ) → 1 ≤ sent → sent ≤ sends + (when operand then 3 else 0) → 3 - sends + (when operand then 0 else 3) ≤ 5
unfolding when◌then◌else◌
five_of true sends sent b c = omega arith
five_of false sends sent b c = omega arith

five_left : (phase : Phase) → WithinIn phase → BegunIn phase → left_in phase ≤ 5
five_left (Idle turn) w h = omega arith
five_left (Awaiting command) w h = five_of command.operand command.sends command.sent h w.all
five_left (Ready command) w h = five_of command.operand command.sends command.sent h w.all

six_in_turn : (kind turn : Kind) → first_in_turn kind turn ≤ 6
six_in_turn Led Led = omega arith
six_in_turn Led Rate = omega arith
six_in_turn Rate Led = omega arith
six_in_turn Rate Rate = omega arith

pub eleven_ahead : ElevenAhead
eleven_ahead kind line w h = omega (arith, five_left line.phase w h, six_in_turn kind (turn_in line.phase))

-- ---- 3. which command starts, of a LED value that is due or not and a rate that waits or not

-- a LED command has the value of its poll
led_operand : (turn : Kind) (handled rate : Option ℕ) (led value : ℕ) → in_turn_of turn (unhandled_of handled led) (waiting_of rate) ≡ Some (Led, value) → value ≡ led
unfolding unhandled_of in_turn_of first_of waiting_of
led_operand turn handled rate led value =
    either (λ (n : Option (Kind × ℕ)). in_turn_of turn n (waiting_of rate) ≡ Some (Led, value) → value ≡ led) (is_value_of handled led) _ _ (alone turn rate) (there turn rate)
  where
    alone : (turn : Kind) (rate : Option ℕ) → in_turn_of turn None (waiting_of rate) ≡ Some (Led, value) → value ≡ led
    alone Led None e = cc
    alone Led (Some r) e = let z = (same_start e).0 in cc
    alone Rate None e = cc
    alone Rate (Some r) e = let z = (same_start e).0 in cc

    there : (turn : Kind) (rate : Option ℕ) → in_turn_of turn (Some (Led, led)) (waiting_of rate) ≡ Some (Led, value) → value ≡ led
    there Led rate e = sym (same_start e).1
    there Rate None e = sym (same_start e).1
    there Rate (Some r) e = let z = (same_start e).0 in cc

pub led_value_now : LedValueNow
unfolding next_of
led_value_now line turn led value e = led_operand turn line.handled line.rate led value e

-- a rate's command has the rate that waits
rate_operand : (turn : Kind) (handled : Option ℕ) (led rate value : ℕ) → in_turn_of turn (unhandled_of handled led) (Some (Rate, rate)) ≡ Some (Rate, value) → value ≡ rate
unfolding unhandled_of in_turn_of first_of
rate_operand turn handled led rate value =
    either (λ (n : Option (Kind × ℕ)). in_turn_of turn n (Some (Rate, rate)) ≡ Some (Rate, value) → value ≡ rate) (is_value_of handled led) _ _ (alone turn) (there turn)
  where
    alone : (turn : Kind) → in_turn_of turn None (Some (Rate, rate)) ≡ Some (Rate, value) → value ≡ rate
    alone Led e = sym (same_start e).1
    alone Rate e = sym (same_start e).1

    there : (turn : Kind) → in_turn_of turn (Some (Led, led)) (Some (Rate, rate)) ≡ Some (Rate, value) → value ≡ rate
    there Led e = let z = (same_start e).0 in cc
    there Rate e = sym (same_start e).1

-- the other goes first only in its turn
before_rate : (turn : Kind) (next : Option (Kind × ℕ)) (rate value : ℕ) → in_turn_of turn next (Some (Rate, rate)) ≡ Some (Led, value) → turn ≡ Led
unfolding in_turn_of first_of
before_rate Led next rate value e = refl
before_rate Rate next rate value e = (same_start e).0

before_led : (turn : Kind) (led : ℕ) (next : Option (Kind × ℕ)) (value : ℕ) → in_turn_of turn (Some (Led, led)) next ≡ Some (Rate, value) → turn ≡ Rate
unfolding in_turn_of first_of
before_led Led led next value e = (same_start e).0
before_led Rate led next value e = refl

-- ---- 4. it comes to its turn

-- what a poll can do for a command that is wanted
data AtPoll (kind : Kind) (operand : ℕ) (line : Line) (outcome : Outcome) : Type 0 where
  begins : outcome ≡ start_of line kind operand → AtPoll kind operand line outcome
  stays :
      Wanted kind operand outcome.line → (SendsFirst kind outcome → ⊥) →
      sends_by outcome.answer + ahead_of kind outcome.line ≤ ahead_of kind line → AtPoll kind operand line outcome

wanted_on : (kind : Kind) (operand : ℕ) (line : Line) (outcome : Outcome) → GoesOn line outcome → Wanted kind operand line → Wanted kind operand outcome.line
wanted_on Led value line outcome g w = rw g.started w
wanted_on Rate rate line outcome g w = rw g.rate w

falls_on : (kind : Kind) (line : Line) (outcome : Outcome) → GoesOn line outcome → sends_by outcome.answer + ahead_of kind outcome.line ≤ ahead_of kind line
falls_on kind line outcome g = rw g.turn (omega (arith, g.left))

quiet_not_first : (kind : Kind) (line : Line) → SendsFirst kind (unchanged_of line Quiet) → ⊥
unfolding unchanged_of
quiet_not_first kind line f = let z : ◌≡◌ {A = ℕ} 0 1 = cc f.answer in omega arith

-- a command that has begun sends its second byte at the least
send_not_first : (kind : Kind) (line : Line) (command : Command) → line.phase ≡ Ready command → Within line → Begun line → SendsFirst kind (send_of line command) → ⊥
unfolding send_of counted_of
send_not_first kind line command e w h f =
    let k : 1 ≤ command.sent = rw e at h in
    let c : Counted command 2 = rw e at w in
    let one : one_more_of command.sent 6 ≡ command.sent + 1 = one_more command.sent 6 (sent_below command c) in
    let sent : one_more_of command.sent 6 ≡ 1 = f.sent in
    omega arith

-- the other kind's command, which starts in its turn, has six bytes and passes the turn
module _ (line : Line) (turn : Kind) (value : ℕ) (idle : line.phase ≡ Idle turn) where
  led_before : turn ≡ Led → sends_by (start_of line Led value).answer + ahead_of Rate (start_of line Led value).line ≤ ahead_of Rate line
  unfolding start_of send_of counted_of one_more_of other_of when◌then◌else◌
  led_before t = simp (idle, t) (omega arith)

  rate_before : turn ≡ Rate → sends_by (start_of line Rate value).answer + ahead_of Led (start_of line Rate value).line ≤ ahead_of Led line
  unfolding start_of send_of counted_of one_more_of other_of when◌then◌else◌
  rate_before t = simp (idle, t) (omega arith)

  led_not_rate : SendsFirst Rate (start_of line Led value) → ⊥
  unfolding start_of send_of due_of first_byte_of when◌then◌else◌
  led_not_rate f = let z : ◌≡◌ {A = ℕ} 0xED 0xF3 = cc f.answer in omega arith

  rate_not_led : SendsFirst Led (start_of line Rate value) → ⊥
  unfolding start_of send_of due_of first_byte_of when◌then◌else◌
  rate_not_led f = let z : ◌≡◌ {A = ℕ} 0xF3 0xED = cc f.answer in omega arith

start_for_rate : (line : Line) (rate led : ℕ) (turn started : Kind) (value : ℕ) → line.phase ≡ Idle turn → line.rate ≡ Some rate →
    next_of line turn led ≡ Some (started, value) → AtPoll Rate rate line (start_of line started value)
unfolding next_of waiting_of start_of send_of rate_left_of
start_for_rate line rate led turn Led value idle w n =
    stays w (led_not_rate line turn value idle) (led_before line turn value idle (before_rate turn (unhandled_of line.handled led) rate value (rw w at n)))
start_for_rate line rate led turn Rate value idle w n =
    begins (ap (start_of line Rate) (rate_operand turn line.handled led rate value (rw w at n)))

start_for_led : (line : Line) (led : ℕ) (turn started : Kind) (value : ℕ) → line.phase ≡ Idle turn → is_value_of line.handled led ≡ false →
    next_of line turn led ≡ Some (started, value) → AtPoll Led led line (start_of line started value)
unfolding next_of unhandled_of start_of send_of counted_of is_led_of when◌then◌else◌
start_for_led line led turn Led value idle w n = begins (ap (start_of line Led) (led_value_now line turn led value n))
start_for_led line led turn Rate value idle w n =
    stays w (rate_not_led line turn value idle) (rate_before line turn value idle (before_led turn led (waiting_of line.rate) value (rw w at n)))

start_for : (kind : Kind) (operand : ℕ) (line : Line) (led : ℕ) → Wanted kind operand line → Keeps kind operand (poll led) →
    (turn started : Kind) (value : ℕ) → line.phase ≡ Idle turn → next_of line turn led ≡ Some (started, value) →
    AtPoll kind operand line (start_of line started value)
start_for Led operand line led w k turn started value idle n = start_for_led line operand turn started value idle (rw idle at w) (rw k at n)
start_for Rate operand line led w k turn started value idle n = start_for_rate line operand led turn started value idle w n

at_poll : (kind : Kind) (operand : ℕ) (line : Line) (led : ℕ) → Within line → Begun line → Wanted kind operand line → Keeps kind operand (poll led) →
    AtPoll kind operand line (poll_of line led)
at_poll kind operand line led h b w k =
    poll_cases (AtPoll kind operand line) line led
    (stays (wanted_on kind operand line _ (quiet_goes line) w) (quiet_not_first kind line) (falls_on kind line _ (quiet_goes line)))
    (start_for kind operand line led w k)
    (λ command e. let g = send_goes line command e h in stays (wanted_on kind operand line _ g w) (send_not_first kind line command e h b) (falls_on kind line _ g))

poll_fate : (kind : Kind) (operand : ℕ) (line : Line) (led : ℕ) → AtPoll kind operand line (poll_of line led) → Fate kind operand line (poll led)
poll_fate kind operand line led (begins e) = starts led refl e
poll_fate kind operand line led (stays w n f) = waits w n f

-- neither R nor another rate comes
not_restarted : {A : Type 0} (kind : Kind) (operand : ℕ) → Keeps kind operand restart → A
not_restarted Led operand k = absurd k
not_restarted Rate operand k = absurd k

rate_wanted : (kind : Kind) (operand : ℕ) (line : Line) (rate : ℕ) → Wanted kind operand line → Keeps kind operand (wait_rate rate) → Wanted kind operand (wait_rate_of line rate)
unfolding wait_rate_of
rate_wanted Led operand line rate w k = w
rate_wanted Rate operand line rate w k = absurd k

pub comes_to_its_turn : ComesToItsTurn
unfolding wait_rate_of
comes_to_its_turn kind operand line (poll led) h b w k = poll_fate kind operand line led (at_poll kind operand line led h b w k)
comes_to_its_turn kind operand line acknowledge h b w k =
    waits (wanted_on kind operand line _ (acknowledge_goes line) w) (λ f. f) (falls_on kind line _ (acknowledge_goes line))
comes_to_its_turn kind operand line resend h b w k = waits (wanted_on kind operand line _ (resend_goes line) w) (λ f. f) (falls_on kind line _ (resend_goes line))
comes_to_its_turn kind operand line time_out h b w k =
    waits (wanted_on kind operand line _ (time_out_goes line) w) (λ f. f) (falls_on kind line _ (time_out_goes line))
comes_to_its_turn kind operand line restart h b w k = not_restarted kind operand k
comes_to_its_turn kind operand line (wait_rate rate) h b w k = waits (rate_wanted kind operand line rate w k) (λ f. f) (omega arith)
