-- The laws that ItemLaws.antt of specs/ states. A new kind of item adds the laws of its step and a clause to `by_item`; the rest goes over that.
-- Assumes nothing.
use Rattle.std.specs.Prelude.{Result, Ok, Err}
use Prim.Native.Nat.{ℕ, suc}
use mathlib.Core.Path.{◌≡◌, refl, ap, sym, subst, ◌∙◌}
use mathlib.Core.Bool.{true, false}
use mathlib.Core.List.{List, [], ◌∷◌, ◌++◌, map, append_assoc}
use lib.Dec.{ltb}
use native.Mathlib.Omega.{arith}
use borrow.Author.Tests.{ltb-true, ltb-false, le-ltb}
use Rattle.bits.specs.Choice.{when◌then◌else◌}
use Rattle.bits.proofs.Choice.{by_test}
use Rattle.bits.proofs.Tests.{not_both}
use Rattle.frame.specs.declared.Fault.{Fault}
use Rattle.frame.specs.declared.Fault.TheVariants.{Start, Parity, Stop}
use Rattle.frame.specs.Frame.{frame_of, read_frame, fault_number}
use Rattle.frame.proofs.OneFrameEach.{one_frame_each}
use Rattle.translation.specs.declared.CodeSet.{CodeSet}
use Rattle.controller.specs.declared.PortEvent.{PortEvent}
use Rattle.controller.specs.declared.PortRefusal.{PortRefusal}
use Rattle.controller.specs.declared.PortRefusal.TheVariants.{Busy, Command, Unawaited}
use Rattle.controller.specs.declared.Response.{Response}
use Rattle.controller.specs.declared.Response.TheVariants as response
use Rattle.controller.specs.PortEvents.{port_refusal_number, responded_of, is_refused}
use Rattle.state.specs.declared.Service.{Service}
use Rattle.answers.specs.declared.Refusal.TheVariants.{Port}
use Rattle.answers.specs.declared.Answer.TheVariants as answer
use Rattle.events.specs.declared.Event.{Event}
use Rattle.events.specs.declared.Event.TheVariants.{Key}
use Rattle.events.specs.declared.PortOutcome.{PortOutcome}
use Rattle.events.specs.Outcomes.{answered_of}
use Rattle.events.specs.Step.{step_of}
use Rattle.events.specs.Frames.{on_frame, frame_step_of}
use Rattle.events.specs.Sets.{change_of}
use Rattle.events.specs.Controller.{on_response, port_step_of}
use Rattle.events.specs.Run.{shown_of, next}
use Rattle.events.proofs.RefusedCalls.{at_most_five}
use Rattle.events.proofs.Controller.{refused_port_events}
use Rattle.report.specs.Report.{report_of}
use Rattle.report.specs.Reported.{refusal_in, too_short}
use Rattle.report.proofs.BufferLaws.{short_refused, long_reported, long_buffer}
use Rattle.lists.specs.Items.{Item, runs, reports, receives, changes, at_port, Seen, Stepped, port_seen, no_port, seen_of, where_ran, fed_by, step_item, next_item, after_items, ran_items, seen_items, shown_in}
use Rattle.lists.specs.ItemLaws.{refused_step, ShortRunsNothing, reported_step, LongRuns, AcceptedIsKey, turned_away, RefusedRunsNothing, RefusedAtPort, ported_step, AcceptedAtPort, ItemsLeave, ItemsShow, EachSeen, EventsAsItems, receives_byte, FramesAsKeys, Between, NothingBetween, RefusedBetween, RefusedPortBetween}

-- ---- an event that ran, and a report by the length of its buffer

none_above_five : (service : Service) (event : Event) → ltb 5 (refusal_in (shown_of (step_of service event)).ans) ≡ false
none_above_five service event = le-ltb 5 (refusal_in (shown_of (step_of service event)).ans) (omega (arith, at_most_five service event))

pub short_runs_nothing : ShortRunsNothing
unfolding step_item when◌then◌else◌
short_runs_nothing service event buffer short =
    let refused = short_refused service event buffer short in
    simp (refused.result, refused.unwritten)

pub long_runs : LongRuns
unfolding step_item when◌then◌else◌ report_of
long_runs service event buffer long =
    simp (long_reported service event buffer long, long_buffer service event buffer long, none_above_five service event)

by_length : (P : Stepped → Type 0) (service : Service) (event : Event) (buffer : List ℕ)
    → P (refused_step service buffer) → P (reported_step service event buffer) → P (step_item service (reports event buffer))
by_length P service event buffer short long =
    by_test (λ (_ : ℕ). P (step_item service (reports event buffer))) (too_short buffer) 0 0
    (λ test. rw (short_runs_nothing service event buffer (ltb-true _ _ test)) short)
    (λ test. rw (long_runs service event buffer (ltb-false _ _ test)) long)

-- ---- a frame, by what it carries

-- whatever is refused by a number above 5
abbrev Away : (Stepped → Type 0) → Service → Type 0
Away P service = (number : ℕ) → ltb 5 number ≡ true → P (turned_away service number)

above_five : (fault : Fault) → ltb 5 (fault_number fault) ≡ true
above_five Start = refl
above_five Parity = refl
above_five Stop = refl

abbrev framed : Service → Result ℕ Fault → Stepped
framed service reading =
    let outcome = on_frame service reading in
    record { service = outcome.service; ran = fed_by reading; seen = seen_of outcome no_port }

pub accepted_is_key : AcceptedIsKey
unfolding step_item frame_step_of
accepted_is_key service frame byte is = ap (framed service) is

pub refused_runs_nothing : RefusedRunsNothing
unfolding step_item frame_step_of answered_of
refused_runs_nothing service frame fault is = ap (framed service) is ∙ numbered fault
  where
    numbered : (fault : Fault) → framed service (Err fault) ≡ turned_away service (fault_number fault)
    numbered Start = refl
    numbered Parity = refl
    numbered Stop = refl

by_reading : (P : Stepped → Type 0) (service : Service) (frame : ℕ)
    → ((byte : ℕ) → P (step_item service (runs (Key byte)))) → Away P service → P (step_item service (receives frame))
by_reading P service frame byte away = split (read_frame frame) refl
  where
    split : (reading : Result ℕ Fault) → read_frame frame ≡ reading → P (step_item service (receives frame))
    split (Ok b) is = rw (accepted_is_key service frame b is) (byte b)
    split (Err f) is = rw (refused_runs_nothing service frame f is) (away (fault_number f) (above_five f))

-- ---- a port event, by how the controller responds

none_refused : (service : Service) (r : Response) → is_refused r ≡ false → ltb 5 (refusal_in (shown_of (on_response service r)).ans) ≡ false
unfolding answered_of
none_refused service response.Accepted accepted = refl
none_refused service response.Interrupt accepted = refl
none_refused service (response.Byte byte) accepted = refl
none_refused service (response.Key byte) accepted = none_above_five service (Key byte)
none_refused service (response.Refused refusal) accepted = not_both refl accepted

not_refused : (service : Service) (event : PortEvent) → is_refused (port_step_of service event).response ≡ false
    → ltb 5 (refusal_in (shown_of (port_step_of service event).outcome).ans) ≡ false
unfolding port_step_of
not_refused service event accepted = none_refused _ (responded_of service.controller event).response accepted

pub accepted_at_port : AcceptedAtPort
unfolding step_item when◌then◌else◌
accepted_at_port service event accepted = simp (not_refused service event accepted)

pub refused_at_port_lem : RefusedAtPort
unfolding step_item when◌then◌else◌ answered_of
refused_at_port_lem service event refusal is = ap stepped (refused_port_events service event refusal is) ∙ numbered refusal
  where
    stepped : PortOutcome → Stepped
    stepped step =
        let seen = seen_of step.outcome (port_seen step.response) in
        record { service = step.outcome.service; ran = where_ran seen.refusal (at_port event ∷ []); seen = seen }

    numbered : (refusal : PortRefusal)
        → stepped (record { outcome = answered_of service (answer.Refused (Port refusal)); response = response.Refused refusal })
        ≡ turned_away service (port_refusal_number refusal)
    numbered Busy = refl
    numbered Command = refl
    numbered Unawaited = refl

by_port : (P : Stepped → Type 0) (service : Service) (event : PortEvent)
    → (is_refused (port_step_of service event).response ≡ false → P (ported_step service event)) → Away P service → P (step_item service (at_port event))
by_port P service event accepted away = split (port_step_of service event).response refl
  where
    above : (refusal : PortRefusal) → ltb 5 (port_refusal_number refusal) ≡ true
    above Busy = refl
    above Command = refl
    above Unawaited = refl

    ran : (r : Response) → (port_step_of service event).response ≡ r → is_refused r ≡ false → P (step_item service (at_port event))
    ran r is not =
        let h : is_refused (port_step_of service event).response ≡ false = ap is_refused is ∙ not in
        rw (accepted_at_port service event h) (accepted h)

    split : (r : Response) → (port_step_of service event).response ≡ r → P (step_item service (at_port event))
    split response.Accepted is = ran response.Accepted is refl
    split response.Interrupt is = ran response.Interrupt is refl
    split (response.Byte byte) is = ran (response.Byte byte) is refl
    split (response.Key byte) is = ran (response.Key byte) is refl
    split (response.Refused refusal) is = rw (refused_at_port_lem service event refusal is) (away (port_refusal_number refusal) (above refusal))

-- ---- any item

-- a property of all steps, from those of an event, a refused report, a report, what is turned away, a change of set and an accepted port event
pub by_item : (P : Stepped → Type 0) (service : Service)
    → ((event : Event) → P (step_item service (runs event)))
    → ((buffer : List ℕ) → P (refused_step service buffer))
    → ((event : Event) (buffer : List ℕ) → P (reported_step service event buffer))
    → ((number : ℕ) → ltb 5 number ≡ true → P (turned_away service number))
    → ((set : CodeSet) → P (step_item service (changes set)))
    → ((event : PortEvent) → is_refused (port_step_of service event).response ≡ false → P (ported_step service event))
    → (item : Item) → P (step_item service item)
by_item P service run short long away change port (runs event) = run event
by_item P service run short long away change port (reports event buffer) = by_length P service event buffer (short buffer) (long event buffer)
by_item P service run short long away change port (receives frame) = by_reading P service frame (λ byte. run (Key byte)) away
by_item P service run short long away change port (changes set) = change set
by_item P service run short long away change port (at_port event) = by_port P service event (port event) away

-- what ran of an item leaves and shows the same
record Alike (service : Service) (stepped : Stepped) : Type 0 where
  leaves : stepped.service ≡ after_items service stepped.ran
  shows : where_ran stepped.seen.refusal stepped.seen.shown ≡ shown_in (seen_items service stepped.ran)

-- an event shows what it shows, refused or not
pub event_shown : (service : Service) (event : Event)
    → where_ran (refusal_in (shown_of (step_of service event)).ans) (shown_of (step_of service event) ∷ []) ≡ shown_of (step_of service event) ∷ []
unfolding when◌then◌else◌
event_shown service event = simp (none_above_five service event)

-- and so does a port event that is accepted
pub port_shown_lem : (service : Service) (event : PortEvent) → is_refused (port_step_of service event).response ≡ false →
    let shown = shown_of (port_step_of service event).outcome in where_ran (refusal_in shown.ans) (shown ∷ []) ≡ shown ∷ []
unfolding when◌then◌else◌
port_shown_lem service event accepted = simp (not_refused service event accepted)

item_alike : (service : Service) (item : Item) → Alike service (step_item service item)
unfolding step_item when◌then◌else◌ report_of change_of answered_of
item_alike service =
    by_item (Alike service) service
    (λ event. record { leaves = refl; shows = rw (event_shown service event) })
    (λ buffer. record { leaves = refl; shows = refl })
    (λ event buffer. record { leaves = refl; shows = rw (event_shown service event) })
    (λ number above. record { leaves = refl; shows = simp above })
    (λ set. record { leaves = refl; shows = refl })
    (λ event accepted. record { leaves = refl; shows = rw (port_shown_lem service event accepted) })

-- ---- lists, by `item_alike` alone

pub after_items_append : (service : Service) (xs ys : List Item) → after_items service (xs ++ ys) ≡ after_items (after_items service xs) ys
after_items_append service [] ys = refl
after_items_append service (x ∷ xs) ys = after_items_append (next_item service x) xs ys

pub seen_items_append : (service : Service) (xs ys : List Item)
    → seen_items service (xs ++ ys) ≡ seen_items service xs ++ seen_items (after_items service xs) ys
seen_items_append service [] ys = refl
seen_items_append service (x ∷ xs) ys = ap (◌∷◌ (step_item service x).seen) (seen_items_append (next_item service x) xs ys)

pub ran_items_append : (service : Service) (xs ys : List Item)
    → ran_items service (xs ++ ys) ≡ ran_items service xs ++ ran_items (after_items service xs) ys
ran_items_append service [] ys = refl
ran_items_append service (x ∷ xs) ys =
    rw (ran_items_append (next_item service x) xs ys, append_assoc)

shown_append : (xs ys : List Seen) → shown_in (xs ++ ys) ≡ shown_in xs ++ shown_in ys
shown_append [] ys = refl
shown_append (x ∷ xs) ys = rw (shown_append xs ys, append_assoc)

pub items_leave : ItemsLeave
items_leave service [] = refl
items_leave service (item ∷ more) =
    let ran = (step_item service item).ran in
    let later = ran_items (next_item service item) more in
    items_leave (next_item service item) more
    ∙ ap (λ (s : Service). after_items s later) (item_alike service item).leaves
    ∙ sym (after_items_append service ran later)

pub items_show : ItemsShow
items_show service [] = refl
items_show service (item ∷ more) =
    let ran = (step_item service item).ran in
    let later = ran_items (next_item service item) more in
    let alike = item_alike service item in
    rw (seen_items_append service ran later, shown_append, ← alike.leaves, ← alike.shows, items_show (next_item service item) more)

pub each_seen : EachSeen
each_seen service [] = refl
each_seen service (item ∷ more) = ap suc (each_seen (next_item service item) more)

pub events_as_items : EventsAsItems
unfolding step_item
events_as_items service [] = record { ran = refl; leaves = refl; shows = refl }
events_as_items service (event ∷ more) =
    let later = events_as_items (next service event) more in
    record {
      ran = ap (◌∷◌ (runs event)) later.ran;
      leaves = later.leaves;
      shows = rw (event_shown service event) (ap (◌∷◌ (shown_of (step_of service event))) later.shows);
    }

pub frames_as_keys : FramesAsKeys
unfolding step_item
frames_as_keys service [] are = record { ran = refl; leaves = refl; seen = refl }
frames_as_keys service (byte ∷ more) (small, are) =
    let step = accepted_is_key service (frame_of byte) byte (one_frame_each.read byte small) in
    let frames = map receives_byte more in
    let later = frames_as_keys (next service (Key byte)) more are in
    record {
      ran = ap (λ (s : Stepped). s.ran ++ ran_items s.service frames) step ∙ ap (◌∷◌ (runs (Key byte))) later.ran;
      leaves = ap (λ (s : Stepped). after_items s.service frames) step ∙ later.leaves;
      seen = ap (λ (s : Stepped). s.seen ∷ seen_items s.service frames) step ∙ ap (◌∷◌ (seen_of (step_of service (Key byte)) no_port)) later.seen;
    }

pub nothing_between : NothingBetween
nothing_between service before later item none =
    let there = after_items service before in
    let still : next_item there item ≡ there = (item_alike there item).leaves ∙ ap (after_items there) none in
    record {
      ran =
          ran_items_append service before (item ∷ later)
          ∙ ap (λ (ran : List Item). ran_items service before ++ (ran ++ ran_items (next_item there item) later)) none
          ∙ ap (λ (s : Service). ran_items service before ++ ran_items s later) still
          ∙ sym (ran_items_append service before later);
      leaves =
          after_items_append service before (item ∷ later)
          ∙ ap (λ (s : Service). after_items s later) still
          ∙ sym (after_items_append service before later);
      with_it =
          seen_items_append service before (item ∷ later)
          ∙ ap (λ (s : Service). seen_items service before ++ ((step_item there item).seen ∷ seen_items s later)) still;
      without_it = seen_items_append service before later;
    }

pub refused_between : RefusedBetween
refused_between service before later event buffer short =
    let step = short_runs_nothing (after_items service before) event buffer short in
    subst (Between service before later (reports event buffer)) (ap (λ (stepped : Stepped). stepped.seen) step)
    (nothing_between service before later (reports event buffer) (ap (λ (stepped : Stepped). stepped.ran) step))

pub refused_port_between : RefusedPortBetween
refused_port_between service before later event refusal is =
    let step = refused_at_port_lem (after_items service before) event refusal is in
    subst (Between service before later (at_port event)) (ap (λ (stepped : Stepped). stepped.seen) step)
    (nothing_between service before later (at_port event) (ap (λ (stepped : Stepped). stepped.ran) step))
