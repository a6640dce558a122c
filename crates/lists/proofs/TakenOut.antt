-- The laws that TakenOut.antt of specs/ states: an item that leaves its service as it was can be taken out of any list.
-- Assumes nothing.
use Rattle.std.specs.Prelude.{Result, Ok, Err}
use Rattle.frame.specs.declared.Fault.{Fault}
use Prim.Native.Nat.{ℕ, ◌-◌}
use mathlib.Core.Path.{◌≡◌, refl, ap, sym, ◌∙◌}
use mathlib.Core.Bool.{Bool, true, false, true≢false}
use mathlib.Core.List.{List, [], ◌∷◌}
use lib.Dec.{ltb}
use native.Mathlib.Omega.{arith}
use borrow.Author.Tests.{ltb-true, lt-ltb, not-true}
use Rattle.bits.specs.Choice.{when◌then◌else◌}
use Rattle.frame.specs.Frame.{read_frame}
use Rattle.frame.specs.Laws.{is_accepted}
use Rattle.controller.specs.declared.PortEvent.{PortEvent}
use Rattle.controller.specs.declared.Response.{Response}
use Rattle.controller.specs.declared.Response.TheVariants as response
use Rattle.controller.specs.PortEvents.{is_refused}
use Rattle.state.specs.declared.Service.{Service}
use Rattle.events.specs.declared.Event.{Event}
use Rattle.events.specs.Outcomes.{answered_of}
use Rattle.events.specs.Step.{step_of}
use Rattle.events.specs.Sets.{change_of}
use Rattle.events.specs.Controller.{port_step_of}
use Rattle.events.specs.Run.{shown_of}
use Rattle.events.proofs.RefusedCalls.{refused_step_lem}
use Rattle.events.proofs.Controller.{refused_port}
use Rattle.report.specs.Report.{report_of}
use Rattle.lists.specs.Items.{Item, runs, reports, receives, changes, at_port, Stepped, step_item, next_item, after_items, seen_items}
use Rattle.lists.specs.ItemLaws.{ported_step}
use Rattle.lists.specs.TakenOut.{others, TakenOut, refused_frame, RefusedFramesOut, refused_at_port, RefusedPortEventsOut, refused, RefusedOut}
use Rattle.lists.proofs.ItemLaws.{refused_runs_nothing, refused_at_port_lem, by_item}

-- ---- any items that leave their service

module _ (picked : Service → Item → Bool)
    (leaves : (service : Service) (item : Item) → picked service item ≡ true → next_item service item ≡ service) where
  one_more : (service : Service) (item : Item) (more : List Item) (out : Bool) → picked service item ≡ out
      → TakenOut picked (next_item service item) more → TakenOut picked service (item ∷ more)
  unfolding when◌then◌else◌
  one_more service item more true is h =
      let same = leaves service item is in
      let rest = others picked (next_item service item) more in
      record {
        seen = simp is (ap (λ (s : Service). seen_items s rest) (sym same) ∙ h.seen);
        last = simp is (ap (λ (s : Service). after_items s rest) (sym same) ∙ h.last);
      }
  one_more service item more false is h = record { seen = simp is (ap (◌∷◌ (step_item service item).seen) h.seen); last = simp is h.last }

  taken_out : (service : Service) (items : List Item) → TakenOut picked service items
  taken_out service [] = record { seen = refl; last = refl }
  taken_out service (item ∷ more) = one_more service item more _ refl (taken_out (next_item service item) more)

-- ---- refused frames

fault_leaves : (service : Service) (frame : ℕ) (reading : Result ℕ Fault) → read_frame frame ≡ reading → is_accepted reading ≡ false
    → next_item service (receives frame) ≡ service
fault_leaves service frame (Ok byte) is accepted = absurd (true≢false accepted)
fault_leaves service frame (Err fault) is accepted = ap (λ (s : Stepped). s.service) (refused_runs_nothing service frame fault is)

frame_leaves : (service : Service) (item : Item) → refused_frame service item ≡ true → next_item service item ≡ service
frame_leaves service (runs event) is = absurd (true≢false (sym is))
frame_leaves service (reports event buffer) is = absurd (true≢false (sym is))
frame_leaves service (receives frame) is = fault_leaves service frame (read_frame frame) refl (not-true _ is)
frame_leaves service (changes set) is = absurd (true≢false (sym is))
frame_leaves service (at_port event) is = absurd (true≢false (sym is))

pub refused_frames_out : RefusedFramesOut
refused_frames_out = taken_out refused_frame frame_leaves

-- ---- refused port events

response_leaves : (service : Service) (event : PortEvent) (r : Response) → (port_step_of service event).response ≡ r → is_refused r ≡ true
    → next_item service (at_port event) ≡ service
response_leaves service event response.Accepted is refused = absurd (true≢false (sym refused))
response_leaves service event response.Interrupt is refused = absurd (true≢false (sym refused))
response_leaves service event (response.Byte byte) is refused = absurd (true≢false (sym refused))
response_leaves service event (response.Key byte) is refused = absurd (true≢false (sym refused))
response_leaves service event (response.Refused refusal) is refused = ap (λ (s : Stepped). s.service) (refused_at_port_lem service event refusal is)

port_leaves : (service : Service) (item : Item) → refused_at_port service item ≡ true → next_item service item ≡ service
port_leaves service (runs event) is = absurd (true≢false (sym is))
port_leaves service (reports event buffer) is = absurd (true≢false (sym is))
port_leaves service (receives frame) is = absurd (true≢false (sym is))
port_leaves service (changes set) is = absurd (true≢false (sym is))
port_leaves service (at_port event) is = response_leaves service event (port_step_of service event).response refl is

pub refused_port_events_out : RefusedPortEventsOut
refused_port_events_out = taken_out refused_at_port port_leaves

-- ---- all that is refused

-- a step that is refused
abbrev Leaves : Service → Stepped → Type 0
Leaves service stepped = ltb 0 stepped.seen.refusal ≡ true → stepped.service ≡ service

event_leaves : (service : Service) (event : Event) → Leaves service (step_item service (runs event))
unfolding step_item
event_leaves service event is =
    refused_step_lem service event (lt-ltb 0x7F (shown_of (step_of service event)).ans (omega (arith, ltb-true 0 ((shown_of (step_of service event)).ans - 0x80) is)))

port_step_leaves : (service : Service) (event : PortEvent) → Leaves service (ported_step service event)
port_step_leaves service event is =
    let ans = (shown_of (port_step_of service event).outcome).ans in
    refused_port service event (lt-ltb 0x7F ans (omega (arith, ltb-true 0 (ans - 0x80) is)))

item_leaves : (service : Service) (item : Item) → Leaves service (step_item service item)
unfolding step_item report_of change_of answered_of
item_leaves service =
    by_item (Leaves service) service (event_leaves service) (λ buffer _. refl) (λ event buffer. event_leaves service event) (λ number _ _. refl)
    (λ set is. absurd (true≢false (sym is))) (λ event _. port_step_leaves service event)

pub refused_out : RefusedOut
refused_out = taken_out refused item_leaves
