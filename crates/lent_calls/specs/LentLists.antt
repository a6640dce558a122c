-- Lists of lent calls: events, reported events, frames, changes of set and port events in any order, each on the service as the one before left it.
-- LentLists.antt of proofs/ proves each sentence.
-- Assumes nothing.
use Rattle.std.specs.Prelude.{ℕ, ◌≤◌, ◌≡◌, List, [], ◌∷◌, ◌++◌, map}
use Rattle.translation.specs.declared.CodeSet.{CodeSet}
use Rattle.state.specs.declared.Device.{Device}
use Rattle.state.specs.declared.Service.{Service}
use Rattle.state.specs.Flags.{byte17_of, byte18_of, byte96_of, byte97_of}
use Rattle.answers.specs.Answers.{ans_of, word_of}
use Rattle.events.specs.declared.Event.TheVariants.{Empty, Restart}
use Rattle.events.specs.Run.{Shown, after}
use Rattle.events.specs.Resynchronised.{all_up, set_in, standing_locks}
use Rattle.report.specs.Reported.{buffer_of}
use Rattle.lists.specs.Items.{Item, runs, reports, receives, changes, at_port, PortSeen, Seen, port_seen, no_port, status_in, answered, where_ran, after_items, ran_items, seen_items}
use Rattle.lists.specs.Controller.{typed_items}
use Rattle.lent_calls.specs.declared.Answered.{Answered}
use Rattle.lent_calls.specs.declared.Stepped.{Stepped}
use Rattle.lent_calls.specs.Lent.{made_in, event_in, frame_in, change_in, port_in, reported_in, resynchronised_in}

-- an item of a list as the lent call that it is: the service that it leaves, and what its caller sees
pub record Called : Type 0 where
  pub service : Service
  pub seen : Seen

-- the numbers of what is returned, beside the flag bytes of the service that is left
abbrev pub shown_by : Service → Answered → Shown
shown_by service told =
    record {
      ans = ans_of told.answer;
      word = word_of told.answer;
      byte17 = byte17_of service;
      byte18 = byte18_of service;
      byte96 = byte96_of service;
      byte97 = byte97_of service;
      sent = told.sent;
    }

abbrev pub called_by : Service → Answered → PortSeen → Called
called_by service told port = record { service = service; seen = answered (shown_by service told) port (status_in service) }

abbrev pub call_in : Service → Item → Called
call_in service (runs event) = let stepped = event_in service event in called_by stepped.service stepped.answered no_port
call_in service (reports event buffer) =
    let tried = reported_in service event buffer in
    let stepped = event_in service event in
    record {
      service = tried.service;
      seen =
          record {
            shown = where_ran tried.refusal (shown_by stepped.service stepped.answered ∷ []);
            refusal = tried.refusal;
            buffer = buffer_of service event buffer;
            port = no_port;
            status = status_in tried.service;
          };
    }
call_in service (receives frame) = let stepped = frame_in service frame in called_by stepped.service stepped.answered no_port
call_in service (changes set) = let stepped = change_in service set in called_by stepped.service stepped.answered no_port
call_in service (at_port event) =
    let stepped = port_in service event in called_by stepped.service stepped.answered.answered (port_seen stepped.answered.response)

abbrev pub after_calls : Service → List Item → Service
after_calls service [] = service
after_calls service (item ∷ more) = after_calls (call_in service item).service more

abbrev pub seen_calls : Service → List Item → List Seen
seen_calls service [] = []
seen_calls service (item ∷ more) = (call_in service item).seen ∷ seen_calls (call_in service item).service more

-- they leave and show what the list of items does, refused calls among them: every law over items is one over lent calls
pub record Follows (service : Service) (items : List Item) : Type 0 where
  pub last : after_calls service items ≡ after_items service items
  pub seen : seen_calls service items ≡ seen_items service items

abbrev pub LentCallsFollow : Type 0
LentCallsFollow = (service : Service) (items : List Item) → Follows service items

-- the one call that stands for the all-up run at both ports, E and R leaves what they leave, and answers as this R does
abbrev pub ResynchronisedAsFed : Type 0
ResynchronisedAsFed = (service : Service) → resynchronised_in service ≡ event_in (after service (all_up [] (set_in service) ++ (Empty ∷ []))) Restart

-- a service made anew in the place of the one lent
abbrev pub made : CodeSet → Service → ℕ → Service
made set service locks = (made_in set service locks).service

-- Demand 3 of lent calls, over the lists that it has for items: the further calls are seen as on a service made on the set in force with the lock bits
-- that stand
abbrev pub LentCallsForget : Type 0
LentCallsForget =
    (turns : List Device) (service other : Service) (set : CodeSet) (locks : ℕ) → locks ≤ 15 → (first settling typing further : List Item) →
    let begun = after_calls (made set service locks) first in
    ran_items begun settling ≡ typing ++ (runs Restart ∷ []) →
    typed_items begun typing ≡ map runs (all_up turns (set_in begun) ++ (Empty ∷ [])) →
    let settled = after_calls (made set service locks) (first ++ settling) in
    seen_calls settled further ≡ seen_calls (made (set_in settled) other (standing_locks settled)) further
