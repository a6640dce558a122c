-- A lent call does what its item does, so that lists of lent calls follow lists of items.
-- Assumes nothing.
use Prim.Native.Nat.{ℕ, ◌≤◌}
use mathlib.Core.Path.{◌≡◌, refl, ap, sym, ◌∙◌}
use native.Mathlib.Omega.{arith}
use Rattle.bits.proofs.Bytes.{byte_most}
use Rattle.state.specs.Flags.{byte17_of}
use mathlib.Core.List.{List, [], ◌∷◌, ◌++◌, append_assoc}
use Rattle.translation.specs.declared.CodeSet.{CodeSet}
use Rattle.state.specs.declared.Service.{Service}
use Rattle.state.specs.State.{new_service}
use Rattle.answers.specs.declared.Answer.TheVariants.{Done}
use Rattle.events.specs.Step.{step_of}
use Rattle.events.specs.declared.Event.TheVariants.{Empty, Restart}
use Rattle.events.specs.Commands.{restart_of}
use Rattle.events.specs.Run.{after}
use Rattle.events.specs.Resynchronised.{all_up, set_in, standing_locks, remade}
use Rattle.events.proofs.Lists.{after_append}
use Rattle.lists.specs.Items.{Item, runs, reports, receives, changes, at_port, Seen, step_item, next_item, after_items, seen_items}
use Rattle.lists.proofs.Demand3.{demand_3}
use Rattle.lent_calls.specs.Lent.{Tried, event_in, frame_in, change_in, port_in, reported_in, resynchronised_in}
use Rattle.lent_calls.specs.LentLists.{Called, call_in, after_calls, seen_calls, Follows, LentCallsFollow, ResynchronisedAsFed, made, LentCallsForget}
use Rattle.lent_calls.proofs.LentLaws.{makes}

call_as_item : (service : Service) (item : Item) → call_in service item ≡ record { service = next_item service item; seen = (step_item service item).seen }
unfolding step_item event_in frame_in change_in port_in reported_in
call_as_item service (runs event) = refl
call_as_item service (reports event buffer) = refl
call_as_item service (receives frame) = refl
call_as_item service (changes set) = refl
call_as_item service (at_port event) = refl

pub lent_calls_follow : LentCallsFollow
lent_calls_follow service [] = record { last = refl; seen = refl }
lent_calls_follow service (item ∷ more) =
    let one = call_as_item service item in
    let rest = lent_calls_follow (next_item service item) more in
    record {
      last = ap (λ (called : Called). after_calls called.service more) one ∙ rest.last;
      seen = ap (λ (called : Called). called.seen ∷ seen_calls called.service more) one ∙ ap (◌∷◌ (step_item service item).seen) rest.seen;
    }

pub resynchronised_as_fed : ResynchronisedAsFed
unfolding resynchronised_in event_in step_of restart_of
resynchronised_as_fed service =
    let run = all_up [] (set_in service) in
    ap (λ (s : Service). record { service = s; answered = record { answer = Done; sent = 0 } })
    (ap (after service) (sym (append_assoc run (Empty ∷ []) (Restart ∷ []))) ∙ after_append service (run ++ (Empty ∷ [])) (Restart ∷ []))

-- ---- from a service made on

-- whatever the service, its locks are four bits
locks_most : (service : Service) → standing_locks service ≤ 15
unfolding byte17_of
locks_most service = let most : byte17_of service ≤ 255 = byte_most _ _ _ _ _ _ _ _ in omega arith

made_new : (set : CodeSet) (service : Service) (locks : ℕ) → locks ≤ 15 → made set service locks ≡ new_service set locks
made_new set service locks most = ap (λ (tried : Tried). tried.service) (makes.made set service locks most)

pub lent_calls_forget : LentCallsForget
lent_calls_forget turns service other set locks most first settling typing further ran typed =
    let begins = (lent_calls_follow (made set service locks) first).last ∙ ap (λ (s : Service). after_items s first) (made_new set service locks most) in
    let settled = after_calls (made set service locks) (first ++ settling) in
    let is = (lent_calls_follow (made set service locks) (first ++ settling)).last
    ∙ ap (λ (s : Service). after_items s (first ++ settling)) (made_new set service locks most) in
    (lent_calls_follow settled further).seen
    ∙ ap (λ (s : Service). seen_items s further) is
    ∙ demand_3 turns set locks most first settling typing further (rw begins at ran) (rw begins at typed)
    ∙ ap (λ (s : Service). seen_items (remade s) further) (sym is)
    ∙ ap (λ (s : Service). seen_items s further) (sym (made_new (set_in settled) other (standing_locks settled) (locks_most settled)))
    ∙ sym (lent_calls_follow (made (set_in settled) other (standing_locks settled)) further).seen
