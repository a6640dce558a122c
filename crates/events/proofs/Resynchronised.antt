-- From every service, reached or not, the all-up run at both ports in any turns, E and R lead to the service newly made on its set with the same locks.
-- Assumes nothing.
use Rattle.std.specs.Prelude.{Option, None, Some}
use Prim.Native.Nat.{ℕ, ◌-◌}
use mathlib.Core.Path.{◌≡◌, refl, ap, sym, ◌∙◌}
use mathlib.Core.Bool.{Bool, true, false, ◌&&◌, ◌||◌, not, and-false}
use mathlib.Core.List.{List, [], ◌∷◌, map}
use lib.Dec.{eqb}
use lib.ListN.{length, drop, get_or}
use Rattle.bits.specs.Choice.{when◌then◌else◌}
use Rattle.bits.proofs.Choice.{by_test}
use Rattle.bits.proofs.Tests.{not_both, neither}
use Rattle.bits.proofs.Bytes.{upper_half}
use Rattle.port.specs.declared.Prefix.{Prefix}
use Rattle.port.specs.declared.Prefix.TheVariants.{Closed, E0, E1, E1Make, E1Break}
use Rattle.port.specs.declared.Held.{Held}
use Rattle.port.specs.declared.Port.{Port}
use Rattle.port.specs.declared.Shared.{Shared}
use Rattle.port.specs.declared.Locks.{Locks}
use Rattle.port.specs.declared.Effect.{Effect}
use Rattle.port.specs.declared.Effect.TheVariants as effect
use Rattle.port.specs.State.{either_side, no_side, new_port, with_prefix, with_paused}
use Rattle.port.specs.KeyByte.{key_byte_of}
use Rattle.queue.specs.Queue.{empty_queue}
use Rattle.line.specs.State.{new_line}
use Rattle.translation.specs.declared.CodeSet.{CodeSet}
use Rattle.translation.specs.declared.CodeSet.TheVariants.{One}
use Rattle.translation.specs.declared.Codes.{Codes}
use Rattle.translation.specs.declared.Codes.TheVariants.{SetOne, SetTwo, SetTwoMarked}
use Rattle.translation.specs.Translation.{unmarked_of, translated_of, passed_on, translation, codes_after}
use Rattle.translation.proofs.Laws.{set_back}
use Rattle.controller.specs.State.{new_controller}
use Rattle.state.specs.declared.Device.{Device}
use Rattle.state.specs.declared.Device.TheVariants.{Keyboard, Scanner}
use Rattle.state.specs.declared.Ports.{Ports}
use Rattle.state.specs.declared.Service.{Service}
use Rattle.events.specs.declared.Event.TheVariants.{Key, Empty, Restart, Scan}
use Rattle.events.specs.declared.Outcome.{Outcome}
use Rattle.state.specs.State.{locks_of, with_locks, new_service, port_of, ports_with, with_codes}
use Rattle.state.specs.Flags.{byte17_of}
use Rattle.events.specs.Keyboard.{broken_of, on_effect, typed_of, read_of, on_passed, key_of, scan_of}
use Rattle.events.specs.Outcomes.{answered_of, offered_of}
use Rattle.events.specs.Step.{empty_of, step_of}
use Rattle.events.specs.Commands.{restart_of}
use Rattle.events.specs.Run.{next, after}
use Rattle.events.specs.Resynchronised.{all_up_run, run_at, together, set_in, standing_locks, remade, RunTranslates, OnlyLocksStay, Resynchronises, LocksStand}
use Rattle.events.proofs.Model.{model}
use Rattle.events.proofs.Lists.{after_append}

-- ---- the run at one port

-- the pause after a byte of the run: 39 ends it
abbrev paused_after : ℕ → Bool → Bool
paused_after byte paused = not (eqb byte 0x39) && paused

-- such a byte at a port: it is no reply of the line, does to what is shared no more than that, and leaves a port with the property
abbrev Leaves : (Port → Type 0) → Port → Shared → ℕ → Type 0
Leaves P port shared byte =
    let decoded = key_byte_of port shared byte in
    ((eqb byte 0xFA || eqb byte 0xFE) ≡ false) × (decoded.shared ≡ with_paused shared (paused_after byte shared.paused)) × P decoded.port

-- bytes that settle a port, whatever is shared when each of them comes: so bytes at the other port may come between
abbrev Settles : Port → List ℕ → Type 0
Settles port [] = port ≡ new_port
Settles port (byte ∷ more) = (shared : Shared) → Leaves (λ (left : Port). Settles left more) port shared byte

-- the run from its end, by how many bytes are left: Space, by whether the service is paused
abbrev ending : ℕ → List ℕ
ending count = drop (length (all_up_run One) - count) (all_up_run One)

pause_off : (locks : Locks) (paused : Bool)
    → Leaves (λ (left : Port). Settles left (ending 1)) new_port (record { locks = locks; paused = paused }) (get_or (ending 2) 0 0)
unfolding model
pause_off locks true = (refl, refl, λ _. (refl, refl, refl))
pause_off locks false = (refl, refl, λ _. (refl, refl, refl))

-- before it the lock keys and SysReq
abbrev with_alt : Held → ℕ → Bool → Bool → Port
with_alt held sum left right =
    record { prefix = Closed; modifiers = record { shift = no_side; ctrl = no_side; alt = record { left = left; right = right } }; held = held; sum = sum }

held_off : (held : Held) → Settles (with_alt held 0 false false) (ending 7)
unfolding model
held_off held =
    λ _. (refl, refl, λ _. (refl, refl, λ _. (refl, refl, λ _. (refl, refl, λ _. (refl, refl, λ shared. pause_off shared.locks shared.paused)))))

-- before them Alt, by whether the right one is down
alt_off : (held : Held) (sum : ℕ) (left right : Bool) → Settles (with_alt held sum left right) (ending 10)
unfolding model
alt_off held sum left true = λ _. (refl, refl, λ _. (refl, refl, λ _. (refl, refl, held_off held)))
alt_off held sum left false = λ _. (refl, refl, λ _. (refl, refl, λ _. (refl, refl, held_off held)))

-- before it Shift and Ctrl
modifiers_off : (port : Port) → Settles (with_prefix port Closed) (ending 15)
unfolding model
modifiers_off port =
    let alt = port.modifiers.alt in
    λ _. (refl, refl, λ _. (refl, refl, λ _. (refl, refl, λ _. (refl, refl, λ _. (refl, refl, alt_off port.held port.sum alt.left alt.right)))))

-- the first byte closes whichever prefix is open
prefix_closed : (port : Port) (prefix : Prefix) → Settles (with_prefix port prefix) (all_up_run One)
unfolding model
prefix_closed port Closed = λ _. (refl, refl, modifiers_off port)
prefix_closed port E0 = λ _. (refl, refl, modifiers_off port)
prefix_closed port E1 = λ _. (refl, refl, modifiers_off port)
prefix_closed port E1Make = λ _. (refl, refl, modifiers_off port)
prefix_closed port E1Break = λ _. (refl, refl, modifiers_off port)

run_settles : (port : Port) → Settles port (all_up_run One)
run_settles port = prefix_closed port port.prefix

pub run_translates : RunTranslates
unfolding model
run_translates SetOne = record { bytes = refl; codes_left = refl }
run_translates SetTwo = record { bytes = refl; codes_left = refl }
run_translates SetTwoMarked = record { bytes = refl; codes_left = refl }

-- ---- both runs at the service

-- what E and R leave of a service
record Kept : Type 0 where
  ports : Ports
  shared : Shared
  codes : Codes

abbrev kept_of : Service → Kept
kept_of service = record { ports = service.ports; shared = service.shared; codes = service.codes }

abbrev renewed : Kept → Service
renewed kept = record { ports = kept.ports; shared = kept.shared; queue = empty_queue; line = new_line; codes = kept.codes; controller = new_controller }

ended : (service : Service) → after service (Empty ∷ Restart ∷ []) ≡ renewed (kept_of service)
unfolding step_of empty_of restart_of answered_of
ended service = refl

effect_keeps : (service : Service) (e : Effect) → kept_of (on_effect service e).service ≡ kept_of service
unfolding on_effect answered_of offered_of broken_of
effect_keeps service effect.Nothing = refl
effect_keeps service (effect.Put word) = refl
effect_keeps service effect.Break = refl
effect_keeps service effect.RestartAsked = refl
effect_keeps service effect.Overrun = refl

typed_keeps : (device : Device) (service : Service) (byte : ℕ) →
    let decoded = key_byte_of (port_of device service.ports) service.shared byte in
    kept_of (typed_of device service byte).service
    ≡ record { ports = ports_with device decoded.port service.ports; shared = decoded.shared; codes = service.codes }
unfolding typed_of
typed_keeps device service byte = effect_keeps _ (key_byte_of (port_of device service.ports) service.shared byte).effect

-- a pause that bytes end, they end also where a byte comes before them
abbrev pause_left : List ℕ → Bool → Bool
pause_left [] paused = paused
pause_left (byte ∷ more) paused = pause_left more (paused_after byte paused)

never_paused : (bytes : List ℕ) → pause_left bytes false ≡ false
never_paused [] = refl
never_paused (byte ∷ more) = rw (and-false (not (eqb byte 0x39))) (never_paused more)

still_ends : (bytes : List ℕ) (paused stays : Bool) → pause_left bytes paused ≡ false → pause_left bytes (stays && paused) ≡ false
still_ends bytes paused true ends = ends
still_ends bytes paused false ends = never_paused bytes

-- the bytes to come, the keyboard's as they pass the translation, settle both ports and end a pause
record Ahead (locks : Locks) (codes : Codes) (keys scans : List ℕ) (kept : Kept) : Type 0 where
  keyboard : Settles kept.ports.keyboard keys
  scanner : Settles kept.ports.scanner scans
  same_locks : kept.shared.locks ≡ locks
  pause_ends : pause_left keys kept.shared.paused ≡ false
  same_codes : kept.codes ≡ codes

module _ {locks : Locks} where
  read_ahead : {codes : Codes} {keys scans : List ℕ} (service : Service) (byte : ℕ) → Ahead locks codes (byte ∷ keys) scans (kept_of service)
      → Ahead locks codes keys scans (kept_of (read_of service byte).service)
  unfolding read_of when◌then◌else◌
  read_ahead service byte ahead =
      let step = ahead.keyboard service.shared in
      let no_reply = neither (eqb byte 0xFA) (eqb byte 0xFE) step.0 in
      rw (no_reply.first, no_reply.second, typed_keeps Keyboard service byte, step.1)
      (record {
        keyboard = step.2;
        scanner = ahead.scanner;
        same_locks = ahead.same_locks;
        pause_ends = ahead.pause_ends;
        same_codes = ahead.same_codes;
      })

  passed_ahead : {codes : Codes} {keys scans : List ℕ} (service : Service) (passed : Option ℕ) → Ahead locks codes (passed_on passed keys) scans (kept_of service)
      → Ahead locks codes keys scans (kept_of (on_passed service passed).service)
  unfolding answered_of
  passed_ahead service None ahead = ahead
  passed_ahead service (Some byte) ahead = read_ahead service byte ahead

  key_ahead : {codes : Codes} {scans : List ℕ} (service : Service) (byte : ℕ) (keys : List ℕ)
      → Ahead locks codes (translation codes (byte ∷ keys)) scans (kept_of service)
      → let left = (translated_of codes byte).codes in Ahead locks left (translation left keys) scans (kept_of (next service (Key byte)))
  unfolding step_of key_of
  key_ahead {codes} service byte keys ahead =
      let translated = translated_of codes byte in
      rw ahead.same_codes
      (passed_ahead (with_codes service translated.codes) translated.passed
      (record {
        keyboard = ahead.keyboard;
        scanner = ahead.scanner;
        same_locks = ahead.same_locks;
        pause_ends = ahead.pause_ends;
        same_codes = refl;
      }))

  scan_ahead : {codes : Codes} {scans : List ℕ} (service : Service) (byte : ℕ) (keys : List ℕ) → Ahead locks codes keys (byte ∷ scans) (kept_of service)
      → Ahead locks codes keys scans (kept_of (next service (Scan byte)))
  unfolding step_of scan_of
  scan_ahead {codes} {scans} service byte keys ahead =
      let step = ahead.scanner service.shared in
      by_test (λ (o : Outcome). Ahead locks codes keys scans (kept_of o.service)) _ _ _
      (λ reply. not_both reply step.0)
      (λ _. rw (typed_keeps Scanner service byte, step.1)
      (record {
        keyboard = ahead.keyboard;
        scanner = step.2;
        same_locks = ahead.same_locks;
        pause_ends = still_ends keys service.shared.paused (not (eqb byte 0x39)) ahead.pause_ends;
        same_codes = ahead.same_codes;
      }))

  keys_settle : {codes : Codes} {scans : List ℕ} (service : Service) (keys : List ℕ) → Ahead locks codes (translation codes keys) scans (kept_of service)
      → Ahead locks (codes_after codes keys) [] scans (kept_of (after service (map Key keys)))
  keys_settle service [] ahead = ahead
  keys_settle {codes = codes} {scans = scans} service (byte ∷ keys) ahead =
      keys_settle {codes = (translated_of codes byte).codes} {scans = scans} (next service (Key byte)) keys (key_ahead service byte keys ahead)

  scans_settle : {codes : Codes} (service : Service) (scans : List ℕ) → Ahead locks codes [] scans (kept_of service)
      → Ahead locks codes [] [] (kept_of (after service (map Scan scans)))
  scans_settle service [] ahead = ahead
  scans_settle service (byte ∷ scans) ahead = scans_settle (next service (Scan byte)) scans (scan_ahead service byte [] ahead)

  both_settle : {codes : Codes} (turns : List Device) (service : Service) (keys scans : List ℕ)
      → Ahead locks codes (translation codes keys) scans (kept_of service)
      → Ahead locks (codes_after codes keys) [] [] (kept_of (after service (together turns (map Key keys) (map Scan scans))))
  both_settle [] service keys scans ahead =
      rw (after_append service (map Key keys) (map Scan scans)) (scans_settle (after service (map Key keys)) scans (keys_settle service keys ahead))
  both_settle (Keyboard ∷ turns) service [] scans ahead = both_settle turns service [] scans ahead
  both_settle {codes = codes} (Keyboard ∷ turns) service (byte ∷ keys) scans ahead =
      both_settle {codes = (translated_of codes byte).codes} turns (next service (Key byte)) keys scans (key_ahead service byte keys ahead)
  both_settle (Scanner ∷ turns) service keys [] ahead = both_settle turns service keys [] ahead
  both_settle (Scanner ∷ turns) service keys (byte ∷ scans) ahead = both_settle turns (next service (Scan byte)) keys scans (scan_ahead service byte _ ahead)

settled : {locks : Locks} {kept : Kept} (set : CodeSet) → Ahead locks (unmarked_of set) [] [] kept → renewed kept ≡ with_locks set locks
settled set ahead = rw (ahead.keyboard, ahead.scanner, ahead.same_locks, ahead.pause_ends, ahead.same_codes)

pub only_locks_stay : OnlyLocksStay
only_locks_stay turns service =
    let set = set_in service in
    let both = together turns (run_at Keyboard set) (run_at Scanner set) in
    let translates = run_translates service.codes in
    let ahead : Ahead service.shared.locks service.codes (translation service.codes (all_up_run set)) (all_up_run One) (kept_of service) =
    rw translates.bytes (record { keyboard = run_settles _; scanner = run_settles _; same_locks = refl; pause_ends = refl; same_codes = refl }) in
    after_append service both (Empty ∷ Restart ∷ [])
    ∙ ended (after service both)
    ∙ settled set (rw translates.codes_left at (both_settle turns service (all_up_run set) (all_up_run One) ahead))

-- ---- the lock bits that stand

-- bits 4 to 7 of byte 17 make the locks again, whichever they are
abbrev with_bits : Bool → Bool → Bool → Bool → Locks
with_bits s n c i = record { scroll = s; num = n; caps = c; insert = i }

again : (set : CodeSet) (s n c i : Bool) → locks_of (standing_locks (with_locks set (with_bits s n c i))) ≡ with_bits s n c i
unfolding model
again set true true true true = refl
again set true true true false = refl
again set true true false true = refl
again set true true false false = refl
again set true false true true = refl
again set true false true false = refl
again set true false false true = refl
again set true false false false = refl
again set false true true true = refl
again set false true true false = refl
again set false true false true = refl
again set false true false false = refl
again set false false true true = refl
again set false false true false = refl
again set false false false true = refl
again set false false false false = refl

standing : (set : CodeSet) (locks : Locks) → remade (with_locks set locks) ≡ with_locks set locks
unfolding new_service
standing set locks =
    ap (λ (s : CodeSet). with_locks s (locks_of (standing_locks (with_locks set locks)))) (set_back set)
    ∙ ap (with_locks set) (again set locks.scroll locks.num locks.caps locks.insert)

pub resynchronises : Resynchronises
resynchronises turns service =
    let e = only_locks_stay turns service in
    e ∙ sym (ap remade e ∙ standing (set_in service) service.shared.locks)

pub locks_stand : LocksStand
unfolding byte17_of
locks_stand turns service =
    let m = service.ports.keyboard.modifiers in
    let l = service.shared.locks in
    ap standing_locks (only_locks_stay turns service)
    ∙ sym (upper_half m.shift.right m.shift.left (either_side m.ctrl) (either_side m.alt) l.scroll l.num l.caps l.insert)
