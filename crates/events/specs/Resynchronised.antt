-- The all-up run on both ports, E and R, and the service that they leave. Demand 3 rests on it; crate `lists` states it whole.
-- Assumes nothing.
use Rattle.std.specs.Prelude.{ℕ, ◌/◌, ◌≡◌, List, [], ◌∷◌, ◌++◌, map}
use Rattle.translation.specs.declared.CodeSet.{CodeSet}
use Rattle.translation.specs.declared.CodeSet.TheVariants.{One, Two}
use Rattle.translation.specs.declared.Codes.{Codes}
use Rattle.translation.specs.Translation.{unmarked_of, set_of, translation, codes_after}
use Rattle.state.specs.declared.Device.{Device}
use Rattle.state.specs.declared.Device.TheVariants.{Keyboard, Scanner}
use Rattle.state.specs.declared.Service.{Service}
use Rattle.events.specs.declared.Event.{Event}
use Rattle.events.specs.declared.Event.TheVariants.{Key, Empty, Restart, Scan}
use Rattle.state.specs.State.{with_locks, new_service}
use Rattle.state.specs.Flags.{byte17_of}
use Rattle.events.specs.Run.{after}

-- "The all-up run" of document 01, byte by byte, and that of document 02, W-203, for set 2
abbrev pub all_up_run : CodeSet → List ℕ
all_up_run One =
    0xB9 ∷ 0xAA ∷ 0xB6 ∷ 0x9D ∷ 0xE0 ∷ 0x9D ∷ 0xB8 ∷ 0xE0 ∷ 0xB8 ∷ 0xBA ∷ 0xC5 ∷ 0xC6 ∷ 0xD2 ∷ 0xD4 ∷ 0x39 ∷ 0xB9 ∷ []
all_up_run Two =
    0xF0 ∷ 0x29 ∷ 0xF0 ∷ 0x12 ∷ 0xF0 ∷ 0x59 ∷ 0xF0 ∷ 0x14 ∷ 0xE0 ∷ 0xF0 ∷ 0x14 ∷ 0xF0 ∷ 0x11 ∷ 0xE0 ∷ 0xF0 ∷ 0x11 ∷
    0xF0 ∷ 0x58 ∷ 0xF0 ∷ 0x77 ∷ 0xF0 ∷ 0x7E ∷ 0xF0 ∷ 0x70 ∷ 0xF0 ∷ 0x84 ∷ 0x29 ∷ 0xF0 ∷ 0x29 ∷ []

-- at the keyboard's port the run of its set, each byte as a K event; at the scanner's that of set 1, as S events
abbrev pub run_at : Device → CodeSet → List Event
run_at Keyboard set = map Key (all_up_run set)
run_at Scanner set = map Scan (all_up_run One)

-- two lists fed together, each in its own order: at every turn the next of the device named, if it has one left; after the turns the keyboard's rest,
-- then the scanner's
abbrev pub together : {A : Type 0} → List Device → List A → List A → List A
together [] keys scans = keys ++ scans
together (Keyboard ∷ turns) [] scans = together turns [] scans
together (Keyboard ∷ turns) (key ∷ keys) scans = key ∷ together turns keys scans
together (Scanner ∷ turns) keys [] = together turns keys []
together (Scanner ∷ turns) keys (scan ∷ scans) = scan ∷ together turns keys scans

-- document 02, W-206: the run at both ports, in any turns; without turns the keyboard's run is whole before the scanner's
abbrev pub all_up : List Device → CodeSet → List Event
all_up turns set = together turns (run_at Keyboard set) (run_at Scanner set)

-- then one E and one R
abbrev pub resynchronisation : List Device → CodeSet → List Event
resynchronisation turns set = all_up turns set ++ (Empty ∷ Restart ∷ [])

-- the set in force
abbrev pub set_in : Service → CodeSet
set_in service = set_of service.codes

-- the lock bits that stand: bits 4 to 7 of byte 17
abbrev pub standing_locks : Service → ℕ
standing_locks service = byte17_of service / 16

-- the service newly made on the set in force in another, with the lock bits that stand there
abbrev pub remade : Service → Service
remade service = new_service (set_in service) (standing_locks service)

-- from every mark the run of the set comes out as the run of set 1, byte for byte, and leaves no mark
pub record Translates (codes : Codes) : Type 0 where
  pub bytes : translation codes (all_up_run (set_of codes)) ≡ all_up_run One
  pub codes_left : codes_after codes (all_up_run (set_of codes)) ≡ unmarked_of (set_of codes)

abbrev pub RunTranslates : Type 0
RunTranslates = (codes : Codes) → Translates codes

-- on every service, reached or not, the two runs in any turns, E and R leave the locks and the set as they are and all else as new
abbrev pub OnlyLocksStay : Type 0
OnlyLocksStay =
    (turns : List Device) (service : Service) →
    after service (resynchronisation turns (set_in service)) ≡ with_locks (set_in service) service.shared.locks

-- so that what they leave is a service newly made on that set, with the lock bits that stand then
abbrev pub Resynchronises : Type 0
Resynchronises =
    (turns : List Device) (service : Service) → let settled = after service (resynchronisation turns (set_in service)) in settled ≡ remade settled

-- and these are the bits that stood before
abbrev pub LocksStand : Type 0
LocksStand =
    (turns : List Device) (service : Service) → standing_locks (after service (resynchronisation turns (set_in service))) ≡ standing_locks service
