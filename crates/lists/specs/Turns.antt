-- Turns, document 02, W-208: how many bytes are sent before a waiting rate or a due LED value has its turn, over all that a list can hold. That no
-- command sends more than six is in `SentOverItems`. Turns.antt of proofs/ proves each sentence.
-- Assumes nothing.
use Rattle.std.specs.Prelude.{ℕ, ◌+◌, ◌*◌, ◌≤◌, Bool, true, false, ◌&&◌, ◌||◌, ◌≡◌, List, [], ◌∷◌, ◌++◌, map, eqb}
use Rattle.bits.specs.Choice.{when◌then◌else◌}
use Rattle.line.specs.declared.Kind.{Kind}
use Rattle.line.specs.declared.Kind.TheVariants.{Led, Rate}
use Rattle.line.specs.declared.Phase.TheVariants.{Awaiting}
use Rattle.line.specs.Poll.{first_byte_of}
use Rattle.line.specs.Turns.{Wanted}
use Rattle.translation.specs.declared.CodeSet.{CodeSet}
use Rattle.translation.specs.declared.CodeSet.TheVariants.{One}
use Rattle.state.specs.declared.Service.{Service}
use Rattle.state.specs.State.{new_service}
use Rattle.events.specs.declared.Event.{Event}
use Rattle.events.specs.declared.Event.TheVariants.{Key, Call, Poll, Restart}
use Rattle.events.specs.Commands.{led_value}
use Rattle.events.specs.Run.{Shown}
use Rattle.events.specs.Sent.{bytes_shown}
use Rattle.lists.specs.Items.{Item, runs, Stepped, where_ran, step_item, next_item, after_items, seen_items, shown_in}

-- ---- 1. the bytes before a command

-- its first byte: ED or F3 to send, and one byte sent by the command
abbrev pub is_first : Kind → Shown → Bool
is_first kind shown = eqb shown.ans 0x0C && (eqb shown.word (first_byte_of kind) && eqb shown.sent 1)

-- the bytes that a list shows as sent before the first byte of a kind's command, or in all where it shows none
abbrev pub bytes_before : Kind → List Shown → ℕ
bytes_before kind [] = 0
bytes_before kind (shown ∷ more) = when is_first kind shown then 0 else bytes_shown shown + bytes_before kind more

-- ---- 2. a rate that is kept, locks that stand

-- function 03 ran and was not refused
pub record AcceptsRate (stepped : Stepped) : Type 0 where
  pub delay : ℕ
  pub rate : ℕ
  pub ran : stepped.ran ≡ runs (Call 0x03 delay rate) ∷ []
  pub refusal : stepped.seen.refusal ≡ 0

-- no rate is accepted, and no R runs
pub record KeepsRate (stepped : Stepped) : Type 0 where
  pub no_rate : AcceptsRate stepped → ⊥
  pub no_restart : stepped.ran ≡ runs Restart ∷ [] → ⊥

-- a poll finds the locks at this LED value, and no R runs
pub record Stands (value : ℕ) (service : Service) (stepped : Stepped) : Type 0 where
  pub locks : stepped.ran ≡ runs Poll ∷ [] → led_value service.shared.locks ≡ value
  pub no_restart : stepped.ran ≡ runs Restart ∷ [] → ⊥

-- an item that leaves a wanted command wanted, unless it starts
abbrev pub Keeps : Kind → ℕ → Service → Stepped → Type 0
Keeps Led value service stepped = Stands value service stepped
Keeps Rate rate service stepped = KeepsRate stepped

abbrev pub AllKeep : Kind → ℕ → Service → List Item → Type 0
AllKeep kind operand service [] = Unit {0}
AllKeep kind operand service (item ∷ more) =
    Keeps kind operand service (step_item service item) × AllKeep kind operand (next_item service item) more

-- ---- 3. at most eleven bytes

-- from any moment on at which a command is wanted: so new rates hold no due LED value back for longer
abbrev pub BeforeItsTurn : Type 0
BeforeItsTurn =
    (kind : Kind) (operand : ℕ) (set : CodeSet) (locks : ℕ) (earlier later : List Item) →
    let there = after_items (new_service set locks) earlier in
    Wanted kind operand there.line → AllKeep kind operand there later → bytes_before kind (shown_in (seen_items there later)) ≤ 11

-- the request: between the acceptance of a rate and its F3, while the rate is kept
abbrev pub BeforeItsF3 : Type 0
BeforeItsF3 =
    (set : CodeSet) (locks : ℕ) (earlier : List Item) (item : Item) (later : List Item) →
    let stepped = step_item (after_items (new_service set locks) earlier) item in
    (accepted : AcceptsRate stepped) → AllKeep Rate (32 * accepted.delay + accepted.rate) stepped.service later →
    bytes_before Rate (shown_in (seen_items stepped.service later)) ≤ 11

-- ---- 4. and it is its own F3, or ED

-- what an item shows that ran
abbrev pub shown_by : Stepped → List Shown
shown_by stepped = where_ran stepped.seen.refusal stepped.seen.shown

abbrev pub shows_first : Kind → List Shown → Bool
shows_first kind [] = false
shows_first kind (shown ∷ more) = is_first kind shown || shows_first kind more

-- a wanted command starts at a poll that shows its first byte, and has its operand; else it stays wanted, and no such byte is shown
pub data Fate (kind : Kind) (operand : ℕ) (stepped : Stepped) : Type 0 where
  starts :
      stepped.ran ≡ runs Poll ∷ [] → shows_first kind (shown_by stepped) ≡ true →
      stepped.service.line.phase ≡ Awaiting (record { kind = kind; value = operand; operand = false; sends = 1; sent = 1 }) →
      Fate kind operand stepped
  waits : Wanted kind operand stepped.service.line → shows_first kind (shown_by stepped) ≡ false → Fate kind operand stepped

abbrev pub InItsTurn : Type 0
InItsTurn =
    (kind : Kind) (operand : ℕ) (set : CodeSet) (locks : ℕ) (earlier : List Item) (item : Item) →
    let there = after_items (new_service set locks) earlier in
    Wanted kind operand there.line → Keeps kind operand there (step_item there item) → Fate kind operand (step_item there item)

-- ---- 5. eleven are reached by both

-- two more sends of the byte under way, and its acknowledgement
abbrev pub repeated : List Event
repeated = Key 0xFE ∷ Poll ∷ Key 0xFE ∷ Poll ∷ Key 0xFA ∷ []

-- all that a command can send behind its first byte: five bytes
abbrev pub slowly : List Event
slowly = repeated ++ (Poll ∷ repeated)

-- what runs and what starts behind it, each as slowly as can be: eleven bytes
abbrev pub two_commands : List Item
two_commands = map runs (slowly ++ (Poll ∷ slowly))

-- a command is wanted after a list; eleven bytes later, and no earlier, a poll shows its first
pub record ReachesEleven (kind : Kind) (operand : ℕ) (earlier : List Item) : Type 0 where
  pub wanted : Wanted kind operand (after_items (new_service One 0) earlier).line
  pub keep : AllKeep kind operand (after_items (new_service One 0) earlier) two_commands
  pub bytes : bytes_before kind (shown_in (seen_items (after_items (new_service One 0) earlier) two_commands)) ≡ 11
  pub then_first :
      shows_first kind (shown_by (step_item (after_items (after_items (new_service One 0) earlier) two_commands) (runs Poll))) ≡ true

-- LED value 0 is done, a rate's command sends its first byte, Caps makes LED value 4 due, and a rate is accepted
abbrev pub rate_earlier : List Item
rate_earlier = map runs (Poll ∷ Key 0xFA ∷ Poll ∷ Key 0xFA ∷ Call 0x03 0 1 ∷ Poll ∷ Key 0x3A ∷ Call 0x03 0 2 ∷ [])

-- a LED command sends its first byte, a rate is accepted, and Caps makes LED value 4 due
abbrev pub led_earlier : List Item
led_earlier = map runs (Poll ∷ Call 0x03 0 1 ∷ Key 0x3A ∷ [])

pub record BothReachEleven : Type 0 where
  pub rate : ReachesEleven Rate 2 rate_earlier
  pub led : ReachesEleven Led 4 led_earlier
