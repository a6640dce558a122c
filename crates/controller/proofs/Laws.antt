-- The laws that Laws.antt of specs/ states, response by response.
-- Assumes nothing.
use Prim.Native.Nat.{ℕ}
use mathlib.Core.Path.{◌≡◌, refl, ap}
use mathlib.Core.Bool.{Bool, true, false}
use mathlib.Core.Logic.{inl, inr}
use Rattle.bits.specs.Choice.{when◌then◌else◌}
use Rattle.bits.specs.Bits.{weight_of, byte_of, bit0, bit4}
use Rattle.bits.proofs.Choice.{either, by_test}
use Rattle.controller.specs.State.{is_full, status_of}
use Rattle.controller.specs.PortEvents.{responds, holding, from_keyboard_of, read60_of, write60_of, write64_of, responded_of}
use Rattle.controller.specs.Laws.{RefusedChangesNothing, OneOfFour, StatusIsOneOfFour, KeyReadAtOnce, FedFrom, OnlyKeysAreFed, is_from_keyboard, RaisedBy, OnlyKeysInterrupt}
use Rattle.controller.specs.declared.Buffer.{Buffer}
use Rattle.controller.specs.declared.Buffer.TheVariants as buffer
use Rattle.controller.specs.declared.Controller.{Controller}
use Rattle.controller.specs.declared.PortEvent.{PortEvent}
use Rattle.controller.specs.declared.PortEvent.TheVariants.{FromKeyboard, Read60, Read64, Write60, Write64}
use Rattle.controller.specs.declared.PortRefusal.{PortRefusal}
use Rattle.controller.specs.declared.Response.{Response}
use Rattle.controller.specs.declared.Response.TheVariants.{Accepted, Interrupt, Byte, Key, Refused}
use Rattle.controller.specs.declared.Responded.{Responded}

-- ---- by what comes of an event

module _ (P : Responded → Type 0) (controller : Controller)
    (accepted : (next : Controller) → P (responds next Accepted))
    (byte_read : (next : Controller) (byte : ℕ) → P (responds next (Byte byte)))
    (refused : (refusal : PortRefusal) → P (responds controller (Refused refusal))) where
  by_read : (held : Buffer) → ((next : Controller) (byte : ℕ) → held ≡ buffer.Key byte → P (responds next (Key byte))) → P (read60_of controller held)
  unfolding read60_of
  by_read (buffer.Empty last) key = byte_read controller last
  by_read (buffer.Key byte) key = key _ byte refl
  by_read (buffer.Answer byte) key = byte_read _ byte

  by_keyboard : (byte : ℕ) → ((next : Controller) → bit0 controller.command ≡ true → P (responds next Interrupt)) → P (from_keyboard_of controller byte)
  unfolding from_keyboard_of
  by_keyboard byte interrupt =
      either P _ _ _ (refused _) (by_test (λ (r : Response). P (responds (holding controller (buffer.Key byte)) r)) _ _ _ (interrupt _) (λ _. accepted _))

  by_write : (byte : ℕ) → P (write64_of controller byte)
  unfolding write64_of
  by_write byte =
      either P _ _ _ (accepted _)
      (either P _ _ _ (accepted _) (either P _ _ _ (accepted _) (either P _ _ _ (accepted _) (either P _ _ _ (accepted _) (refused _)))))

  by_event : (event : PortEvent) → ((next : Controller) → RaisedBy controller event → P (responds next Interrupt))
      → ((next : Controller) (byte : ℕ) → FedFrom controller event byte → P (responds next (Key byte))) → P (responded_of controller event)
  unfolding responded_of write60_of
  by_event (FromKeyboard byte) interrupt key = by_keyboard byte (λ next on. interrupt next (record { from_keyboard = refl; enabled = on }))
  by_event Read60 interrupt key = by_read controller.buffer (λ next byte is. key next byte (record { read = refl; key = is }))
  by_event Read64 interrupt key = byte_read _ _
  by_event (Write60 byte) interrupt key = either P _ _ _ (accepted _) (refused _)
  by_event (Write64 byte) interrupt key = by_write byte

pub refused_changes_nothing : RefusedChangesNothing
refused_changes_nothing controller event refusal =
    by_event (λ (r : Responded). r.response ≡ Refused refusal → r.controller ≡ controller) controller
    (λ _ e. cc) (λ _ _ e. cc) (λ _ _. refl) event (λ _ _ e. cc) (λ _ _ _ e. cc)

pub only_keys_are_fed : OnlyKeysAreFed
only_keys_are_fed controller event byte e =
    record {
      read =
          by_event (λ (r : Responded). r.response ≡ Key byte → event ≡ Read60) controller
          (λ _ e. cc) (λ _ _ e. cc) (λ _ e. cc) event (λ _ _ e. cc) (λ _ _ from _. from.read) e;
      key =
          by_event (λ (r : Responded). r.response ≡ Key byte → controller.buffer ≡ buffer.Key byte) controller
          (λ _ e. cc) (λ _ _ e. cc) (λ _ e. cc) event (λ _ _ e. cc) (λ _ _ from e. let is = from.key in cc) e;
    }

pub only_keys_interrupt : OnlyKeysInterrupt
only_keys_interrupt controller event e =
    record {
      from_keyboard =
          by_event (λ (r : Responded). r.response ≡ Interrupt → is_from_keyboard event ≡ true) controller
          (λ _ e. cc) (λ _ _ e. cc) (λ _ e. cc) event (λ _ by _. by.from_keyboard) (λ _ _ _ e. cc) e;
      enabled =
          by_event (λ (r : Responded). r.response ≡ Interrupt → bit0 controller.command ≡ true) controller
          (λ _ e. cc) (λ _ _ e. cc) (λ _ e. cc) event (λ _ by _. by.enabled) (λ _ _ _ e. cc) e;
    }

-- ---- the status

one_of_four : (full commanded : Bool) → OneOfFour (byte_of full false true commanded true false false false)
unfolding byte_of weight_of when◌then◌else◌
one_of_four false false = inl refl
one_of_four true false = inr (inl refl)
one_of_four false true = inr (inr (inl refl))
one_of_four true true = inr (inr (inr refl))

pub status_is_one_of_four : StatusIsOneOfFour
unfolding status_of
status_is_one_of_four controller = one_of_four (is_full controller.buffer) controller.commanded

-- ---- a byte that is accepted and read at once

pub accepts : (controller : Controller) (byte : ℕ) → is_full controller.buffer ≡ false → bit4 controller.command ≡ false
    → responded_of controller (FromKeyboard byte)
    ≡ responds (holding controller (buffer.Key byte)) (when bit0 controller.command then Interrupt else Accepted)
unfolding responded_of from_keyboard_of when◌then◌else◌
accepts controller byte empty enabled = simp (empty, enabled)

pub key_read_at_once : KeyReadAtOnce
unfolding responded_of read60_of
key_read_at_once controller byte empty enabled =
    let held = accepts controller byte empty enabled in
    record {
      accepted = ap (λ (r : Responded). r.response) held;
      fed = ap (λ (r : Responded). responded_of r.controller Read60) held;
      once = refl;
    }
