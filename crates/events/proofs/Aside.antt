-- What an event does not look at, it leaves: what is put aside may be the port of a device or the controller, and one argument serves both.
-- Assumes nothing.
use Rattle.std.specs.Prelude.{Option, None, Some}
use Prim.Native.Nat.{ℕ}
use mathlib.Core.Path.{◌≡◌, refl}
use mathlib.Core.Bool.{true}
use lib.Dec.{eqb}
use Rattle.bits.proofs.Choice.{both}
use Rattle.word.specs.declared.Word.{Word}
use Rattle.word.specs.OldWord.{old_word_of}
use Rattle.port.specs.declared.Effect.{Effect}
use Rattle.port.specs.declared.Effect.TheVariants as effect
use Rattle.controller.specs.declared.Controller.{Controller}
use Rattle.translation.specs.Translation.{translated_of}
use Rattle.state.specs.declared.Device.TheVariants.{Keyboard, Scanner}
use Rattle.state.specs.declared.Ports.{Ports}
use Rattle.state.specs.declared.Service.{Service}
use Rattle.state.specs.State.{with_codes}
use Rattle.state.specs.Flags.{byte17_of, status_high}
use Rattle.answers.specs.declared.Answer.{Answer}
use Rattle.events.specs.declared.Outcome.{Outcome}
use Rattle.events.specs.Outcomes.{outcome, answered_of, offered_of}
use Rattle.events.specs.Keyboard.{broken_of, on_effect, typed_of, read_of, on_passed, key_of, scan_of}
use Rattle.events.specs.Commands.{on_line, acknowledge_of, resend_of}
use Rattle.events.specs.Functions.{as_stored, for_old_program, take_of, look_of, status_of, set_rate_of, store_of, call_of}
use Rattle.events.proofs.Calls.{call_both}

-- the service with other ports and another controller
module _ (ports : Ports → Ports) (controllers : Controller → Controller) where
  abbrev pub aside : Service → Service
  aside service =
      record {
        ports = ports service.ports;
        shared = service.shared;
        queue = service.queue;
        line = service.line;
        codes = service.codes;
        controller = controllers service.controller;
      }

  -- an outcome beside the one there
  pub record Apart (other here : Outcome) : Type 0 where
    pub is : other ≡ outcome (aside here.service) here.answer here.sent

  -- ---- bytes

  pub effect_apart : (service : Service) (e : Effect) → Apart (on_effect (aside service) e) (on_effect service e)
  unfolding on_effect answered_of offered_of broken_of
  effect_apart service effect.Nothing = record { is = refl }
  effect_apart service (effect.Put word) = record { is = refl }
  effect_apart service effect.Break = record { is = refl }
  effect_apart service effect.RestartAsked = record { is = refl }
  effect_apart service effect.Overrun = record { is = refl }

  -- where the keyboard's port is not put aside
  module _ (typed : (service : Service) (byte : ℕ) → Apart (typed_of Keyboard (aside service) byte) (typed_of Keyboard service byte)) where
    read_apart : (service : Service) (byte : ℕ) → Apart (read_of (aside service) byte) (read_of service byte)
    unfolding read_of acknowledge_of resend_of on_line
    read_apart service byte = both Apart _ (record { is = refl }) (both Apart _ (record { is = refl }) (typed service byte))

    passed_apart : (service : Service) (p : Option ℕ) → Apart (on_passed (aside service) p) (on_passed service p)
    unfolding answered_of
    passed_apart service None = record { is = refl }
    passed_apart service (Some byte) = read_apart service byte

    pub key_apart : (service : Service) (byte : ℕ) → Apart (key_of (aside service) byte) (key_of service byte)
    unfolding key_of
    key_apart service byte =
        let translated = translated_of service.codes byte in passed_apart (with_codes service translated.codes) translated.passed

  -- where the scanner's is not
  pub scan_apart : (service : Service) (byte : ℕ) → Apart (typed_of Scanner (aside service) byte) (typed_of Scanner service byte)
      → Apart (scan_of (aside service) byte) (scan_of service byte)
  unfolding scan_of answered_of
  scan_apart service byte typed = both Apart _ (record { is = refl }) typed

  -- ---- functions, by what 02 and 12 show

  abbrev pub StatusApart : Service → (Service → ℕ) → Type 0
  StatusApart service high =
      let other = aside service in Apart (status_of other (high other) (byte17_of other)) (status_of service (high service) (byte17_of service))

  take_apart : (returned : Word → Word) (service : Service) → Apart (take_of returned (aside service)) (take_of returned service)
  unfolding take_of answered_of
  take_apart returned service = record { is = refl }

  look_apart : (returned : Word → Word) (service : Service) → Apart (look_of returned (aside service)) (look_of returned service)
  unfolding look_of answered_of
  look_apart returned service = record { is = refl }

  old_apart : (service : Service) → for_old_program (aside service) ≡ aside (for_old_program service)
  unfolding for_old_program
  old_apart service = refl

  rate_apart : (service : Service) (a b : ℕ) → Apart (set_rate_of (aside service) a b) (set_rate_of service a b)
  unfolding set_rate_of answered_of
  rate_apart service a b = both Apart _ (record { is = refl }) (both Apart _ (record { is = refl }) (record { is = refl }))

  store_apart : (service : Service) (word : Word) → Apart (store_of (aside service) word) (store_of service word)
  unfolding offered_of answered_of
  store_apart service word = record { is = refl }

  answered_apart : (service : Service) (answer : Answer) → Apart (answered_of (aside service) answer) (answered_of service answer)
  unfolding answered_of
  answered_apart service answer = record { is = refl }

  pub call_apart : (service : Service) (function a b : ℕ)
      → (eqb function 0x02 ≡ true → StatusApart service (λ _. 0x00)) → (eqb function 0x12 ≡ true → StatusApart service status_high)
      → Apart (call_of (aside service) function a b) (call_of service function a b)
  call_apart service function a b status extended =
      call_both Apart (aside service) service function a b
      (λ _. rw (old_apart service) (take_apart old_word_of (for_old_program service)))
      (λ _. rw (old_apart service) (look_apart old_word_of (for_old_program service)))
      (take_apart as_stored service) (look_apart as_stored service) status extended
      (rate_apart service a b) (λ _. store_apart service _) (answered_apart service _)
