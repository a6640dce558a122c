-- A rate and a LED value that wait for eleven bytes, by computation.
-- Assumes nothing.
use Prim.Native.Nat.{ℕ}
use native.Mathlib.Omega.{arith}
use mathlib.Core.Bool.{Bool, true, false, ◌&&◌}
use mathlib.Core.Path.{◌≡◌, refl, sym, ◌∙◌}
use mathlib.Core.List.{List, [], ◌∷◌, ◌++◌, map}
use lib.Dec.{eqb}
use borrow.Author.Tests.{eqb-true}
use Rattle.bits.proofs.Tests.{not_both}
use Rattle.line.specs.declared.Kind.{Kind}
use Rattle.line.specs.declared.Kind.TheVariants.{Led, Rate}
use Rattle.translation.specs.declared.CodeSet.TheVariants.{One}
use Rattle.state.specs.declared.Service.{Service}
use Rattle.state.specs.State.{new_service}
use Rattle.events.specs.declared.Event.{Event}
use Rattle.events.specs.declared.Event.TheVariants.{Key, Call, Poll, TimeOut, Empty, Restart, Scan}
use Rattle.events.specs.Commands.{led_value}
use Rattle.events.specs.Run.{next}
use Rattle.events.proofs.Model.{model}
use Rattle.lists.specs.Items.{runs, step_item, after_items}
use Rattle.lists.specs.Turns.{Keeps, AllKeep, slowly, rate_earlier, led_earlier, BothReachEleven}
use Rattle.lists.proofs.TurnsItem.{both_true}

-- polls that find a LED value, and replies
abbrev standing : ℕ → Service → List Event → Bool
standing value service [] = true
standing value service (Key byte ∷ more) = standing value (next service (Key byte)) more
standing value service (Call function a b ∷ more) = false
standing value service (Poll ∷ more) = eqb (led_value service.shared.locks) value && standing value (next service Poll) more
standing value service (TimeOut ∷ more) = false
standing value service (Empty ∷ more) = false
standing value service (Restart ∷ more) = false
standing value service (Scan byte ∷ more) = false

key_keeps : (kind : Kind) (operand : ℕ) (service : Service) (byte : ℕ) → Keeps kind operand service (step_item service (runs (Key byte)))
unfolding step_item
key_keeps Led operand service byte =
    record { locks = λ ran. let z : ◌≡◌ {A = ℕ} 0 1 = cc ran in absurd (omega arith); no_restart = λ ran. let z : ◌≡◌ {A = ℕ} 0 1 = cc ran in omega arith }
key_keeps Rate operand service byte =
    record { no_rate = λ a. let z : ◌≡◌ {A = ℕ} 0 1 = cc a.ran in omega arith; no_restart = λ ran. let z : ◌≡◌ {A = ℕ} 0 1 = cc ran in omega arith }

poll_keeps : (kind : Kind) (operand value : ℕ) (service : Service) → (kind ≡ Led → operand ≡ value) → led_value service.shared.locks ≡ value →
    Keeps kind operand service (step_item service (runs Poll))
unfolding step_item
poll_keeps Led operand value service same stands =
    record { locks = λ ran. stands ∙ sym (same refl); no_restart = λ ran. let z : ◌≡◌ {A = ℕ} 0 1 = cc ran in omega arith }
poll_keeps Rate operand value service same stands =
    record { no_rate = λ a. let z : ◌≡◌ {A = ℕ} 0 1 = cc a.ran in omega arith; no_restart = λ ran. let z : ◌≡◌ {A = ℕ} 0 1 = cc ran in omega arith }

all_keep : (kind : Kind) (operand value : ℕ) (service : Service) (events : List Event) → (kind ≡ Led → operand ≡ value) → standing value service events ≡ true →
    AllKeep kind operand service (map runs events)
unfolding step_item
all_keep kind operand value service [] same t = tt
all_keep kind operand value service (Key byte ∷ more) same t = (key_keeps kind operand service byte, all_keep kind operand value (next service (Key byte)) more same t)
all_keep kind operand value service (Call function a b ∷ more) same t = not_both t refl
all_keep kind operand value service (Poll ∷ more) same t =
    let tests = both_true (eqb (led_value service.shared.locks) value) _ t in
    (poll_keeps kind operand value service same (eqb-true _ value tests.0), all_keep kind operand value (next service Poll) more same tests.1)
all_keep kind operand value service (TimeOut ∷ more) same t = not_both t refl
all_keep kind operand value service (Empty ∷ more) same t = not_both t refl
all_keep kind operand value service (Restart ∷ more) same t = not_both t refl
all_keep kind operand value service (Scan byte ∷ more) same t = not_both t refl

rate_is_no_led : {A : Type 0} → Rate ≡ Led → A
rate_is_no_led is = let z : ◌≡◌ {A = ℕ} 0 1 = cc is in absurd (omega arith)

pub both_reach_eleven : BothReachEleven
unfolding model step_item
both_reach_eleven = record {
  rate = record {
    wanted = refl;
    keep = all_keep Rate 2 4 (after_items (new_service One 0) rate_earlier) (slowly ++ (Poll ∷ slowly)) rate_is_no_led refl;
    bytes = refl;
    then_first = refl;
  };
  led = record {
    wanted = refl;
    keep = all_keep Led 4 4 (after_items (new_service One 0) led_earlier) (slowly ++ (Poll ∷ slowly)) (λ _. refl) refl;
    bytes = refl;
    then_first = refl;
  };
}
