-- Enhanced words passed over one at a time: what one removal comes to, and what every removal keeps.
-- Assumes nothing.
use Prim.Native.Nat.{ℕ, zero, suc, ◌<◌}
use native.Mathlib.Nat.{eq-zero-or-pos}
use native.Mathlib.Omega.{arith}
use mathlib.Core.Path.{◌≡◌, refl, sym, ◌∙◌, ap}
use mathlib.Core.Logic.{⊎_elim}
use mathlib.Core.Bool.{true, false, true≢false}
use Rattle.bits.specs.Choice.{when◌then◌else◌}
use Rattle.bits.proofs.Choice.{either}
use Rattle.queue.specs.declared.Queue.{Queue}
use Rattle.queue.specs.Queue.{held_in, rest_of}
use Rattle.queue.specs.Enhanced.{oldest_enhanced, starts_enhanced, past_at_most, past_enhanced}
use Rattle.queue.proofs.Calls.{oldest_none, rest_some}

-- where the oldest word is enhanced there is one, and the rest has one word fewer
pub one_fewer : (queue : Queue) → starts_enhanced queue ≡ true → held_in queue ≡ suc (held_in (rest_of queue))
one_fewer queue e =
    ⊎_elim (λ none. absurd (true≢false (sym e ∙ ap oldest_enhanced (oldest_none queue none))))
    (λ (some : 0 < held_in queue). rw (rest_some queue some) (omega arith)) (eq-zero-or-pos (held_in queue))

pub past_one : (queue : Queue) → starts_enhanced queue ≡ true → past_enhanced queue ≡ past_enhanced (rest_of queue)
unfolding past_enhanced when◌then◌else◌
past_one queue e = rw (one_fewer queue e) (simp e)

past_none : (n : ℕ) (queue : Queue) → starts_enhanced queue ≡ false → past_at_most n queue ≡ queue
unfolding when◌then◌else◌
past_none zero queue e = refl
past_none (suc n) queue e = simp e

pub past_end : (queue : Queue) → starts_enhanced queue ≡ false → past_enhanced queue ≡ queue
unfolding past_enhanced
past_end queue e = past_none (held_in queue) queue e

past_keeps_at : (P : Queue → Type 0) → ((queue : Queue) → P queue → P (rest_of queue)) → (n : ℕ) (queue : Queue) → P queue → P (past_at_most n queue)
past_keeps_at P rest zero queue h = h
past_keeps_at P rest (suc n) queue h = either P _ _ _ (past_keeps_at P rest n (rest_of queue) (rest queue h)) h

-- what the removal of a word keeps, the removal of all enhanced ones keeps
pub past_keeps : (P : Queue → Type 0) → ((queue : Queue) → P queue → P (rest_of queue)) → (queue : Queue) → P queue → P (past_enhanced queue)
unfolding past_enhanced
past_keeps P rest queue h = past_keeps_at P rest (held_in queue) queue h
