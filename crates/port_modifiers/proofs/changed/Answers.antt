-- The proof of `port_modifiers::changed`.
-- Assumes nothing.
use mathlib.Core.Path.{sym, ◌∙◌}
use Rattle.bits.specs.Choice.{when◌then◌else◌}
use Rattle.port.specs.Flags.{flags_changed}
use Rattle.port_modifiers.proofs.Unnamed.{not_holds, unnamed}
use borrow.Author.Rules.{rules}
use Rattle.port_modifiers.proofs.changed.Goals as goal

pub returns-then-not-is_named : goal.returns-then-not-is_named
returns-then-not-is_named c =
    c.result.ensures ∙ sym (unnamed _ _ _ (sym c.is_named.ensures ∙ c.if-not-is_named.true))

pub returns-then-is-down : goal.returns-then-is-down
unfolding flags_changed when◌then◌else◌
returns-then-is-down c = simp (c.ended.ensures, c.if-is-down.true, ← c.down.ensures, ← c.is.ensures, ← c.locks_after-locks.ensures, ← c.held_after-held.ensures, ← c.modifiers_after-modifiers.ensures)

pub returns : goal.returns
unfolding flags_changed when◌then◌else◌
returns c = simp (c.result-2.ensures, c.if-is-down.false, ← c.down.ensures, ← c.is.ensures, ← c.locks_after-locks.ensures, ← c.held_after-held.ensures, ← c.modifiers_after-modifiers.ensures)
