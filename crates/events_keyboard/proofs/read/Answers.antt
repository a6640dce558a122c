-- The proof of `events_keyboard::read`.
-- Assumes nothing.
use borrow.Author.Tests.{eq-eqb, ne_eqb}
use Rattle.events_keyboard.proofs.Devices.{fa_read, fe_read, key_read}
use borrow.Author.Rules.{rules}
use Rattle.events_keyboard.proofs.read.Goals as goal

pub returns-then-byte-eq250 : goal.returns-then-byte-eq250
returns-then-byte-eq250 c = simp c.acknowledge.ensures (fa_read c.args.device c.args.service c.args.byte (eq-eqb _ _ c.if-byte-eq250.true))

pub returns-then-byte-eq254 : goal.returns-then-byte-eq254
returns-then-byte-eq254 c = simp c.resend.ensures (fe_read c.args.device c.args.service c.args.byte (ne_eqb _ _ c.if-byte-eq250.false) (eq-eqb _ _ c.if-byte-eq254.true))

pub returns : goal.returns
returns c = simp c.typed.ensures (key_read c.args.device c.args.service c.args.byte (ne_eqb _ _ c.if-byte-eq250.false) (ne_eqb _ _ c.if-byte-eq254.false))
