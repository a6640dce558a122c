-- The proof of `events_keyboard::byte`.
-- Assumes nothing.
use Rattle.events_keyboard.proofs.Devices.{byte_read}
use borrow.Author.Rules.{rules}
use Rattle.events_keyboard.proofs.byte.Goals as goal

pub returns-in-None : goal.returns-in-None
returns-in-None c = simp (c.answered.ensures, c.in-None.is, ← c.with_codes-next.ensures, ← c.translate-translated.ensures, ← (byte_read c.args.device c.args.service c.args.byte))

pub returns-in-Some : goal.returns-in-Some
returns-in-Some c = simp (c.read.ensures, c.in-Some.is, ← c.with_codes-next.ensures, ← c.translate-translated.ensures, ← (byte_read c.args.device c.args.service c.args.byte))
