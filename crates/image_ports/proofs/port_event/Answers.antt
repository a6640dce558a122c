-- The proof of `image_ports::port_event`.
-- Assumes nothing.
use Rattle.image_calls.proofs.PortCalls.{put_together}
use borrow.Author.Rules.{rules}
use Rattle.image_ports.proofs.port_event.Goals as goal

pub returns : goal.returns
returns c =
    simp (
      c.is_key_in.ensures,
      c.interrupt_in.ensures,
      c.status.ensures,
      c.byte_in.ensures,
      c.on_response-changed.ensures,
      c.respond-responded.ensures,
      c.controller_of.ensures,
    )
    (put_together c.args.image c.args.event)
