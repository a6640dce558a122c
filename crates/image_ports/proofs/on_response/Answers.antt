-- The proof of `image_ports::on_response`.
-- Assumes nothing.
use Rattle.image_calls.proofs.PortCalls.{nothing_fed, key_fed, turned_away_lem}
use borrow.Author.Rules.{rules}
use Rattle.image_ports.proofs.on_response.Goals as goal

pub returns-in-Accepted : goal.returns-in-Accepted
returns-in-Accepted c =
    simp (c.standing_anew.ensures, c.on_controller-next.ensures, c.image_of.ensures, c.in-Accepted.is)
    (nothing_fed c.args.image c.args.left)

pub returns-in-Interrupt : goal.returns-in-Interrupt
returns-in-Interrupt c =
    simp (c.standing_anew-in-Interrupt.ensures, c.on_controller-next.ensures, c.image_of.ensures, c.in-Interrupt.is)
    (nothing_fed c.args.image c.args.left)

pub returns-in-Byte : goal.returns-in-Byte
returns-in-Byte c =
    simp (c.standing_anew-in-Byte.ensures, c.on_controller-next.ensures, c.image_of.ensures, c.in-Byte.is)
    (nothing_fed c.args.image c.args.left)

pub returns-in-Key : goal.returns-in-Key
returns-in-Key c =
    simp (
      c.event_on_copy.ensures,
      c.tagged_of.ensures,
      c.on_controller-next.ensures,
      c.image_of.ensures,
      c.in-Key.is,
    )
    (key_fed c.args.image c.args.left _)

pub returns-in-Refused : goal.returns-in-Refused
returns-in-Refused c =
    simp (c.refused.ensures, c.in-Refused.is) (turned_away_lem c.args.image c.args.left _)
