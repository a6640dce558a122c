-- The proof of `service_making::resynchronise`: the short way and the long way leave one service.
-- Assumes nothing.
use mathlib.Core.Path.{sym}
use mathlib.Core.List.{[]}
use Rattle.events.proofs.Resynchronised.{only_locks_stay}
use borrow.Author.Rules.{rules}
use Rattle.service_making.proofs.resynchronise.Goals as goal

pub returns : goal.returns
returns c = simp (c.quiet.ensures, c.new.ensures, c.set_of-set.ensures) (sym (only_locks_stay [] c.args.service))
