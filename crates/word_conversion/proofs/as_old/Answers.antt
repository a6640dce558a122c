-- The proof of `word_conversion::as_old`.
-- Assumes nothing.
use mathlib.Core.Path.{sym}
use Rattle.word.proofs.Laws.{other_word_stays}
use Rattle.word_conversion.proofs.as_old.Goals as goal

pub returns : goal.returns
returns c =
    sym (other_word_stays c.args.word (rw (← c.low.ensures, ← c.high.ensures) c.if-high-low.false))
