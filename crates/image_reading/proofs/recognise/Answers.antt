-- The proof of `image_reading::recognise`.
-- Assumes nothing.
use borrow.Author.Tests.{ne_eqb}
use Rattle.bits.specs.Choice.{when◌then◌else◌}
use Rattle.image_calls.specs.Exports.{recognised}
use Rattle.image_reading.proofs.recognise.Goals as goal

pub returns-in-75 : goal.returns-in-75
unfolding recognised when◌then◌else◌
returns-in-75 c = rw c.in-75.is

pub returns-in-67 : goal.returns-in-67
unfolding recognised when◌then◌else◌
returns-in-67 c = rw c.in-67.is

pub returns-in-80 : goal.returns-in-80
unfolding recognised when◌then◌else◌
returns-in-80 c = rw c.in-80.is

pub returns-in-84 : goal.returns-in-84
unfolding recognised when◌then◌else◌
returns-in-84 c = rw c.in-84.is

pub returns-in-69 : goal.returns-in-69
unfolding recognised when◌then◌else◌
returns-in-69 c = rw c.in-69.is

pub returns-in-82 : goal.returns-in-82
unfolding recognised when◌then◌else◌
returns-in-82 c = rw c.in-82.is

pub returns-in-83 : goal.returns-in-83
unfolding recognised when◌then◌else◌
returns-in-83 c = rw c.in-83.is

pub returns-in_default : goal.returns-in_default
unfolding recognised when◌then◌else◌
returns-in_default c =
    let r = c.in_default.in_default-own.rest in
    simp (ne_eqb _ _ r.0.0.0.0.0.0.1, ne_eqb _ _ r.0.0.0.0.0.1, ne_eqb _ _ r.0.0.0.0.1, ne_eqb _ _ r.0.0.0.1, ne_eqb _ _ r.0.0.1, ne_eqb _ _ r.0.1, ne_eqb _ _ r.1)
