-- The proof of `pack_reading::read_tagged`.
-- Assumes nothing.
use mathlib.Core.Path.{sym}
use borrow.Author.Tests.{ne_eqb}
use Rattle.std.proofs.lemmas.Result.{err_from_is_err_and}
use Rattle.bits.specs.Choice.{when◌then◌else◌}
use Rattle.events.specs.declared.Event.TheVariants.{Key, Scan}
use Rattle.pack.specs.Reading.{tagged_of}
use Rattle.pack_reading.proofs.read_tagged.Goals as goal

pub returns-in_err-read_byte-in-75 : goal.returns-in_err-read_byte-in-75
unfolding tagged_of when◌then◌else◌
returns-in_err-read_byte-in-75 c =
    let p = err_from_is_err_and c.from_residual.result c.from_residual.ensures.1 in
    rw (p.1, p.2, c.in-75.is) (sym (c.in_err-read_byte-in-75.ensures Key))

pub returns-in_ok-read_byte-in-75 : goal.returns-in_ok-read_byte-in-75
unfolding tagged_of when◌then◌else◌
returns-in_ok-read_byte-in-75 c = rw c.in-75.is (sym (c.in_ok-read_byte-in-75.ensures Key))

pub returns-in-67 : goal.returns-in-67
unfolding tagged_of when◌then◌else◌
returns-in-67 c = rw c.in-67.is c.read_call.ensures

pub returns-in-80 : goal.returns-in-80
unfolding tagged_of when◌then◌else◌
returns-in-80 c = rw c.in-80.is

pub returns-in-84 : goal.returns-in-84
unfolding tagged_of when◌then◌else◌
returns-in-84 c = rw c.in-84.is

pub returns-in-69 : goal.returns-in-69
unfolding tagged_of when◌then◌else◌
returns-in-69 c = rw c.in-69.is

pub returns-in-82 : goal.returns-in-82
unfolding tagged_of when◌then◌else◌
returns-in-82 c = rw c.in-82.is

pub returns-in_err-read_byte-in-83 : goal.returns-in_err-read_byte-in-83
unfolding tagged_of when◌then◌else◌
returns-in_err-read_byte-in-83 c =
    let p = err_from_is_err_and c.from_residual-in_err-read_byte-in-83.result c.from_residual-in_err-read_byte-in-83.ensures.1 in
    rw (p.1, p.2, c.in-83.is) (sym (c.in_err-read_byte-in-83.ensures Scan))

pub returns-in_ok-read_byte-in-83 : goal.returns-in_ok-read_byte-in-83
unfolding tagged_of when◌then◌else◌
returns-in_ok-read_byte-in-83 c = rw c.in-83.is (sym (c.in_ok-read_byte-in-83.ensures Scan))

pub returns-in_default : goal.returns-in_default
unfolding tagged_of when◌then◌else◌
returns-in_default c =
    let r = c.in_default.in_default-own.rest in
    simp (ne_eqb _ _ r.0.0.0.0.0.0.1, ne_eqb _ _ r.0.0.0.0.0.1, ne_eqb _ _ r.0.0.0.0.1, ne_eqb _ _ r.0.0.0.1, ne_eqb _ _ r.0.0.1, ne_eqb _ _ r.0.1, ne_eqb _ _ r.1)
