-- The reader as one test: a number is accepted exactly where it has none of the faults.
-- Assumes nothing.
use Rattle.std.specs.Prelude.{Result, Ok, Err}
use mathlib.Core.Path.{◌≡◌}
use Prim.Native.Nat.{ℕ, ◌%◌, ◌<◌}
use native.Mathlib.Omega.{arith}
use lib.Dec.{leb}
use lib.Count.{ones}
use borrow.Author.Tests.{leb-false, eqb-true, not-false, lt-leb, eq-eqb}
use Rattle.bits.specs.Choice.{when◌then◌else◌}
use Rattle.bits.proofs.Choice.{by_test}
use Rattle.bits.proofs.Tests.{neither}
use Rattle.frame.specs.declared.Fault.{Fault}
use Rattle.frame.specs.Frame.{start_of, data_of, data_and_parity_of, stop_of, read_frame}

pub record Faultless (frame byte : ℕ) : Type 0 where
  pub below : frame < 2048
  pub start : start_of frame ≡ 0
  pub parity : ones (data_and_parity_of frame) % 2 ≡ 1
  pub stop : stop_of frame ≡ 1
  pub carries : data_of frame ≡ byte

pub faultless_read : (frame byte : ℕ) → Faultless frame byte → read_frame frame ≡ Ok byte
unfolding read_frame when◌then◌else◌
faultless_read frame byte h =
    simp (lt-leb _ _ h.below, eq-eqb _ _ h.start, eq-eqb _ _ h.parity, eq-eqb _ _ h.stop, h.carries)

refused_is_no_byte : (fault : Fault) (byte : ℕ) → Err fault ≡ Ok byte → ⊥
refused_is_no_byte fault byte e = let z : ◌≡◌ {A = ℕ} 0 1 = cc in omega arith

pub read_faultless : (frame byte : ℕ) → read_frame frame ≡ Ok byte → Faultless frame byte
unfolding read_frame
read_faultless frame byte =
    let Carries : Result ℕ Fault → Type 0 = λ reading. reading ≡ Ok byte → Faultless frame byte in
    by_test Carries _ _ _ (λ _ e. absurd (refused_is_no_byte _ byte e)) (λ start.
    by_test Carries _ _ _ (λ _ e. absurd (refused_is_no_byte _ byte e)) (λ parity.
    by_test Carries _ _ _ (λ _ e. absurd (refused_is_no_byte _ byte e)) (λ stop e.
    record {
      below = leb-false _ _ (neither (leb 2048 frame) _ start).first;
      start = eqb-true _ _ (not-false _ (neither (leb 2048 frame) _ start).second);
      parity = eqb-true _ _ (not-false _ parity);
      stop = eqb-true _ _ (not-false _ stop);
      carries = cc;
    })))
