-- Lines written to a buffer, from its start on.
-- Assumes nothing.
use Prim.Native.Nat.{ℕ, ◌+◌, ◌-◌, ◌≤◌}
use native.Mathlib.Omega.{arith}
use mathlib.Core.Path.{◌≡◌, ap, sym, ◌∙◌}
use mathlib.Core.List.{List, ◌++◌, append_assoc, append-nil}
use lib.ListN.{length, take, drop, length-append, length-drop, take-append-drop, drop_of_length-le}
use lib.Seq.{take_at, drop_at, drop-drop, length-take-le}
use Rattle.trace.specs.declared.Place.{Place}
use Rattle.trace.specs.Parts.{Lines, none_at, text_then}

-- the buffer with n bytes written from an index on
abbrev pub placed : ℕ → ℕ → List ℕ → List ℕ → List ℕ
placed at n bytes text = take at text ++ (bytes ++ drop (at + n) text)

-- the part with the bytes at its start, put back
pub part_placed : (at n : ℕ) (bytes text : List ℕ)
    → take at text ++ ((bytes ++ drop n (drop at text)) ++ drop (length text - at) (drop at text)) ≡ placed at n bytes text
part_placed at n bytes text =
    rw (drop_of_length-le (drop at text) {i = length text - at} (simp length-drop (omega arith)), append-nil (bytes ++ drop n (drop at text)), drop-drop n at text)

-- of all the lines, those before an index are written, the rest is to come, and behind the index the buffer is as it was
pub record Written (all rest : Lines) (before text : List ℕ) (at : ℕ) : Type 0 where
  pub fits : at ≤ length text
  pub lines : all ≡ text_then (take at text) rest
  pub tail : drop at text ≡ drop at before

pub write_on : {all rest : Lines} {before text text' : List ℕ} {at : ℕ} (n : ℕ) (bytes : List ℕ) → Written all (text_then bytes rest) before text at
    → at + n ≤ length text → length bytes ≡ n → text' ≡ placed at n bytes text → Written all rest before text' (at + n)
write_on {rest = rest} {before = before} {text = text} {at = at} n bytes w room l e =
    let start : at ≤ length text = omega arith in
    let tail = drop (at + n) text in
    let ends : length (take at text ++ bytes) ≡ at + n = simp (length-append, length-take-le at text start, l) in
    let joined = e ∙ sym (append_assoc (take at text) bytes tail) in
    record {
      fits = rw (joined, length-append (take at text ++ bytes) tail, ends) (omega arith);
      lines = w.lines ∙ rw (joined, take_at (take at text ++ bytes) tail (at + n) ends, append_assoc);
      tail =
          rw (joined, drop_at (take at text ++ bytes) tail (at + n) ends)
          (sym (drop-drop n at text) ∙ ap (drop n) w.tail ∙ drop-drop n at before);
    }

-- with no line to come, the buffer has them all at its start
pub record WrittenAll (all : Lines) (before text : List ℕ) (n : ℕ) (place : Place) : Type 0 where
  pub left : place ≡ all.place
  pub size : n ≡ length all.text
  pub buffer : text ≡ all.text ++ drop (length all.text) before

pub written_all : {all : Lines} {before text : List ℕ} {n : ℕ} {place : Place} → Written all (none_at place) before text n → WrittenAll all before text n place
written_all {text = text} {n = n} w =
    let size = length-take-le n text w.fits in
    record {
      left = rw w.lines;
      size = rw (w.lines, append-nil, size);
      buffer = rw (w.lines, append-nil, size, ← w.tail) (sym (take-append-drop n text));
    }
