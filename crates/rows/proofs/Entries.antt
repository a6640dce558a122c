-- Entries compared by a test, and a fact about every word of a table from one test that the checker computes.
-- Assumes nothing.
use Prim.Native.Nat.{ℕ, ◌<◌}
use mathlib.Core.Path.{◌≡◌, refl, ap, subst}
use mathlib.Core.Bool.{Bool, true, false, ◌&&◌}
use lib.Dec.{T, eqb, eqb→eq}
use Rattle.bits.proofs.Tests.{and_left, and_right, all_below, below}
use Rattle.word.specs.declared.ScanCode.{ScanCode}
use Rattle.word.specs.declared.Word.{Word}
use Rattle.word.specs.Word.{code_of, table_index}
use Rattle.word.proofs.Laws.{word_equal}
use Rattle.rows.specs.declared.Column.{Column}
use Rattle.rows.specs.declared.Entry.{Entry}
use Rattle.rows.specs.declared.Entry.TheVariants.{NoRow, NoWord, Has}
use Rattle.rows.specs.Lookup.{entry_at}

abbrev pub same : Entry → Entry → Bool
same NoRow NoRow = true
same NoWord NoWord = true
same (Has v) (Has w) = eqb v.scan.0 w.scan.0 && eqb v.ascii.0 w.ascii.0
same NoRow NoWord = false
same NoRow (Has w) = false
same NoWord NoRow = false
same NoWord (Has w) = false
same (Has v) NoRow = false
same (Has v) NoWord = false

pub same_equal : (a b : Entry) → T (same a b) → a ≡ b
same_equal NoRow NoRow t = refl
same_equal NoWord NoWord t = refl
same_equal (Has v) (Has w) t =
    ap Has
    (word_equal (eqb→eq v.scan.0 w.scan.0 (and_left (eqb v.scan.0 w.scan.0) _ t))
    (eqb→eq v.ascii.0 w.ascii.0 (and_right (eqb v.scan.0 w.scan.0) _ t)))
same_equal NoRow NoWord t = absurd t
same_equal NoRow (Has w) t = absurd t
same_equal NoWord NoRow t = absurd t
same_equal NoWord (Has w) t = absurd t
same_equal (Has v) NoRow t = absurd t
same_equal (Has v) NoWord t = absurd t

-- a test of a word with the code where it stands, passed where there is no word
abbrev pub entry_passes : (Word → Bool) → Entry → Bool
entry_passes test NoRow = true
entry_passes test NoWord = true
entry_passes test (Has word) = test word

abbrev pub column_passes : (ScanCode → Word → Bool) → Bool → Column → Bool
column_passes test extended column = all_below (λ (n : ℕ). entry_passes (test (code_of n)) (entry_at extended (code_of n) column)) 256

pub each_word : (test : ScanCode → Word → Bool) (extended : Bool) (column : Column) → T (column_passes test extended column)
    → (code : ScanCode) → table_index code < 256 → (word : Word) → entry_at extended code column ≡ Has word → T (test code word)
each_word test extended column t code h word e =
    subst (λ (x : Entry). T (entry_passes (test code) x)) e
    (below (λ (n : ℕ). entry_passes (test (code_of n)) (entry_at extended (code_of n) column)) 256 t (table_index code) h)
