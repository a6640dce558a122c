-- Every entry of both tables is, to an old program, the former one: one test, computed row by row.
-- Assumes nothing.
use mathlib.Core.Path.{◌≡◌, refl, ap, sym, subst}
use mathlib.Core.Bool.{Bool, true, false, ◌&&◌, beq}
use mathlib.Core.List.{List, [], ◌∷◌}
use lib.Dec.{T}
use borrow.Author.Tests.{eqb-true}
use Rattle.bits.specs.Choice.{when◌then◌else◌}
use Rattle.bits.proofs.Choice.{by_test_both}
use Rattle.bits.proofs.Tests.{and_left, and_right, each_of_four}
use Rattle.word.specs.declared.ScanCode.{ScanCode}
use Rattle.word.specs.declared.Word.{Word}
use Rattle.word.specs.Word.{code_of, same_code, table_index, is_enhanced}
use Rattle.word.specs.OldWord.{old_word_of}
use Rattle.word.proofs.Laws.{same_code_lem}
use Rattle.rows.specs.declared.Column.{Column}
use Rattle.rows.specs.declared.Column.TheVariants.{Plain, Shift, Ctrl, Alt}
use Rattle.rows.specs.declared.Entry.{Entry}
use Rattle.rows.specs.declared.Entry.TheVariants.{NoRow, NoWord, Has}
use Rattle.rows.specs.Printed.{Row, print_at, meaning}
use Rattle.rows.specs.Rows.{rows, extended_rows}
use Rattle.rows.specs.Lookup.{entry_in, rows_for}
use Rattle.rows.proofs.Entries.{same, same_equal}
use Rattle.port.specs.Makes.{is_insert_word}
use Rattle.former.specs.Former.{former_extended_rows, former_rows_for}

abbrev pub former_entry : Entry → Entry
former_entry NoRow = NoRow
former_entry NoWord = NoWord
former_entry (Has word) = Has (old_word_of word)

-- what the queue and the Insert rule ask of a word, asked of the one that an old program knows
pub record Kept (word : Word) : Type 0 where
  pub enhanced : is_enhanced (old_word_of word) ≡ is_enhanced word
  pub insert : is_insert_word (old_word_of word) ≡ is_insert_word word

abbrev pub KeptEntry : Entry → Type 0
KeptEntry NoRow = Unit {0}
KeptEntry NoWord = Unit {0}
KeptEntry (Has word) = Kept word

pub record FormerEntry (now former : Entry) : Type 0 where
  pub is : former ≡ former_entry now
  pub kept : KeptEntry now

-- ---- the test

beq_equal : (a b : Bool) → T (beq a b) → a ≡ b
beq_equal true true t = refl
beq_equal true false t = absurd t
beq_equal false true t = absurd t
beq_equal false false t = refl

abbrev keeps : Entry → Bool
keeps NoRow = true
keeps NoWord = true
keeps (Has word) = beq (is_enhanced (old_word_of word)) (is_enhanced word) && beq (is_insert_word (old_word_of word)) (is_insert_word word)

keeps_kept : (entry : Entry) → T (keeps entry) → KeptEntry entry
keeps_kept NoRow t = tt
keeps_kept NoWord t = tt
keeps_kept (Has word) t =
    record {
      enhanced = beq_equal (is_enhanced (old_word_of word)) (is_enhanced word) (and_left (beq (is_enhanced (old_word_of word)) (is_enhanced word)) _ t);
      insert = beq_equal (is_insert_word (old_word_of word)) (is_insert_word word) (and_right (beq (is_enhanced (old_word_of word)) (is_enhanced word)) _ t);
    }

abbrev cell_passes : Row → Row → Column → Bool
cell_passes r f column =
    let entry = meaning r.code (print_at r column) in
    same (meaning r.code (print_at f column)) (former_entry entry) && keeps entry

abbrev cells_pass : Row → Row → Bool
cells_pass r f = cell_passes r f Plain && (cell_passes r f Shift && (cell_passes r f Ctrl && cell_passes r f Alt))

abbrev pass : List Row → List Row → Bool
pass [] [] = true
pass [] (f ∷ formers) = false
pass (r ∷ more) [] = false
pass (r ∷ more) (f ∷ formers) = same_code r.code f.code && (cells_pass r f && pass more formers)

test : (extended : Bool) → T (pass (rows_for extended) (former_rows_for extended))
unfolding when◌then◌else◌ rows extended_rows former_extended_rows old_word_of
test false = tt
test true = tt

-- ---- what it shows

cell : (r f : Row) → T (cells_pass r f) → (column : Column) → FormerEntry (meaning r.code (print_at r column)) (meaning r.code (print_at f column))
cell r f t column =
    let entry = meaning r.code (print_at r column) in
    let former = meaning r.code (print_at f column) in
    record {
      is = same_equal former (former_entry entry) (and_left (same former (former_entry entry)) (keeps entry) (at column));
      kept = keeps_kept entry (and_right (same former (former_entry entry)) (keeps entry) (at column));
    }
  where
    all : T (cell_passes r f Plain) × T (cell_passes r f Shift) × T (cell_passes r f Ctrl) × T (cell_passes r f Alt)
    all = each_of_four (cell_passes r f Plain) (cell_passes r f Shift) (cell_passes r f Ctrl) (cell_passes r f Alt) t

    at : (k : Column) → T (cell_passes r f k)
    at Plain = all.0
    at Shift = all.1
    at Ctrl = all.2
    at Alt = all.3

-- the rows at the head have one code, so both lists choose alike
entries : (list formers : List Row) → T (pass list formers) → (code : ScanCode) (column : Column)
    → FormerEntry (entry_in list code column) (entry_in formers code column)
entries [] [] t code column = record { is = refl; kept = tt }
entries [] (f ∷ formers) t code column = absurd t
entries (r ∷ more) [] t code column = absurd t
entries (r ∷ more) (f ∷ formers) t code column =
    subst (λ (x : ScanCode). FormerEntry (entry_in (r ∷ more) code column) (when same_code code x then meaning code (print_at f column) else entry_in formers code column))
    (same_code_lem r.code f.code (and_left (same_code r.code f.code) (cells_pass r f && pass more formers) t))
    (by_test_both FormerEntry (same_code code r.code) here (λ _. entries more formers (and_right (cells_pass r f) (pass more formers) rest) code column))
  where
    rest : T (cells_pass r f && pass more formers)
    rest = and_right (same_code r.code f.code) (cells_pass r f && pass more formers) t

    here : same_code code r.code ≡ true → FormerEntry (meaning code (print_at r column)) (meaning code (print_at f column))
    here e =
        subst (λ (x : ScanCode). FormerEntry (meaning x (print_at r column)) (meaning x (print_at f column))) (sym (ap code_of (eqb-true (table_index code) (table_index r.code) e)))
        (cell r f (and_left (cells_pass r f) (pass more formers) rest) column)

pub former_entries : (extended : Bool) (code : ScanCode) (column : Column)
    → FormerEntry (entry_in (rows_for extended) code column) (entry_in (former_rows_for extended) code column)
former_entries extended code column = entries (rows_for extended) (former_rows_for extended) (test extended) code column
