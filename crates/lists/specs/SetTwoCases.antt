-- Document 02, W-203: cases of its readings, as one group. SetTwoCases.antt of proofs/ computes them.
-- Assumes nothing.
use Rattle.std.specs.Prelude.{ℕ, ◌≡◌, List, [], ◌∷◌, ◌++◌, map}
use Rattle.translation.specs.declared.CodeSet.TheVariants.{One, Two}
use Rattle.state.specs.State.{new_service}
use Rattle.events.specs.declared.Event.TheVariants.{Key, Poll}
use Rattle.events.specs.Run.{Shown}
use Rattle.events.specs.BenchCases.{answers, words, flags17}
use Rattle.lists.specs.Items.{Item, runs, changes, seen_items, shown_in}

-- what a list shows, from locks 0 and set 1
abbrev pub shown_on : List Item → List Shown
shown_on items = shown_in (seen_items (new_service One 0) items)

abbrev pub keys : List ℕ → List Item
keys bytes = map (λ (byte : ℕ). runs (Key byte)) bytes

abbrev pub flags96 : List Shown → List ℕ
flags96 shown = map (λ (s : Shown). s.byte96) shown

pub record SetTwoCases : Type 0 where
  pub shifted_a : words (shown_on (changes Two ∷ keys (0x12 ∷ 0x1C ∷ 0xF0 ∷ 0x1C ∷ 0xF0 ∷ 0x12 ∷ []))) ≡ 0 ∷ 0 ∷ 0x1E41 ∷ 0 ∷ 0 ∷ 0 ∷ 0 ∷ []
  pub break_as_reply : answers (shown_on (changes Two ∷ runs Poll ∷ keys (0xF0 ∷ 0x65 ∷ []))) ≡ 0x00 ∷ 0x0C ∷ 0x00 ∷ 0x06 ∷ []
  pub shift_behind_it : flags17 (shown_on (changes Two ∷ runs Poll ∷ keys (0xF0 ∷ 0x65 ∷ 0x12 ∷ []))) ≡ 0 ∷ 0 ∷ 0 ∷ 0 ∷ 0x02 ∷ []
  pub prefix_over_a_change : flags96 (shown_on (keys (0xE0 ∷ []) ++ (changes Two ∷ keys (0x14 ∷ [])))) ≡ 0x02 ∷ 0x02 ∷ 0x04 ∷ []
  pub mark_over_a_change : words (shown_on (changes Two ∷ keys (0xF0 ∷ []) ++ (changes Two ∷ keys (0x1C ∷ [])))) ≡ 0 ∷ 0 ∷ 0 ∷ 0x1E61 ∷ []
