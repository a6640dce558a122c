-- Document 02, W-203, as laws: what a keyboard of set 2 types. SetTwo.antt of proofs/ proves each sentence.
-- Assumes nothing.
use Rattle.std.specs.Prelude.{ℕ, ◌≡◌, Bool, false, List, [], ◌∷◌, ◌++◌, map, Option, None, Some}
use Rattle.bits.specs.Choice.{when◌then◌else◌}
use Rattle.translation.specs.declared.CodeSet.{CodeSet}
use Rattle.translation.specs.declared.CodeSet.TheVariants.{One, Two}
use Rattle.translation.specs.declared.Codes.{Codes}
use Rattle.translation.specs.declared.Codes.TheVariants.{SetOne, SetTwo}
use Rattle.translation.specs.Translation.{set_one_code, break_of, translated_of, translation, codes_after}
use Rattle.translation.specs.Laws.{is_no_code}
use Rattle.state.specs.declared.Service.{Service}
use Rattle.state.specs.State.{with_codes}
use Rattle.events.specs.declared.Event.{Event}
use Rattle.events.specs.declared.Event.TheVariants.{Key}
use Rattle.events.specs.Run.{Shown, next, run, after}
use Rattle.events.specs.Resynchronised.{set_in}

-- no event changes the set in force
abbrev pub EventsKeepSet : Type 0
EventsKeepSet = (service : Service) (event : Event) → set_in (next service event) ≡ set_in service

-- what bytes show, without what their marks show
abbrev pub where_passed : Option ℕ → Shown → List Shown → List Shown
where_passed None shown later = later
where_passed (Some byte) shown later = shown ∷ later

abbrev pub beside_marks : Codes → List ℕ → List Shown → List Shown
beside_marks codes [] shown = []
beside_marks codes (byte ∷ more) [] = []
beside_marks codes (byte ∷ more) (shown ∷ later) =
    let translated = translated_of codes byte in where_passed translated.passed shown (beside_marks translated.codes more later)

-- bytes that come in any codes show, beside their marks, what their translation shows where the codes are those of set 1, and leave the same
-- service but for the codes
pub record AsTranslated (service : Service) (codes : Codes) (bytes : List ℕ) : Type 0 where
  pub shown :
      beside_marks codes bytes (run (with_codes service codes) (map Key bytes))
      ≡ run (with_codes service SetOne) (map Key (translation codes bytes))
  pub last :
      after (with_codes service codes) (map Key bytes)
      ≡ with_codes (after (with_codes service SetOne) (map Key (translation codes bytes))) (codes_after codes bytes)

abbrev pub BytesAsTranslated : Type 0
BytesAsTranslated = (service : Service) (codes : Codes) (bytes : List ℕ) → AsTranslated service codes bytes

-- a key by its code on set 2, after E0 or not, going down or up
pub record Stroke : Type 0 where
  pub extended : Bool
  pub code : ℕ
  pub up : Bool

-- its bytes on either set: a break is marked on set 2, and has bit 7 set on set 1
abbrev pub code_bytes : CodeSet → Stroke → List ℕ
code_bytes One stroke = (when stroke.up then break_of (set_one_code stroke.code) else set_one_code stroke.code) ∷ []
code_bytes Two stroke = when stroke.up then 0xF0 ∷ stroke.code ∷ [] else stroke.code ∷ []

abbrev pub stroke_bytes : CodeSet → Stroke → List ℕ
stroke_bytes set stroke = when stroke.extended then 0xE0 ∷ code_bytes set stroke else code_bytes set stroke

abbrev pub typed_on : CodeSet → List Stroke → List ℕ
typed_on set [] = []
typed_on set (stroke ∷ more) = stroke_bytes set stroke ++ typed_on set more

-- any code will do that is no mark, no reply and no prefix
abbrev pub AreCodes : List Stroke → Type 0
AreCodes [] = Unit {0}
AreCodes (stroke ∷ more) = (is_no_code stroke.code ≡ false) × AreCodes more

-- typing on set 2 what a set 1 keyboard would send gives the same answers, words and flags, and leaves the same service but for its set
pub record TypedAlike (service : Service) (strokes : List Stroke) : Type 0 where
  pub shown :
      beside_marks SetTwo (typed_on Two strokes) (run (with_codes service SetTwo) (map Key (typed_on Two strokes)))
      ≡ run (with_codes service SetOne) (map Key (typed_on One strokes))
  pub last :
      after (with_codes service SetTwo) (map Key (typed_on Two strokes))
      ≡ with_codes (after (with_codes service SetOne) (map Key (typed_on One strokes))) SetTwo

abbrev pub TypingAlike : Type 0
TypingAlike = (service : Service) (strokes : List Stroke) → AreCodes strokes → TypedAlike service strokes
