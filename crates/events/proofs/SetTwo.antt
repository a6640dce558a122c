-- What is typed on set 2 is what its translation types on set 1, since nothing but the translation looks at the codes.
-- Assumes nothing.
use Rattle.std.specs.Prelude.{Option, None, Some}
use Prim.Native.Nat.{ℕ}
use mathlib.Core.Path.{◌≡◌, refl, ap, sym, ◌∙◌}
use mathlib.Core.Bool.{Bool, true, false}
use mathlib.Core.List.{List, [], ◌∷◌, ◌++◌, map}
use lib.Dec.{eqb}
use Rattle.bits.specs.Choice.{when◌then◌else◌}
use Rattle.bits.proofs.Choice.{either}
use Rattle.port.specs.declared.Effect.{Effect}
use Rattle.port.specs.declared.Effect.TheVariants as effect
use Rattle.port.specs.KeyByte.{key_byte_of}
use Rattle.translation.specs.declared.CodeSet.TheVariants.{One, Two}
use Rattle.translation.specs.declared.Codes.{Codes}
use Rattle.translation.specs.declared.Codes.TheVariants.{SetOne, SetTwo, SetTwoMarked}
use Rattle.translation.specs.declared.Translated.{Translated}
use Rattle.translation.specs.Translation.{set_of, passes, from_set_two, translated_of, passed_on, translation, codes_after}
use Rattle.translation.specs.Laws.{is_no_code}
use Rattle.translation.proofs.Laws.{each_code_passes}
use Rattle.state.specs.declared.Device.{Device}
use Rattle.state.specs.declared.Device.TheVariants.{Keyboard, Scanner}
use Rattle.state.specs.declared.Service.{Service}
use Rattle.state.specs.State.{port_of, ports_with, with_ports, with_codes}
use Rattle.state.specs.Flags.{byte17_of, byte18_of, byte96_of, byte97_of}
use Rattle.events.specs.declared.Event.TheVariants.{Key, Call, Poll, TimeOut, Empty, Restart, Scan}
use Rattle.events.specs.declared.Outcome.{Outcome}
use Rattle.events.specs.Outcomes.{answered_of, offered_of}
use Rattle.events.specs.Keyboard.{broken_of, on_effect, typed_of, read_of, on_passed, key_of, scan_of}
use Rattle.events.specs.Commands.{on_line, poll_of, acknowledge_of, resend_of, time_out_of, restart_of}
use Rattle.events.specs.Functions.{for_old_program, take_of, look_of, status_of, set_rate_of, store_of}
use Rattle.events.specs.Step.{empty_of, step_of}
use Rattle.events.specs.Run.{Shown, shown_of, next, run, after}
use Rattle.events.specs.SetTwo.{EventsKeepSet, where_passed, beside_marks, BytesAsTranslated, Stroke, stroke_bytes, typed_on, AreCodes, TypingAlike}
use Rattle.events.proofs.Calls.{call_by}

-- ---- a byte from step 1 on

abbrev on_codes : Outcome → Codes → Outcome
on_codes outcome codes = record { service = with_codes outcome.service codes; answer = outcome.answer; sent = outcome.sent }

-- no flag byte shows them
unseen : (outcome : Outcome) (codes : Codes) → shown_of (on_codes outcome codes) ≡ shown_of outcome
unfolding byte17_of byte18_of byte96_of byte97_of
unseen outcome codes = refl

effect_apart : (service : Service) (codes : Codes) (e : Effect) → on_effect (with_codes service codes) e ≡ on_codes (on_effect service e) codes
unfolding on_effect answered_of offered_of broken_of
effect_apart service codes effect.Nothing = refl
effect_apart service codes (effect.Put word) = refl
effect_apart service codes effect.Break = refl
effect_apart service codes effect.RestartAsked = refl
effect_apart service codes effect.Overrun = refl

typed_apart : (device : Device) (service : Service) (codes : Codes) (byte : ℕ)
    → typed_of device (with_codes service codes) byte ≡ on_codes (typed_of device service byte) codes
unfolding typed_of
typed_apart device service codes byte =
    let decoded = key_byte_of (port_of device service.ports) service.shared byte in
    effect_apart (with_ports service (ports_with device decoded.port service.ports) decoded.shared) codes decoded.effect

-- one of three, each on other codes
of_three : (acknowledged resent : Bool) (codes : Codes) (x y z w : Outcome) → w ≡ on_codes z codes
    → (when acknowledged then on_codes x codes else when resent then on_codes y codes else w) ≡ on_codes (when acknowledged then x else when resent then y else z) codes
unfolding when◌then◌else◌
of_three true resent codes x y z w is = refl
of_three false true codes x y z w is = refl
of_three false false codes x y z w is = is

read_apart : (service : Service) (codes : Codes) (byte : ℕ) → read_of (with_codes service codes) byte ≡ on_codes (read_of service byte) codes
unfolding read_of acknowledge_of resend_of on_line
read_apart service codes byte = of_three (eqb byte 0xFA) (eqb byte 0xFE) codes _ _ _ _ (typed_apart Keyboard service codes byte)

-- ---- bytes from step 1 on

abbrev run_read : Service → List ℕ → List Shown
run_read service [] = []
run_read service (byte ∷ more) = shown_of (read_of service byte) ∷ run_read (read_of service byte).service more

abbrev after_read : Service → List ℕ → Service
after_read service [] = service
after_read service (byte ∷ more) = after_read (read_of service byte).service more

-- what the bytes of a list leave and show, by what the first of them became
record Read (service : Service) (codes : Codes) (bytes : List ℕ) : Type 0 where
  shown : beside_marks codes bytes (run (with_codes service codes) (map Key bytes)) ≡ run_read service (translation codes bytes)
  last : after (with_codes service codes) (map Key bytes) ≡ with_codes (after_read service (translation codes bytes)) (codes_after codes bytes)

record First (service : Service) (translated : Translated) (more : List ℕ) : Type 0 where
  shown :
      let outcome = on_passed (with_codes service translated.codes) translated.passed in
      where_passed translated.passed (shown_of outcome) (beside_marks translated.codes more (run outcome.service (map Key more)))
      ≡ run_read service (passed_on translated.passed (translation translated.codes more))
  last :
      let outcome = on_passed (with_codes service translated.codes) translated.passed in
      after outcome.service (map Key more)
      ≡ with_codes (after_read service (passed_on translated.passed (translation translated.codes more))) (codes_after translated.codes more)

first : (service : Service) (codes : Codes) (passed : Option ℕ) (more : List ℕ) → ((later : Service) → Read later codes more)
    → First service (record { codes = codes; passed = passed }) more
unfolding answered_of
first service codes None more h = record { shown = (h service).shown; last = (h service).last }
first service codes (Some byte) more h =
    let is = read_apart service codes byte in
    let later = h (read_of service byte).service in
    record {
      shown =
          ap (λ (o : Outcome). shown_of o ∷ beside_marks codes more (run o.service (map Key more))) is
          ∙ ap (λ (s : Shown). s ∷ beside_marks codes more (run (with_codes (read_of service byte).service codes) (map Key more)))
          (unseen (read_of service byte) codes)
          ∙ ap (◌∷◌ (shown_of (read_of service byte))) later.shown;
      last = ap (λ (o : Outcome). after o.service (map Key more)) is ∙ later.last;
    }

read : (service : Service) (codes : Codes) (bytes : List ℕ) → Read service codes bytes
unfolding step_of key_of
read service codes [] = record { shown = refl; last = refl }
read service codes (byte ∷ more) =
    let translated = translated_of codes byte in
    let one = first service translated.codes translated.passed more (λ later. read later translated.codes more) in
    record { shown = one.shown; last = one.last }

-- ---- set 1, where every byte passes as it is

set_one_bytes : (bytes : List ℕ) → translation SetOne bytes ≡ bytes
unfolding translated_of
set_one_bytes [] = refl
set_one_bytes (byte ∷ more) = ap (◌∷◌ byte) (set_one_bytes more)

set_one_codes : (bytes : List ℕ) → codes_after SetOne bytes ≡ SetOne
unfolding translated_of
set_one_codes [] = refl
set_one_codes (byte ∷ more) = set_one_codes more

set_one_shown : (service : Service) (bytes : List ℕ) → beside_marks SetOne bytes (run service (map Key bytes)) ≡ run service (map Key bytes)
unfolding translated_of
set_one_shown service [] = refl
set_one_shown service (byte ∷ more) = ap (◌∷◌ (shown_of (step_of service (Key byte)))) (set_one_shown (next service (Key byte)) more)

pub bytes_as_translated : BytesAsTranslated
bytes_as_translated service codes bytes =
    let passed = translation codes bytes in
    let on = read service codes bytes in
    let one = read service SetOne passed in
    let left : after (with_codes service SetOne) (map Key passed) ≡ with_codes (after_read service passed) SetOne =
    one.last ∙ ap (λ (b : List ℕ). with_codes (after_read service b) (codes_after SetOne passed)) (set_one_bytes passed)
    ∙ ap (with_codes (after_read service passed)) (set_one_codes passed) in
    record {
      shown = on.shown ∙ sym (sym (set_one_shown (with_codes service SetOne) passed) ∙ one.shown ∙ ap (run_read service) (set_one_bytes passed));
      last = on.last ∙ ap (λ (s : Service). with_codes s (codes_after codes bytes)) (sym left);
    }

-- ---- strokes

mark_marks : translated_of SetTwo 0xF0 ≡ record { codes = SetTwoMarked; passed = None }
unfolding translated_of from_set_two when◌then◌else◌
mark_marks = refl

prefix_passes : translated_of SetTwo 0xE0 ≡ passes SetTwo 0xE0
unfolding translated_of from_set_two when◌then◌else◌
prefix_passes = refl

-- the bytes of a stroke before others come out as its bytes on set 1, and leave no mark
record Struck (stroke : Stroke) (more : List ℕ) : Type 0 where
  bytes : translation SetTwo (stroke_bytes Two stroke ++ more) ≡ stroke_bytes One stroke ++ translation SetTwo more
  codes : codes_after SetTwo (stroke_bytes Two stroke ++ more) ≡ codes_after SetTwo more

struck : (extended up : Bool) (code : ℕ) (more : List ℕ) → is_no_code code ≡ false → Struck (record { extended = extended; code = code; up = up }) more
unfolding when◌then◌else◌
struck true true code more is =
    let passes = each_code_passes code is in
    record { bytes = rw (prefix_passes, mark_marks, passes.break); codes = rw (prefix_passes, mark_marks, passes.break) }
struck true false code more is =
    let passes = each_code_passes code is in record { bytes = rw (prefix_passes, passes.make); codes = rw (prefix_passes, passes.make) }
struck false true code more is =
    let passes = each_code_passes code is in record { bytes = rw (mark_marks, passes.break); codes = rw (mark_marks, passes.break) }
struck false false code more is = let passes = each_code_passes code is in record { bytes = rw passes.make; codes = rw passes.make }

record Typed (strokes : List Stroke) : Type 0 where
  bytes : translation SetTwo (typed_on Two strokes) ≡ typed_on One strokes
  codes : codes_after SetTwo (typed_on Two strokes) ≡ SetTwo

typed : (strokes : List Stroke) → AreCodes strokes → Typed strokes
typed [] are = record { bytes = refl; codes = refl }
typed (stroke ∷ more) (is, are) =
    let one = struck stroke.extended stroke.up stroke.code (typed_on Two more) is in
    let later = typed more are in
    record { bytes = one.bytes ∙ ap (λ (b : List ℕ). stroke_bytes One stroke ++ b) later.bytes; codes = one.codes ∙ later.codes }

pub typing_alike : TypingAlike
typing_alike service strokes are =
    let h = bytes_as_translated service SetTwo (typed_on Two strokes) in
    let t = typed strokes are in
    record {
      shown = h.shown ∙ ap (λ (b : List ℕ). run (with_codes service SetOne) (map Key b)) t.bytes;
      last =
          h.last
          ∙ ap (λ (b : List ℕ). with_codes (after (with_codes service SetOne) (map Key b)) (codes_after SetTwo (typed_on Two strokes))) t.bytes
          ∙ ap (with_codes (after (with_codes service SetOne) (map Key (typed_on One strokes)))) t.codes;
    }

-- ---- the set in force

record Stays (codes : Codes) (translated : Translated) : Type 0 where
  set : set_of translated.codes ≡ set_of codes

from_two_stays : (codes : Codes) (byte code : ℕ) → set_of codes ≡ Two → Stays codes (from_set_two codes byte code)
unfolding from_set_two
from_two_stays codes byte code two =
    either (Stays codes) _ _ _ (record { set = sym two })
    (either (Stays codes) _ _ _ (record { set = refl })
    (either (Stays codes) _ _ _ (record { set = sym two }) (record { set = sym two })))

translated_stays : (codes : Codes) (byte : ℕ) → Stays codes (translated_of codes byte)
unfolding translated_of
translated_stays SetOne byte = record { set = refl }
translated_stays SetTwo byte = from_two_stays SetTwo byte _ refl
translated_stays SetTwoMarked byte = from_two_stays SetTwoMarked byte _ refl

-- an outcome on these codes
record On (codes : Codes) (outcome : Outcome) : Type 0 where
  same : outcome.service.codes ≡ codes

passed_on_lem : (service : Service) (codes : Codes) (passed : Option ℕ) → On codes (on_passed (with_codes service codes) passed)
unfolding answered_of
passed_on_lem service codes None = record { same = refl }
passed_on_lem service codes (Some byte) = record { same = ap (λ (o : Outcome). o.service.codes) (read_apart service codes byte) }

call_on_lem : (service : Service) (function a b : ℕ) → On service.codes (step_of service (Call function a b))
unfolding step_of for_old_program take_of look_of status_of set_rate_of offered_of answered_of
call_on_lem service function a b =
    call_by (On service.codes) service function a b (record { same = refl }) (record { same = refl }) (record { same = refl }) (record { same = refl })
    (λ high low. record { same = refl })
    (λ _. either (On service.codes) _ _ _ (record { same = refl }) (either (On service.codes) _ _ _ (record { same = refl }) (record { same = refl })))
    (record { same = refl }) (record { same = refl })

scan_on : (service : Service) (byte : ℕ) → On service.codes (scan_of service byte)
unfolding scan_of answered_of
scan_on service byte =
    either (On service.codes) _ _ _ (record { same = refl })
    (record { same = ap (λ (o : Outcome). o.service.codes) (typed_apart Scanner service service.codes byte) })

pub events_keep_set : EventsKeepSet
unfolding step_of key_of poll_of time_out_of restart_of empty_of on_line answered_of
events_keep_set service (Key byte) =
    let translated = translated_of service.codes byte in
    ap set_of (passed_on_lem service translated.codes translated.passed).same ∙ (translated_stays service.codes byte).set
events_keep_set service (Call function a b) = ap set_of (call_on_lem service function a b).same
events_keep_set service Poll = refl
events_keep_set service TimeOut = refl
events_keep_set service Empty = refl
events_keep_set service Restart = refl
events_keep_set service (Scan byte) = ap set_of (scan_on service byte).same
