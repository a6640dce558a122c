-- What holds of the calls for C. ExportLaws.antt of proofs/ proves each sentence.
-- Assumes nothing.
use Rattle.std.specs.Prelude.{ℕ, ◌<◌, ◌≡◌, ◌≢◌, true, List, ltb, length, None, Some}
use Rattle.translation.specs.declared.CodeSet.{CodeSet}
use Rattle.controller.specs.declared.PortEvent.{PortEvent}
use Rattle.events.specs.declared.Event.{Event}
use Rattle.report.specs.Reported.{report_length}
use Rattle.image.specs.declared.Image.{Image}
use Rattle.image_calls.specs.declared.Tagged.{Tagged}
use Rattle.image_calls.specs.Exports.{written, recognised, event_to, frame_to, make_to, report_to, written_to}
use Rattle.image_calls.specs.PortCalls.{port_to}

-- every event is recognised by the tag and bytes that it is written with
abbrev pub TagsRecognised : Type 0
TagsRecognised = (event : Event) → recognised (written event) ≡ Some event

-- 1 to 6, 9 and 11 to 16 leave the image, and the two that come before a reported event runs, 6 and 9, leave the buffer too
pub record Leaves : Type 0 where
  pub make : (set : CodeSet) (image : Image) (bits : ℕ) → 15 < bits → make_to set image bits ≡ record { image = image; refusal = 1 }
  pub event : (image : Image) (tagged : Tagged) → ltb 0x7F (event_to image tagged).shown.ans ≡ true → (event_to image tagged).image ≡ image
  pub frame : (image : Image) (frame : ℕ) → ltb 0x7F (frame_to image frame).shown.ans ≡ true → (frame_to image frame).image ≡ image
  pub port : (image : Image) (event : PortEvent) → ltb 0x7F (port_to image event).shown.shown.ans ≡ true → (port_to image event).image ≡ image
  pub report : (image : Image) (tagged : Tagged) (buffer : List ℕ) → (report_to image tagged buffer).refusal ≢ 0 → (report_to image tagged buffer).image ≡ image
  pub short : (image : Image) (tagged : Tagged) (buffer : List ℕ) → length buffer < report_length → written_to image tagged buffer ≡ buffer

-- 6: a tag that names no event
pub record Unnamed (image : Image) (tagged : Tagged) (buffer : List ℕ) : Type 0 where
  pub ans : (event_to image tagged).shown.ans ≡ 0x86
  pub word : (event_to image tagged).shown.word ≡ 0
  pub result : report_to image tagged buffer ≡ record { image = image; refusal = 6 }
  pub unwritten : written_to image tagged buffer ≡ buffer

abbrev pub UnknownRefused : Type 0
UnknownRefused =
    (image : Image) (tagged : Tagged) (buffer : List ℕ) → recognised tagged ≡ None → Unnamed image tagged buffer
