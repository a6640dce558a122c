-- The calls for C: what each leaves in the image that is lent, what it returns, and what it writes. A call that is refused, by any number,
-- leaves the image as it was, number for number.
-- Assumes nothing.
use Rattle.frame.specs.declared.Fault.{Fault}
use Rattle.std.specs.Prelude.{ℕ, ◌+◌, Bool, true, false, List, [], eqb, ltb, Option, None, Some, Result, Ok, Err}
use Rattle.bits.specs.Choice.{when◌then◌else◌}
use Rattle.frame.specs.Frame.{read_frame, fault_number}
use Rattle.line.specs.State.{sent_of}
use Rattle.translation.specs.declared.CodeSet.{CodeSet}
use Rattle.state.specs.declared.Service.{Service}
use Rattle.state.specs.declared.MakingRefusal.{MakingRefusal}
use Rattle.state.specs.declared.NotMade.{NotMade}
use Rattle.events.specs.declared.Event.{Event}
use Rattle.events.specs.declared.Event.TheVariants.{Key, Call, Poll, TimeOut, Empty, Restart, Scan}
use Rattle.events.specs.declared.Outcome.{Outcome}
use Rattle.state.specs.State.{making_refusal_number, make_of}
use Rattle.answers.specs.declared.Answer.{Answer}
use Rattle.answers.specs.declared.Answer.TheVariants.{Nothing, Done}
use Rattle.answers.specs.Answers.{ans_of, word_of}
use Rattle.events.specs.Tags.{key_tag, call_tag, poll_tag, time_out_tag, empty_tag, restart_tag, scan_tag, tag_of}
use Rattle.events.specs.Run.{Shown as Seen, after}
use Rattle.events.specs.Step.{step_of}
use Rattle.events.specs.Sets.{change_of}
use Rattle.events.specs.ControllerLaws.{is_restart}
use Rattle.events.specs.Resynchronised.{resynchronisation, set_in}
use Rattle.report.specs.Reported.{reported_of, buffer_of}
use Rattle.image.specs.declared.ControllerImage.{ControllerImage}
use Rattle.image.specs.declared.FlagBytes.{FlagBytes}
use Rattle.image.specs.declared.Image.{Image}
use Rattle.image.specs.ImageFlags.{flag_bytes_of}
use Rattle.image.specs.ImageController.{controller_image, controller_at, new_controller_image}
use Rattle.image_calls.specs.declared.Shown.{Shown}
use Rattle.image_calls.specs.declared.Tagged.{Tagged}
use Rattle.image_calls.specs.declared.Ran.{Ran}
use Rattle.image_calls.specs.declared.Changed.{Changed}
use Rattle.image_calls.specs.declared.Refused.{Refused}
use Rattle.image.specs.Image.{image_of, service_of}

-- what is seen of an event, as document 01's report shows it
abbrev pub shown_with : FlagBytes → ℕ → ℕ → ℕ → Shown
shown_with flags ans word sent =
    record {
      word = word;
      ans = ans;
      sent = sent;
      byte17 = flags.byte17;
      byte18 = flags.byte18;
      byte96 = flags.byte96;
      byte97 = flags.byte97;
    }

-- the same as the theorems over lists have it
abbrev pub seen : Shown → Seen
seen shown =
    record {
      ans = shown.ans;
      word = shown.word;
      byte17 = shown.byte17;
      byte18 = shown.byte18;
      byte96 = shown.byte96;
      byte97 = shown.byte97;
      sent = shown.sent;
    }

-- with another answer, and without a word
abbrev pub with_answer : Shown → ℕ → Shown
with_answer shown ans =
    record {
      word = 0;
      ans = ans;
      sent = shown.sent;
      byte17 = shown.byte17;
      byte18 = shown.byte18;
      byte96 = shown.byte96;
      byte97 = shown.byte97;
    }

-- what a call left, with nothing to tell
abbrev pub answered_nothing : Changed → Changed
answered_nothing changed = record { image = changed.image; shown = with_answer changed.shown (ans_of Nothing) }

unfoldable pub shown_to_c : Outcome → Shown
shown_to_c outcome = shown_with (flag_bytes_of outcome.service) (ans_of outcome.answer) (word_of outcome.answer) outcome.sent

-- the image of the service after an event; a refusal, 80 plus its number, leaves the image
abbrev pub changed_by : Image → Outcome → Changed
changed_by image outcome =
    when ltb 0x7F (shown_to_c outcome).ans then record { image = image; shown = shown_to_c outcome }
    else record { image = image_of outcome.service; shown = shown_to_c outcome }

-- the controller's numbers after an event: as they are read, and new after R
abbrev pub controller_after : Event → ControllerImage → ControllerImage
controller_after event controller = when is_restart event then new_controller_image else controller_image (controller_at controller)

unfoldable pub step_in : Image → Event → Changed
step_in image event = changed_by image (step_of (service_of image) event)

-- refused before any event: the flags and the count of bytes sent are shown as they stand
unfoldable pub refused_in : Image → ℕ → Changed
refused_in image number =
    let service = service_of image in
    record { image = image; shown = shown_with (flag_bytes_of service) (0x80 + number) 0 (sent_of service.line) }

-- an event by its tag and bytes; those that it does not use are 0 here, and any number will do
abbrev pub written : Event → Tagged
written (Key byte) = record { tag = tag_of (Key byte); a = byte; b = 0; c = 0 }
written (Call function a b) = record { tag = tag_of (Call function a b); a = function; b = a; c = b }
written Poll = record { tag = tag_of Poll; a = 0; b = 0; c = 0 }
written TimeOut = record { tag = tag_of TimeOut; a = 0; b = 0; c = 0 }
written Empty = record { tag = tag_of Empty; a = 0; b = 0; c = 0 }
written Restart = record { tag = tag_of Restart; a = 0; b = 0; c = 0 }
written (Scan byte) = record { tag = tag_of (Scan byte); a = byte; b = 0; c = 0 }

-- the events by the capitals that a pack has for them
unfoldable pub recognised : Tagged → Option Event
recognised tagged =
    when eqb tagged.tag key_tag then Some (Key tagged.a)
    else when eqb tagged.tag call_tag then Some (Call tagged.a tagged.b tagged.c)
    else when eqb tagged.tag poll_tag then Some Poll
    else when eqb tagged.tag time_out_tag then Some TimeOut
    else when eqb tagged.tag empty_tag then Some Empty
    else when eqb tagged.tag restart_tag then Some Restart
    else when eqb tagged.tag scan_tag then Some (Scan tagged.a)
    else None

abbrev pub is_unknown : Option Event → Bool
is_unknown None = true
is_unknown (Some event) = false

-- an unknown tag runs as a call that 2 refuses, which changes nothing, and is shown as refused by 6
abbrev pub event_run : Option Event → Event
event_run None = Call 0xFF 0 0
event_run (Some event) = event

abbrev pub ans_in : Answer → Bool → ℕ
ans_in answer unknown = when unknown then 0x86 else ans_of answer

abbrev pub ran_of : Service → Option Event → Ran
ran_of service event =
    let outcome = step_of service (event_run event) in
    record {
      service = outcome.service;
      ans = ans_in outcome.answer (is_unknown event);
      word = word_of outcome.answer;
      sent = outcome.sent;
    }

abbrev pub tagged_in : Image → Option Event → Changed
tagged_in image None = refused_in image 6
tagged_in image (Some event) = step_in image event

abbrev pub event_to : Image → Tagged → Changed
event_to image tagged = tagged_in image (recognised tagged)

-- a frame: the event of its byte, or refused by the number of its fault
abbrev pub framed_in : Image → Result ℕ Fault → Changed
framed_in image (Ok byte) = step_in image (Key byte)
framed_in image (Err fault) = refused_in image (fault_number fault)

abbrev pub frame_to : Image → ℕ → Changed
frame_to image frame = framed_in image (read_frame frame)

-- the image of what a call left, or refused by its number
unfoldable pub tried_in : Image → ℕ → Service → Refused
tried_in image refusal after =
    when eqb refusal 0 then record { image = image_of after; refusal = 0 } else record { image = image; refusal = refusal }

-- the image of a service that was made
abbrev pub image_made : Result Service NotMade → Result Image MakingRefusal
image_made (Ok made) = Ok (image_of made)
image_made (Err not_made) = Err not_made.refusal

-- an image takes the place of the one that is lent, or is refused by its number
abbrev pub made_in : Image → Result Image MakingRefusal → Refused
made_in image (Ok made) = record { image = made; refusal = 0 }
made_in image (Err refusal) = record { image = image; refusal = making_refusal_number refusal }

abbrev pub make_to : CodeSet → Image → ℕ → Refused
make_to set image bits = made_in image (image_made (make_of set bits))

-- a change of set is never refused
abbrev pub change_to : CodeSet → Image → Changed
change_to set image = changed_by image (change_of (service_of image) set)

abbrev pub report_in : Image → Event → List ℕ → Refused
report_in image event buffer =
    let reported = reported_of (service_of image) event buffer in tried_in image reported.refusal reported.service

abbrev pub written_in : Image → Event → List ℕ → List ℕ
written_in image event buffer = buffer_of (service_of image) event buffer

abbrev pub reported_as : Image → Option Event → List ℕ → Refused
reported_as image None buffer = record { image = image; refusal = 6 }
reported_as image (Some event) buffer = report_in image event buffer

abbrev pub written_as : Image → Option Event → List ℕ → List ℕ
written_as image None buffer = buffer
written_as image (Some event) buffer = written_in image event buffer

-- 6 comes before 9, since there is no event to report
abbrev pub report_to : Image → Tagged → List ℕ → Refused
report_to image tagged buffer = reported_as image (recognised tagged) buffer

abbrev pub written_to : Image → Tagged → List ℕ → List ℕ
written_to image tagged buffer = written_as image (recognised tagged) buffer

abbrev pub flags_to : Image → FlagBytes
flags_to image = flag_bytes_of (service_of image)

-- the image after the all-up run at both ports, E and R, and what this R shows
abbrev pub resynchronised_to : Image → Changed
resynchronised_to image =
    let settled = after (service_of image) (resynchronisation [] (set_in (service_of image))) in
    record { image = image_of settled; shown = shown_with (flag_bytes_of settled) (ans_of Done) 0 0 }
