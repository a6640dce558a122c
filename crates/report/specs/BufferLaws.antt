-- What holds of the reporter's result and buffer. BufferLaws.antt of proofs/ proves each sentence.
-- Assumes nothing.
use Rattle.std.specs.Prelude.{ℕ, ◌+◌, ◌<◌, ◌≤◌, ◌≡◌, List, length, take, drop}
use Rattle.state.specs.declared.Service.{Service}
use Rattle.events.specs.declared.Event.{Event}
use Rattle.answers.specs.declared.Refusal.{Refusal}
use Rattle.answers.specs.declared.Answer.TheVariants.{Refused}
use Rattle.answers.specs.Answers.{refusal_number}
use Rattle.state.specs.Flags.{byte17_of, byte18_of, byte96_of, byte97_of}
use Rattle.events.specs.Step.{step_of}
use Rattle.events.specs.Run.{next}
use Rattle.report.specs.Text.{flags_line, text_of}
use Rattle.report.specs.Reported.{report_length, event_report, reported_of, buffer_of}

-- a call that 9 refuses returns its number only
pub record Unwritten (service : Service) (event : Event) (buffer : List ℕ) : Type 0 where
  pub result : reported_of service event buffer ≡ record { refusal = 9; service = service }
  pub unwritten : buffer_of service event buffer ≡ buffer

-- 9 stands before 2 to 5: a short buffer is refused whatever the event is
abbrev pub ShortRefused : Type 0
ShortRefused =
    (service : Service) (event : Event) (buffer : List ℕ) → length buffer < report_length → Unwritten service event buffer

-- a call that 9 does not refuse runs its event and writes the 44 bytes and no other
pub record Written (service : Service) (event : Event) (buffer : List ℕ) : Type 0 where
  pub after : (reported_of service event buffer).service ≡ next service event
  pub text : take report_length (buffer_of service event buffer) ≡ text_of (event_report service event)
  pub tail : drop report_length (buffer_of service event buffer) ≡ drop report_length buffer
  pub size : length (buffer_of service event buffer) ≡ length buffer

abbrev pub LongWritten : Type 0
LongWritten =
    (service : Service) (event : Event) (buffer : List ℕ) → report_length ≤ length buffer → Written service event buffer

-- 9 is for short buffers only
abbrev pub NineIsShort : Type 0
NineIsShort =
    (service : Service) (event : Event) (buffer : List ℕ) → (reported_of service event buffer).refusal ≡ 9 → length buffer < report_length

-- a call that 2 to 5 refuse gives its number and leaves the service, and its report shows it
pub record RefusedCall (service : Service) (event : Event) (buffer : List ℕ) (refusal : Refusal) : Type 0 where
  pub number : (reported_of service event buffer).refusal ≡ refusal_number refusal
  pub kept : (reported_of service event buffer).service ≡ service
  pub ans : (event_report service event).ans ≡ 0x80 + refusal_number refusal
  pub word : (event_report service event).word ≡ 0

abbrev pub RefusedCallWritten : Type 0
RefusedCallWritten =
    (service : Service) (event : Event) (buffer : List ℕ) (refusal : Refusal) → report_length ≤ length buffer →
    (step_of service event).answer ≡ Refused refusal → RefusedCall service event buffer refusal

-- the flags line in the buffer is that of the service that the call returns
abbrev pub flags_of : Service → List ℕ
flags_of service = flags_line (byte17_of service) (byte18_of service) (byte96_of service) (byte97_of service)

abbrev pub FlagsAfter : Type 0
FlagsAfter =
    (service : Service) (event : Event) (buffer : List ℕ) → report_length ≤ length buffer →
    take 15 (drop 22 (buffer_of service event buffer)) ≡ flags_of (reported_of service event buffer).service
