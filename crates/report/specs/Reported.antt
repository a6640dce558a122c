-- The reporter: refusal 9 before the event runs, else the event, its report at the start of the buffer, and the tail kept.
-- Assumes nothing.
use Rattle.std.specs.Prelude.{ℕ, ◌-◌, Bool, List, [], ◌∷◌, ◌++◌, ltb, length, drop, Result, Ok, Err}
use Rattle.bits.specs.Choice.{when◌then◌else◌}
use Rattle.answers.specs.Answers.{refusal_number}
use Rattle.state.specs.declared.Service.{Service}
use Rattle.events.specs.declared.Event.{Event}
use Rattle.events.specs.Step.{step_of}
use Rattle.events.specs.Run.{next}
use Rattle.report.specs.declared.HandedBack.{HandedBack}
use Rattle.report.specs.declared.Report.{Report}
use Rattle.report.specs.declared.ReportRefusal.{ReportRefusal}
use Rattle.report.specs.declared.ReportRefusal.TheVariants.{Call, ShortBuffer}
use Rattle.report.specs.Report.{report_of}
use Rattle.report.specs.Text.{text_of}

-- the length of every report
abbrev pub report_length : ℕ
report_length = 44

-- the report of an event that is run
abbrev pub event_report : Service → Event → Report
event_report service event = report_of event (step_of service event)

-- the number of the refusal that an ans from 80 up shows; 0 below 80
abbrev pub refusal_in : ℕ → ℕ
refusal_in ans = ans - 0x80

-- refusal 9: a buffer under 44 bytes
abbrev pub too_short : List ℕ → Bool
too_short buffer = ltb (length buffer) report_length

-- what a reported event leaves, and the number of its refusal, 0 for none
pub record Reported : Type 0 where
  pub refusal : ℕ
  pub service : Service

-- 2 to 5 a call that is refused, 9 a short buffer
abbrev pub report_refusal_number : ReportRefusal → ℕ
report_refusal_number (Call refusal) = refusal_number refusal
report_refusal_number ShortBuffer = 9

-- the number of the refusal in what a call tells, 0 for none
abbrev pub number_told : {A E : Type 0} → (E → ℕ) → Result A E → ℕ
number_told number (Ok done) = 0
number_told number (Err refusal) = number refusal

-- what is handed back says: the service, and the number of the refusal
abbrev pub told_by : HandedBack → Reported
told_by back = record { refusal = number_told report_refusal_number back.told; service = back.service }

-- 9 runs no event; an event that is run may be a call that 2 to 5 refuse, and then gives that number
unfoldable pub reported_of : Service → Event → List ℕ → Reported
reported_of service event buffer =
    when too_short buffer then record { refusal = 9; service = service }
    else record { refusal = refusal_in (event_report service event).ans; service = next service event }

-- a report in a buffer: one that is too short is left, a longer one keeps its tail
unfoldable pub written_of : Report → List ℕ → List ℕ
written_of report buffer = when too_short buffer then buffer else text_of report ++ drop report_length buffer

unfoldable pub buffer_of : Service → Event → List ℕ → List ℕ
buffer_of service event buffer = written_of (event_report service event) buffer

-- the texts of a list of events, each run on the service that the one before left
abbrev pub texts_of : Service → List Event → List ℕ
texts_of service [] = []
texts_of service (event ∷ more) = text_of (event_report service event) ++ texts_of (next service event) more
