-- Lists of events: what each event shows, and the service after them. Each event takes the service as the one before left it.
-- Assumes nothing.
use Rattle.std.specs.Prelude.{ℕ, List, [], ◌∷◌}
use Rattle.state.specs.declared.Service.{Service}
use Rattle.events.specs.declared.Event.{Event}
use Rattle.events.specs.declared.Outcome.{Outcome}
use Rattle.state.specs.Flags.{byte17_of, byte18_of, byte96_of, byte97_of}
use Rattle.answers.specs.Answers.{ans_of, word_of}
use Rattle.events.specs.Step.{step_of}

-- what is seen of an event: ans, word, the four flag bytes after it, and sent
pub record Shown : Type 0 where
  pub ans : ℕ
  pub word : ℕ
  pub byte17 : ℕ
  pub byte18 : ℕ
  pub byte96 : ℕ
  pub byte97 : ℕ
  pub sent : ℕ

abbrev pub shown_of : Outcome → Shown
shown_of outcome =
    record {
      ans = ans_of outcome.answer;
      word = word_of outcome.answer;
      byte17 = byte17_of outcome.service;
      byte18 = byte18_of outcome.service;
      byte96 = byte96_of outcome.service;
      byte97 = byte97_of outcome.service;
      sent = outcome.sent;
    }

abbrev pub next : Service → Event → Service
next service event = (step_of service event).service

-- what the events of a list show, one after the other
abbrev pub run : Service → List Event → List Shown
run service [] = []
run service (event ∷ more) = shown_of (step_of service event) ∷ run (next service event) more

-- the service after a list
abbrev pub after : Service → List Event → Service
after service [] = service
after service (event ∷ more) = after (next service event) more
