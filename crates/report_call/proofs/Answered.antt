-- What an answer says of its refusal.
-- Assumes nothing.
use mathlib.Core.Path.{◌≡◌, refl}
use Rattle.answers.specs.declared.Refusal.{Refusal}
use Rattle.answers.specs.declared.Answer.{Answer}
use Rattle.answers.specs.declared.Answer.TheVariants.{Nothing, Put, Dropped, Break, RestartAsked, Overrun, Taken, Ignored, Returned, NoWord, Status, Done, Stored, Send, Quiet, GivenUp, Refused}
use Rattle.answers.specs.Answers.{ans_of}
use Rattle.report.specs.Reported.{refusal_in}

-- any other answer than a refusal shows none
pub none_shown : (answer : Answer) → ((refusal : Refusal) → answer ≡ Refused refusal → ⊥) → refusal_in (ans_of answer) ≡ 0
none_shown Nothing other = refl
none_shown (Put word) other = refl
none_shown (Dropped word) other = refl
none_shown Break other = refl
none_shown RestartAsked other = refl
none_shown Overrun other = refl
none_shown Taken other = refl
none_shown Ignored other = refl
none_shown (Returned word) other = refl
none_shown NoWord other = refl
none_shown (Status status) other = refl
none_shown Done other = refl
none_shown (Stored word) other = refl
none_shown (Send byte) other = refl
none_shown Quiet other = refl
none_shown GivenUp other = refl
none_shown (Refused refusal) other = absurd (other refusal refl)
