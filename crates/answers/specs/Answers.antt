-- The paper's number and word of each answer.
-- Assumes nothing.
use Rattle.std.specs.Prelude.{ℕ, ◌+◌}
use Rattle.word.specs.Word.{number_of}
use Rattle.frame.specs.Frame.{fault_number}
use Rattle.controller.specs.PortEvents.{port_refusal_number}
use Rattle.answers.specs.declared.Refusal.{Refusal}
use Rattle.answers.specs.declared.Refusal.TheVariants as refusal
use Rattle.answers.specs.declared.Answer.{Answer}
use Rattle.answers.specs.declared.Answer.TheVariants.{Nothing, Put, Dropped, Break, RestartAsked, Overrun, Taken, Ignored, Returned, NoWord, Status, Done, Stored, Send, Quiet, GivenUp, Refused}

-- 2 function not listed, 3 delay, 4 rate, 5 queue full, 11 to 13 the faults of a frame, 14 to 16 a port event
abbrev pub refusal_number : Refusal → ℕ
refusal_number refusal.Function = 2
refusal_number refusal.Delay = 3
refusal_number refusal.Rate = 4
refusal_number refusal.Full = 5
refusal_number (refusal.Frame fault) = fault_number fault
refusal_number (refusal.Port of-port) = port_refusal_number of-port

-- 80 plus the refusal's number
abbrev pub refused_ans : Refusal → ℕ
refused_ans refusal = 0x80 + refusal_number refusal

abbrev pub ans_of : Answer → ℕ
ans_of Nothing = 0x00
ans_of (Put word) = 0x01
ans_of (Dropped word) = 0x02
ans_of Break = 0x03
ans_of RestartAsked = 0x04
ans_of Overrun = 0x05
ans_of Taken = 0x06
ans_of Ignored = 0x07
ans_of (Returned word) = 0x08
ans_of NoWord = 0x09
ans_of (Status status) = 0x0A
ans_of Done = 0x0B
ans_of (Stored word) = 0x0B
ans_of (Send byte) = 0x0C
ans_of Quiet = 0x0D
ans_of GivenUp = 0x0E
ans_of (Refused refusal) = refused_ans refusal

-- the word put, dropped, returned or sent, a status included, else 0000
abbrev pub word_of : Answer → ℕ
word_of Nothing = 0
word_of (Put word) = number_of word
word_of (Dropped word) = number_of word
word_of Break = 0
word_of RestartAsked = 0
word_of Overrun = 0
word_of Taken = 0
word_of Ignored = 0
word_of (Returned word) = number_of word
word_of NoWord = 0
word_of (Status status) = status
word_of Done = 0
word_of (Stored word) = number_of word
word_of (Send byte) = byte
word_of Quiet = 0
word_of GivenUp = 0
word_of (Refused refusal) = 0
