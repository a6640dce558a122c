-- An image is read as a service in range, and a service in range comes back from its image, part by part.
-- Assumes nothing.
use Rattle.std.specs.Prelude.{Option, None, Some}
use Prim.Native.Nat.{ℕ, min, ◌+◌, ◌-◌, ◌*◌, ◌/◌, ◌%◌, ◌<◌, ◌≤◌}
use native.Mathlib.Nat.{div-div-eq-div-mul, mod-eq_of_lt}
use native.Mathlib.Omega.{arith}
use mathlib.Core.Path.{◌≡◌, refl, ap, ◌∙◌}
use mathlib.Core.Bool.{Bool, true, false}
use mathlib.Core.List.{List, [], ◌∷◌, map}
use lib.Dec.{eqb, ltb}
use borrow.Author.Tests.{lt-ltb, ltb-true, eqb-true, eqb-false, eq-eqb, ne_eqb}
use Rattle.bits.specs.Choice.{when◌then◌else◌}
use Rattle.bits.specs.Bits.{weight_of, byte_of, bit0}
use Rattle.bits.proofs.Choice.{by_test, either}
use Rattle.bits.proofs.Bytes.{digit, Spelt, spelt, digit_read, BitsBack, bits_back, lower_half_raised}
use Rattle.word.specs.declared.Word.{Word}
use Rattle.port.specs.declared.Prefix.{Prefix}
use Rattle.port.specs.declared.Prefix.TheVariants.{Closed, E0, E1, E1Make, E1Break}
use Rattle.port.specs.declared.Sides.{Sides}
use Rattle.port.specs.declared.Modifiers.{Modifiers}
use Rattle.port.specs.declared.Held.{Held}
use Rattle.port.specs.declared.Port.{Port}
use Rattle.port.specs.declared.Locks.{Locks}
use Rattle.port.specs.State.{either_side}
use Rattle.queue.specs.declared.Queue.{Queue}
use Rattle.queue.specs.Queue.{capacity, empty_queue}
use Rattle.queue.specs.Words.{QueueInRange}
use Rattle.line.specs.declared.Kind.{Kind}
use Rattle.line.specs.declared.Kind.TheVariants.{Led, Rate}
use Rattle.line.specs.declared.Command.{Command}
use Rattle.line.specs.declared.Phase.{Phase}
use Rattle.line.specs.declared.Phase.TheVariants.{Idle, Awaiting, Ready}
use Rattle.line.specs.declared.Line.{Line}
use Rattle.line.specs.State.{led_runs_of, led_runs_in, new_line}
use Rattle.line.specs.Byte97.{byte97_of}
use Rattle.line.specs.Ranges.{led_values, rate_values, values_of, SettingBelow, CommandInRange, PhaseInRange, LineInRange}
use Rattle.translation.specs.declared.CodeSet.{CodeSet}
use Rattle.translation.specs.declared.Codes.{Codes}
use Rattle.translation.specs.declared.Codes.TheVariants.{SetOne, SetTwo, SetTwoMarked}
use Rattle.controller.specs.declared.Buffer.{Buffer}
use Rattle.controller.specs.declared.Buffer.TheVariants.{Empty, Key, Answer}
use Rattle.controller.specs.declared.Controller.{Controller}
use Rattle.controller.specs.State.{new_controller}
use Rattle.state.specs.declared.Service.{Service}
use Rattle.state.specs.State.{locks_of, new_service}
use Rattle.state.specs.Flags.{e0_open, e1_open, byte17_of, byte18_of, byte96_of, byte97_of as shown97}
use Rattle.image.specs.declared.CommandImage.{CommandImage}
use Rattle.image.specs.declared.LineImage.{LineImage}
use Rattle.image.specs.declared.QueueImage.{QueueImage}
use Rattle.image.specs.ImageFlags.{flag_bytes_of, modifiers_at, held_at, shared_at, prefix_number, prefix_at, codes_number, input_number, codes_at}
use Rattle.image.specs.ImageQueue.{word_image, word_at_image, head_at, queue_image, queue_at}
use Rattle.image.specs.ImageLine.{flag_of, is_set, kind_number, kind_at, setting_image, setting_at, value_in, command_image, command_at, phase_image, phase_at, marks_at, line_image, line_at}
use Rattle.image.specs.ImagePort.{sides_number, sides_at, locks_held_number, port_image, port_at, new_port_image}
use Rattle.image.specs.ImageController.{turned_over, buffer_number, held_in, buffer_at, controller_image, controller_at, new_controller_image}
use Rattle.image.specs.Image.{image_of, keyboard_at, service_of, new_image}
use Rattle.image.specs.ImageLaws.{ReadsInRange, ComesBack, MadeAnew}

pub flag_back : (bit : Bool) → is_set (flag_of bit) ≡ bit
flag_back true = refl
flag_back false = refl

-- the halves of a byte, each as it was put in
pub lower_back : (prefix : ℕ) (codes : Codes) → input_number prefix codes % 16 ≡ prefix % 16
lower_back prefix codes = omega arith

pub upper_back : (prefix : ℕ) (codes : Codes) → input_number prefix codes / 16 ≡ codes_number codes
upper_back prefix codes = omega arith

prefix_back : (prefix : Prefix) → prefix_at (prefix_number prefix) ≡ prefix
unfolding prefix_at when◌then◌else◌
prefix_back Closed = refl
prefix_back E0 = refl
prefix_back E1 = refl
prefix_back E1Make = refl
prefix_back E1Break = refl

-- and so where it is half of a byte
half_back : (prefix : Prefix) → prefix_at (prefix_number prefix % 16) ≡ prefix
half_back Closed = prefix_back Closed
half_back E0 = prefix_back E0
half_back E1 = prefix_back E1
half_back E1Make = prefix_back E1Make
half_back E1Break = prefix_back E1Break

pub codes_back : (codes : Codes) → codes_at (codes_number codes) ≡ codes
unfolding codes_at when◌then◌else◌
codes_back SetOne = refl
codes_back SetTwo = refl
codes_back SetTwoMarked = refl

-- the bits of three flag bytes, each as it was put in
module _ (service : Service) where
  abbrev m : Modifiers
  m = service.ports.keyboard.modifiers

  abbrev h : Held
  h = service.ports.keyboard.held

  abbrev l : Locks
  l = service.shared.locks

  in17 : BitsBack m.shift.right m.shift.left (either_side m.ctrl) (either_side m.alt) l.scroll l.num l.caps l.insert
  in17 = bits_back _ _ _ _ _ _ _ _

  in18 : BitsBack m.ctrl.left m.alt.left h.sysreq service.shared.paused h.scroll h.num h.caps h.insert
  in18 = bits_back _ _ _ _ _ _ _ _

  in96 : BitsBack (e1_open service.ports.keyboard.prefix) (e0_open service.ports.keyboard.prefix) m.ctrl.right m.alt.right false false false false
  in96 = bits_back _ _ _ _ _ _ _ _

  modifiers_back : modifiers_at (flag_bytes_of service) ≡ m
  unfolding byte17_of byte18_of byte96_of
  modifiers_back = simp (in17.at0, in17.at1, in18.at0, in18.at1, in96.at2, in96.at3)

  held_back : held_at (flag_bytes_of service).byte18 ≡ h
  unfolding byte18_of
  held_back = simp (in18.at2, in18.at4, in18.at5, in18.at6, in18.at7)

  shared_back : shared_at (flag_bytes_of service) ≡ service.shared
  unfolding byte17_of byte18_of locks_of
  shared_back = simp (div-div-eq-div-mul, in17.at4, in17.at5, in17.at6, in17.at7, in18.at3)

-- a port beside the flag bytes
sides_back : (sides : Sides) → sides_at (sides_number sides) ≡ sides
unfolding sides_at sides_number
sides_back sides = let back = bits_back sides.right sides.left false false false false false false in simp (back.at0, back.at1)

port_back : (port : Port) → port_at (port_image port) ≡ port
unfolding port_at port_image locks_held_number
port_back port =
    let held = bits_back port.held.scroll port.held.num port.held.caps false false false false false in
    simp (prefix_back, sides_back, held.at0, held.at1, held.at2, flag_back)

-- the controller
turned_odd : (command : ℕ) → command % 2 ≡ 1 → turned_over (command - 1) ≡ command
unfolding turned_over when◌then◌else◌
turned_odd command odd = simp (ne_eqb ((command - 1) % 2) 1 (λ e. omega (arith, odd, e))) (omega (arith, odd))

turned_even : (command : ℕ) → (command % 2 ≡ 1 → ⊥) → turned_over (command + 1) ≡ command
unfolding turned_over when◌then◌else◌
turned_even command even = simp (eq-eqb ((command + 1) % 2) 1 (omega (arith, even))) (omega arith)

-- what turnedOver is, once
turned : (command : ℕ) → turned_over command ≡ (when bit0 command then command - 1 else command + 1)
unfolding turned_over
turned command = refl

pub turned_back : (command : ℕ) → turned_over (turned_over command) ≡ command
turned_back command =
    ap turned_over (turned command)
    ∙ by_test (λ (n : ℕ). turned_over n ≡ command) (bit0 command) (command - 1) (command + 1)
    (λ odd. turned_odd command (eqb-true (command % 2) 1 odd)) (λ even. turned_even command (eqb-false (command % 2) 1 even))

buffer_back : (held : Buffer) → buffer_at (buffer_number held) (held_in held) ≡ held
unfolding buffer_at when◌then◌else◌
buffer_back (Empty last) = refl
buffer_back (Key byte) = refl
buffer_back (Answer byte) = refl

pub controller_back : (controller : Controller) → controller_at (controller_image controller) ≡ controller
unfolding controller_at controller_image
controller_back controller = simp (buffer_back, turned_back, flag_back)

odd_part : (number digit rest : ℕ) → number ≡ digit + 2 * rest → digit ≤ 1 → number % 2 ≡ digit
odd_part number digit rest is most = omega arith

marks_back : (line : Line) → LineInRange line → marks_at (byte97_of line) ≡ line.marks
unfolding byte97_of weight_of when◌then◌else◌
marks_back line h =
    let m = line.marks in
    let upper : ℕ = byte_of false false false false m.acknowledged m.resend (led_runs_of line) m.abandoned in
    let digits : Spelt false false false false m.acknowledged m.resend (led_runs_of line) m.abandoned = spelt _ _ _ _ _ _ _ _ in
    let in_range : m.done % 8 ≡ m.done = mod-eq_of_lt h.done in
    let done : (m.done % 8 + upper) % 8 ≡ m.done = omega arith in
    let from4 : (m.done % 8 + upper) / 16 ≡ digit m.acknowledged + 2 * (digit m.resend + 2 * (digit (led_runs_of line) + 2 * digit m.abandoned)) = omega arith in
    let from5 : (m.done % 8 + upper) / 32 ≡ digit m.resend + 2 * (digit (led_runs_of line) + 2 * digit m.abandoned) = omega arith in
    let from7 : (m.done % 8 + upper) / 128 ≡ digit m.abandoned + 2 * 0 = omega arith in
    simp (
      done,
      digit_read m.acknowledged _ (odd_part _ _ _ from4 digits.most4),
      digit_read m.resend _ (odd_part _ _ _ from5 digits.most5),
      digit_read m.abandoned _ (odd_part _ _ 0 from7 digits.most7),
    )

words_back : (words : List Word) → map word_at_image (map word_image words) ≡ words
words_back [] = refl
words_back (word ∷ words) = ap (λ (more : List Word). word ∷ more) (words_back words)

queue_back : (queue : Queue) → QueueInRange queue → queue_at (queue_image queue) ≡ queue
unfolding queue_at queue_image head_at when◌then◌else◌
queue_back queue h =
    let count : min queue.count capacity ≡ queue.count = omega (arith, h.count) in
    simp (words_back, lt-ltb _ _ h.head, count)

queue_read : (image : QueueImage) → QueueInRange (queue_at image)
unfolding queue_at head_at
queue_read image =
    record {
      head = by_test (λ (head : ℕ). head < capacity) (ltb image.head capacity) _ _ (ltb-true image.head capacity) (λ _. omega arith);
      count = omega arith;
    }

kind_back : (kind : Kind) → kind_at (kind_number kind) ≡ kind
unfolding kind_at when◌then◌else◌
kind_back Led = refl
kind_back Rate = refl

value_back : (kind : Kind) (value : ℕ) → value < values_of kind → value_in (kind_number kind) value ≡ value
unfolding value_in when◌then◌else◌
value_back Led value h = mod-eq_of_lt h
value_back Rate value h = mod-eq_of_lt h

command_back : (command : Command) → CommandInRange command → (phase : ℕ) → command_at (command_image phase command) ≡ command
command_back command h phase =
    let sends : min command.sends 3 ≡ command.sends = omega (arith, h.sends) in
    let sent : min command.sent 6 ≡ command.sent = omega (arith, h.sent) in
    simp (flag_back, kind_back, value_back command.kind command.value h.value, sends, sent)

phase_back : (phase : Phase) → PhaseInRange phase → phase_at (phase_image phase) ≡ phase
unfolding phase_at when◌then◌else◌
phase_back (Idle turn) h = ap Idle (kind_back turn)
phase_back (Awaiting command) h = ap Awaiting (command_back command h 1)
phase_back (Ready command) h = ap Ready (command_back command h 2)

-- a setting with fewer than so many values
module _ (values : ℕ) where
  setting_back : (setting : Option ℕ) → SettingBelow values setting → setting_at (setting_image setting).known ((setting_image setting).value % values) ≡ setting
  unfolding setting_at when◌then◌else◌
  setting_back None h = refl
  setting_back (Some value) h = ap Some (mod-eq_of_lt h)

  setting_read : (known value : ℕ) → value < values → SettingBelow values (setting_at known value)
  unfolding setting_at
  setting_read known value h = either (SettingBelow values) _ _ _ tt h

line_back : (line : Line) → LineInRange line → line_at (line_image line) (byte97_of line) ≡ line
unfolding line_at line_image
line_back line h =
    simp (
      marks_back line h,
      phase_back line.phase h.phase,
      setting_back led_values line.handled h.handled,
      setting_back rate_values line.rate h.rate,
    )

value_by : (led : Bool) (value : ℕ) → (when led then value % led_values else value % rate_values) < values_of (when led then Led else Rate)
unfolding when◌then◌else◌
value_by true value = omega arith
value_by false value = omega arith

value_read : (kind value : ℕ) → value_in kind value < values_of (kind_at kind)
unfolding value_in kind_at
value_read kind value = value_by (eqb kind 0) value

command_read : (image : CommandImage) → CommandInRange (command_at image)
command_read image = record { value = value_read image.kind image.value; sends = omega arith; sent = omega arith }

phase_read : (image : CommandImage) → PhaseInRange (phase_at image)
unfolding phase_at
phase_read image = either PhaseInRange _ _ _ (command_read image) (either PhaseInRange _ _ _ (command_read image) tt)

line_read : (image : LineImage) (byte97 : ℕ) → LineInRange (line_at image byte97)
unfolding line_at
line_read image byte97 =
    record {
      phase = phase_read image.command;
      handled = setting_read led_values image.handled.known _ (omega arith);
      rate = setting_read rate_values image.rate.known _ (omega arith);
      done = omega arith;
    }

pub reads_in_range : ReadsInRange
unfolding service_of
reads_in_range image = record { queue = queue_read image.queue; line = line_read image.line image.flags.byte97 }

its_line_back : (service : Service) → LineInRange service.line → line_at (line_image service.line) (flag_bytes_of service).byte97 ≡ service.line
unfolding shown97
its_line_back service = line_back service.line

keyboard_back : (service : Service) → keyboard_at (image_of service) ≡ service.ports.keyboard
unfolding image_of keyboard_at
keyboard_back service = simp (lower_back, half_back, modifiers_back service, held_back service)

pub comes_back : ComesBack
unfolding service_of image_of
comes_back service in_range =
    simp (keyboard_back service, port_back, controller_back, upper_back, codes_back, shared_back service, queue_back service.queue in_range.queue, its_line_back service in_range.line)

none_set : byte_of false false false false false false false false ≡ 0
unfolding byte_of weight_of when◌then◌else◌
none_set = refl

line_clear : (set : CodeSet) (bits : ℕ) → shown97 (new_service set bits) ≡ 0
unfolding shown97 byte97_of led_runs_of led_runs_in new_service new_line byte_of weight_of when◌then◌else◌
line_clear set bits = refl

pub made_anew : MadeAnew
unfolding image_of new_image new_port_image new_controller_image byte17_of byte18_of byte96_of queue_image line_image port_image sides_number locks_held_number controller_image turned_over new_controller when◌then◌else◌ new_service locks_of empty_queue new_line
made_anew set bits = simp (lower_half_raised, none_set, line_clear)
