-- The image of a new service on the set in force, with the lock bits that stand, the upper half of byte 17, is what the all-up run, E and R
-- leave.
-- Assumes nothing.
use Prim.Native.Nat.{◌/◌}
use mathlib.Core.Path.{◌≡◌, ap, sym, ◌∙◌}
use mathlib.Core.List.{[]}
use Rattle.answers.specs.declared.Answer.TheVariants.{Done}
use Rattle.answers.specs.Answers.{ans_of}
use Rattle.translation.specs.Translation.{set_of}
use Rattle.state.specs.State.{new_service}
use Rattle.events.specs.Run.{after}
use Rattle.events.specs.Resynchronised.{resynchronisation, set_in}
use Rattle.events.proofs.Resynchronised.{only_locks_stay}
use Rattle.image.specs.declared.Image.{Image}
use Rattle.image.specs.ImageFlags.{codes_at}
use Rattle.image.specs.Image.{image_of, service_of, new_image}
use Rattle.image.proofs.ImageLaws.{made_anew}
use Rattle.image_calls.specs.declared.Changed.{Changed}
use Rattle.image_calls.specs.Exports.{shown_with, resynchronised_to}

-- an image as it stands, with what an R shows of it
abbrev pub shown_restart : Image → Changed
shown_restart image = record { image = image; shown = shown_with image.flags (ans_of Done) 0 0 }

pub remade_image : (image : Image) → shown_restart (new_image (set_of (codes_at (image.input / 16))) (image.flags.byte17 / 16)) ≡ resynchronised_to image
unfolding image_of service_of new_service
remade_image image =
    let set = set_of (codes_at (image.input / 16)) in
    let bits = image.flags.byte17 / 16 in
    let settled : after (service_of image) (resynchronisation [] (set_in (service_of image))) ≡ new_service set bits = only_locks_stay [] (service_of image) in
    ap shown_restart (sym (made_anew set bits) ∙ ap image_of (sym settled))
