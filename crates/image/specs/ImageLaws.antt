-- What holds of images. ImageLaws.antt of proofs/ proves each sentence.
-- Assumes nothing.
use Rattle.std.specs.Prelude.{ℕ, ◌≡◌}
use Rattle.translation.specs.declared.CodeSet.{CodeSet}
use Rattle.state.specs.declared.Service.{Service}
use Rattle.state.specs.State.{new_service}
use Rattle.state.specs.Ranges.{InRange}
use Rattle.image.specs.declared.Image.{Image}
use Rattle.image.specs.Image.{image_of, service_of, new_image}

-- every image is read as a service whose numbers are in range
abbrev pub ReadsInRange : Type 0
ReadsInRange = (image : Image) → InRange (service_of image)

-- and such a service comes back from its image
abbrev pub ComesBack : Type 0
ComesBack = (service : Service) → InRange service → service_of (image_of service) ≡ service

-- a service newly made has the image that its set and lock bits give; on set 1 with no lock on, that is memory that holds zeros
abbrev pub MadeAnew : Type 0
MadeAnew = (set : CodeSet) (bits : ℕ) → image_of (new_service set bits) ≡ new_image set bits
