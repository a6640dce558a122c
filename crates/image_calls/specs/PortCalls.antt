-- Document 02, W-207: the calls for C on the ports.
-- Assumes nothing.
use Rattle.std.specs.Prelude.{ℕ}
use Rattle.controller.specs.declared.PortEvent.{PortEvent}
use Rattle.controller.specs.declared.Response.{Response}
use Rattle.controller.specs.State.{status_of}
use Rattle.controller.specs.PortEvents.{byte_in, interrupt_in, is_key_in}
use Rattle.events.specs.Controller.{port_step_of}
use Rattle.image.specs.declared.Image.{Image}
use Rattle.image.specs.ImageLine.{flag_of}
use Rattle.image.specs.Image.{service_of}
use Rattle.image_calls.specs.declared.Shown.{Shown}
use Rattle.image_calls.specs.declared.PortShown.{PortShown}
use Rattle.image_calls.specs.declared.PortChanged.{PortChanged}
use Rattle.image_calls.specs.Exports.{changed_by}

abbrev pub port_shown : Shown → Response → ℕ → PortShown
port_shown shown response status =
    record { shown = shown; byte = byte_in response; status = status; interrupt = flag_of (interrupt_in response); fed = flag_of (is_key_in response) }

-- the image of the service after it; 14 to 16 leave the image
unfoldable pub port_to : Image → PortEvent → PortChanged
port_to image event =
    let step = port_step_of (service_of image) event in
    let changed = changed_by image step.outcome in
    record { image = changed.image; shown = port_shown changed.shown step.response (status_of step.outcome.service.controller) }
