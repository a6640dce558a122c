-- The service as numbers only, for callers that know no enum, and the service that any such numbers mean.
-- Assumes nothing.
use Rattle.std.specs.Prelude.{ℕ, ◌*◌, ◌/◌, ◌%◌, replicate}
use Rattle.port.specs.declared.Port.{Port}
use Rattle.queue.specs.Queue.{array_length}
use Rattle.translation.specs.declared.CodeSet.{CodeSet}
use Rattle.translation.specs.Translation.{unmarked_of}
use Rattle.controller.specs.State.{new_controller}
use Rattle.state.specs.declared.Service.{Service}
use Rattle.state.specs.State.{with_controller}
use Rattle.image.specs.declared.ControllerImage.{ControllerImage}
use Rattle.image.specs.declared.Image.{Image}
use Rattle.image.specs.ImageFlags.{flag_bytes_of, modifiers_at, held_at, shared_at, prefix_number, prefix_at, input_number, codes_at}
use Rattle.image.specs.ImagePort.{port_image, port_at, new_port_image}
use Rattle.image.specs.ImageController.{controller_image, controller_at, new_controller_image}
use Rattle.image.specs.ImageQueue.{queue_image, queue_at}
use Rattle.image.specs.ImageLine.{line_image, line_at}

unfoldable pub image_of : Service → Image
image_of service =
    record {
      flags = flag_bytes_of service;
      input = input_number (prefix_number service.ports.keyboard.prefix) service.codes;
      sum = service.ports.keyboard.sum;
      line = line_image service.line;
      queue = queue_image service.queue;
      scanner = port_image service.ports.scanner;
      controller = controller_image service.controller;
    }

unfoldable pub keyboard_at : Image → Port
keyboard_at image =
    record {
      prefix = prefix_at (image.input % 16);
      modifiers = modifiers_at image.flags;
      held = held_at image.flags.byte18;
      sum = image.sum;
    }

unfoldable pub service_of : Image → Service
service_of image =
    record {
      ports = record { keyboard = keyboard_at image; scanner = port_at image.scanner };
      shared = shared_at image.flags;
      queue = queue_at image.queue;
      line = line_at image.line image.flags.byte97;
      codes = codes_at (image.input / 16);
      controller = controller_at image.controller;
    }

-- the same beside its controller
unfoldable pub bare_service_of : Image → Service
bare_service_of image = with_controller (service_of image) new_controller

-- a service newly made on a set with lock bits, of which the last four count
unfoldable pub new_image : CodeSet → ℕ → Image
new_image set bits =
    record {
      flags = record { byte17 = 16 * (bits % 16); byte18 = 0; byte96 = 0; byte97 = 0 };
      input = input_number 0 (unmarked_of set);
      sum = 0;
      line =
          record {
            rate = record { known = 0; value = 0 };
            handled = record { known = 0; value = 0 };
            command = record { phase = 0; kind = 0; value = 0; operand = 0; sends = 0; sent = 0 };
          };
      queue = record { words = replicate array_length (record { scan = 0; ascii = 0 }); head = 0; count = 0 };
      scanner = new_port_image;
      controller = new_controller_image;
    }

-- the image with the codes of a set, unmarked
unfoldable pub on_set : CodeSet → Image → Image
on_set set image =
    record {
      flags = image.flags;
      input = input_number image.input (unmarked_of set);
      sum = image.sum;
      line = image.line;
      queue = image.queue;
      scanner = image.scanner;
      controller = image.controller;
    }

-- the image with another controller
unfoldable pub on_controller : ControllerImage → Image → Image
on_controller controller image =
    record {
      flags = image.flags;
      input = image.input;
      sum = image.sum;
      line = image.line;
      queue = image.queue;
      scanner = image.scanner;
      controller = controller;
    }
