-- Document 01, "Service and events": how a service is made, and services with one part changed.
-- Assumes nothing.
use Rattle.std.specs.Prelude.{ℕ, Bool, false, ltb, Result, Ok, Err}
use Rattle.bits.specs.Choice.{when◌then◌else◌}
use Rattle.bits.specs.Bits.{bit0, bit1, bit2, bit3}
use Rattle.port.specs.declared.Port.{Port}
use Rattle.port.specs.declared.Shared.{Shared}
use Rattle.port.specs.declared.Locks.{Locks}
use Rattle.port.specs.State.{new_port}
use Rattle.queue.specs.declared.Queue.{Queue}
use Rattle.queue.specs.Queue.{empty_queue}
use Rattle.line.specs.declared.Line.{Line}
use Rattle.line.specs.State.{new_line}
use Rattle.translation.specs.declared.CodeSet.{CodeSet}
use Rattle.translation.specs.declared.Codes.{Codes}
use Rattle.translation.specs.Translation.{unmarked_of}
use Rattle.controller.specs.declared.Controller.{Controller}
use Rattle.controller.specs.State.{new_controller}
use Rattle.state.specs.declared.Device.{Device}
use Rattle.state.specs.declared.Device.TheVariants.{Keyboard, Scanner}
use Rattle.state.specs.declared.Ports.{Ports}
use Rattle.state.specs.declared.Service.{Service}
use Rattle.state.specs.declared.MakingRefusal.{MakingRefusal}
use Rattle.state.specs.declared.MakingRefusal.TheVariants.{LockBits}
use Rattle.state.specs.declared.NotMade.{NotMade}

-- the lock bits: bit 0 Scroll, 1 Num, 2 Caps, 3 Insert
unfoldable pub locks_of : ℕ → Locks
locks_of bits =
    record {
      scroll = bit0 bits;
      num = bit1 bits;
      caps = bit2 bits;
      insert = bit3 bits;
    }

-- no key down at either port, no code marked, no word in the queue, the controller new
abbrev pub quiet_of : CodeSet → Locks → Bool → Line → Service
quiet_of set locks paused line =
    record {
      ports = record { keyboard = new_port; scanner = new_port };
      shared = record { locks = locks; paused = paused };
      queue = empty_queue;
      line = line;
      codes = unmarked_of set;
      controller = new_controller;
    }

-- all but the locks is clear, the queue empty, the line idle
abbrev pub with_locks : CodeSet → Locks → Service
with_locks set locks = quiet_of set locks false new_line

-- document 02, W-203: on either set
unfoldable pub new_service : CodeSet → ℕ → Service
new_service set bits = with_locks set (locks_of bits)

-- 1 lock bits above 15
abbrev pub making_refusal_number : MakingRefusal → ℕ
making_refusal_number LockBits = 1

-- lock bits above 15 give the service of bits 0 beside their refusal
unfoldable pub make_of : CodeSet → ℕ → Result Service NotMade
make_of set bits =
    when ltb 15 bits then Err (record { refusal = LockBits; service = new_service set 0 })
    else Ok (new_service set bits)

-- document 02, W-206: each device has a port of its own
abbrev pub port_of : Device → Ports → Port
port_of Keyboard ports = ports.keyboard
port_of Scanner ports = ports.scanner

abbrev pub ports_with : Device → Port → Ports → Ports
ports_with Keyboard port ports = record { keyboard = port; scanner = ports.scanner }
ports_with Scanner port ports = record { keyboard = ports.keyboard; scanner = port }

abbrev pub with_ports : Service → Ports → Shared → Service
with_ports service ports shared =
    record { ports = ports; shared = shared; queue = service.queue; line = service.line; codes = service.codes; controller = service.controller }

abbrev pub with_queue : Service → Queue → Service
with_queue service queue =
    record { ports = service.ports; shared = service.shared; queue = queue; line = service.line; codes = service.codes; controller = service.controller }

abbrev pub with_line : Service → Line → Service
with_line service line =
    record { ports = service.ports; shared = service.shared; queue = service.queue; line = line; codes = service.codes; controller = service.controller }

abbrev pub with_codes : Service → Codes → Service
with_codes service codes =
    record { ports = service.ports; shared = service.shared; queue = service.queue; line = service.line; codes = codes; controller = service.controller }

-- document 02, W-207
abbrev pub with_controller : Service → Controller → Service
with_controller service controller =
    record { ports = service.ports; shared = service.shared; queue = service.queue; line = service.line; codes = service.codes; controller = controller }
