-- Document 01, "Flag bytes", and the high byte of function 12. Document 02, W-206: of the two ports they show the keyboard's.
-- Assumes nothing.
use Rattle.std.specs.Prelude.{ℕ, Bool, true, false}
use Rattle.bits.specs.Bits.{byte_of}
use Rattle.port.specs.declared.Prefix.{Prefix}
use Rattle.port.specs.declared.Prefix.TheVariants.{Closed, E0, E1, E1Make, E1Break}
use Rattle.port.specs.State.{either_side}
use Rattle.line.specs.Byte97 as line
use Rattle.state.specs.declared.Service.{Service}

abbrev pub e0_open : Prefix → Bool
e0_open Closed = false
e0_open E0 = true
e0_open E1 = false
e0_open E1Make = false
e0_open E1Break = false

abbrev pub e1_open : Prefix → Bool
e1_open Closed = false
e1_open E0 = false
e1_open E1 = true
e1_open E1Make = true
e1_open E1Break = true

-- 17: right Shift, left Shift, either Ctrl, either Alt, Scroll, Num, Caps, Insert
unfoldable pub byte17_of : Service → ℕ
byte17_of service =
    let m = service.ports.keyboard.modifiers in
    let l = service.shared.locks in
    byte_of m.shift.right m.shift.left (either_side m.ctrl) (either_side m.alt) l.scroll l.num l.caps l.insert

-- 18: left Ctrl, left Alt, SysReq held, paused, Scroll held, Num held, Caps held, Ins held
unfoldable pub byte18_of : Service → ℕ
byte18_of service =
    let m = service.ports.keyboard.modifiers in
    let h = service.ports.keyboard.held in
    byte_of m.ctrl.left m.alt.left h.sysreq service.shared.paused h.scroll h.num h.caps h.insert

-- 96: E1 open, E0 open, right Ctrl, right Alt
unfoldable pub byte96_of : Service → ℕ
byte96_of service =
    let m = service.ports.keyboard.modifiers in
    let prefix = service.ports.keyboard.prefix in
    byte_of (e1_open prefix) (e0_open prefix) m.ctrl.right m.alt.right false false false false

-- 97: the line's
unfoldable pub byte97_of : Service → ℕ
byte97_of service = line.byte97_of service.line

-- function 12, high: left Ctrl, left Alt, right Ctrl, right Alt, Scroll held, Num held, Caps held, SysReq
unfoldable pub status_high : Service → ℕ
status_high service =
    let m = service.ports.keyboard.modifiers in
    let h = service.ports.keyboard.held in
    byte_of m.ctrl.left m.alt.left m.ctrl.right m.alt.right h.scroll h.num h.caps h.sysreq
