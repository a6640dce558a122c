-- A code that step 4 does not name changes nothing.
-- Assumes nothing.
use mathlib.Core.Path.{◌≡◌, refl, sym}
use mathlib.Core.Bool.{Bool, true, false, not, ◌||◌, true≢false}
use Rattle.bits.specs.Choice.{when◌then◌else◌}
use Rattle.bits.proofs.Tests.{neither}
use Rattle.word.specs.Word.{is_code}
use Rattle.port.specs.declared.Code.{Code}
use Rattle.port.specs.declared.Port.{Port}
use Rattle.port.specs.declared.Shared.{Shared}
use Rattle.port.specs.declared.Effect.TheVariants.{Nothing}
use Rattle.port.specs.State.{result_of}
use Rattle.port.specs.Flags.{modifiers_after, held_after, locks_after, flags_changed}
use Rattle.port_modifiers.specs.Named.{is_key, is_named}

pub not_holds : (test : Bool) → not test ≡ true → test ≡ false
not_holds true h = absurd (true≢false (sym h))
not_holds false h = refl

record None (a b c d e f g h i : Bool) : Type 0 where
  left : a ≡ false
  right : b ≡ false
  ctrl : c ≡ false
  alt : d ≡ false
  caps : e ≡ false
  num : f ≡ false
  scroll : g ≡ false
  sysreq : h ≡ false
  insert : i ≡ false

none : (a b c d e f g h i : Bool) → (a || b || c || d || e || f || g || h || i) ≡ false → None a b c d e f g h i
none true b c d e f g h i is = absurd (true≢false is)
none false true c d e f g h i is = absurd (true≢false is)
none false false true d e f g h i is = absurd (true≢false is)
none false false false true e f g h i is = absurd (true≢false is)
none false false false false true f g h i is = absurd (true≢false is)
none false false false false false true g h i is = absurd (true≢false is)
none false false false false false false true h i is = absurd (true≢false is)
none false false false false false false false true i is = absurd (true≢false is)
none false false false false false false false false true is = absurd (true≢false is)
none false false false false false false false false false is =
    record { left = refl; right = refl; ctrl = refl; alt = refl; caps = refl; num = refl; scroll = refl; sysreq = refl; insert = refl }

pub unnamed : (port : Port) (shared : Shared) (code : Code) → is_named code.scan ≡ false → flags_changed port shared code ≡ result_of port shared Nothing
unfolding is_named flags_changed modifiers_after held_after locks_after when◌then◌else◌
unnamed port shared code is =
    let scan = code.scan in
    let not_named =
    none (is_key 0x2A scan) (is_key 0x36 scan) (is_key 0x1D scan) (is_key 0x38 scan) (is_key 0x3A scan) (is_key 0x45 scan) (is_key 0x46 scan) (is_key 0x54 scan) (is_code 0xD2 scan) is in
    -- of each key neither the make nor the break
    let left = neither (is_code 0x2A scan) (is_code 0xAA scan) not_named.left in
    let right = neither (is_code 0x36 scan) (is_code 0xB6 scan) not_named.right in
    let ctrl = neither (is_code 0x1D scan) (is_code 0x9D scan) not_named.ctrl in
    let alt = neither (is_code 0x38 scan) (is_code 0xB8 scan) not_named.alt in
    let caps = neither (is_code 0x3A scan) (is_code 0xBA scan) not_named.caps in
    let num = neither (is_code 0x45 scan) (is_code 0xC5 scan) not_named.num in
    let scroll = neither (is_code 0x46 scan) (is_code 0xC6 scan) not_named.scroll in
    let sysreq = neither (is_code 0x54 scan) (is_code 0xD4 scan) not_named.sysreq in
    simp (not_named.insert, left.first, left.second, right.first, right.second, ctrl.first, ctrl.second, alt.first, alt.second, caps.first, caps.second, num.first, num.second, scroll.first, scroll.second, sysreq.first, sysreq.second)
