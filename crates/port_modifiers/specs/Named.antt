-- The codes that step 4 names.
-- Assumes nothing.
use Rattle.std.specs.Prelude.{ℕ, ◌+◌, Bool, ◌||◌}
use Rattle.word.specs.declared.ScanCode.{ScanCode}
use Rattle.word.specs.Word.{is_code}

-- a key's make or its break
abbrev pub is_key : ℕ → ScanCode → Bool
is_key make scan = is_code make scan || is_code (make + 0x80) scan

-- the keys of modifiers, locks and SysReq; of Insert, the break
unfoldable pub is_named : ScanCode → Bool
is_named scan =
    is_key 0x2A scan || is_key 0x36 scan || is_key 0x1D scan || is_key 0x38 scan
    || is_key 0x3A scan || is_key 0x45 scan || is_key 0x46 scan || is_key 0x54 scan || is_code 0xD2 scan
