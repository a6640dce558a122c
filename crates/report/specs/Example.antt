-- The three reports that document 01 prints, for the keyboard bytes 2A 1E AA on locks 0 and set 1.
-- Assumes nothing.
use Rattle.std.specs.Prelude.{ℕ, ◌≡◌, List, [], ◌∷◌, ◌++◌}
use Rattle.translation.specs.declared.CodeSet.TheVariants.{One}
use Rattle.events.specs.declared.Event.TheVariants.{Key}
use Rattle.state.specs.State.{new_service}
use Rattle.report.specs.Reported.{texts_of}

abbrev pub ev=K : List ℕ
ev=K = 0x65 ∷ 0x76 ∷ 0x3D ∷ 0x4B ∷ 0x0A ∷ []

abbrev pub ans=00 : List ℕ
ans=00 = 0x61 ∷ 0x6E ∷ 0x73 ∷ 0x3D ∷ 0x30 ∷ 0x30 ∷ 0x0A ∷ []

abbrev pub ans=01 : List ℕ
ans=01 = 0x61 ∷ 0x6E ∷ 0x73 ∷ 0x3D ∷ 0x30 ∷ 0x31 ∷ 0x0A ∷ []

abbrev pub word=0000 : List ℕ
word=0000 = 0x77 ∷ 0x6F ∷ 0x72 ∷ 0x64 ∷ 0x3D ∷ 0x30 ∷ 0x30 ∷ 0x30 ∷ 0x30 ∷ 0x0A ∷ []

abbrev pub word=1E41 : List ℕ
word=1E41 = 0x77 ∷ 0x6F ∷ 0x72 ∷ 0x64 ∷ 0x3D ∷ 0x31 ∷ 0x45 ∷ 0x34 ∷ 0x31 ∷ 0x0A ∷ []

abbrev pub flags=00000000 : List ℕ
flags=00000000 = 0x66 ∷ 0x6C ∷ 0x61 ∷ 0x67 ∷ 0x73 ∷ 0x3D ∷ 0x30 ∷ 0x30 ∷ 0x30 ∷ 0x30 ∷ 0x30 ∷ 0x30 ∷ 0x30 ∷ 0x30 ∷ 0x0A ∷ []

abbrev pub flags=02000000 : List ℕ
flags=02000000 = 0x66 ∷ 0x6C ∷ 0x61 ∷ 0x67 ∷ 0x73 ∷ 0x3D ∷ 0x30 ∷ 0x32 ∷ 0x30 ∷ 0x30 ∷ 0x30 ∷ 0x30 ∷ 0x30 ∷ 0x30 ∷ 0x0A ∷ []

abbrev pub sent=0 : List ℕ
sent=0 = 0x73 ∷ 0x65 ∷ 0x6E ∷ 0x74 ∷ 0x3D ∷ 0x30 ∷ 0x0A ∷ []

abbrev pub PrintedExample : Type 0
PrintedExample =
    texts_of (new_service One 0) (Key 0x2A ∷ Key 0x1E ∷ Key 0xAA ∷ []) ≡
    (ev=K ++ ans=00 ++ word=0000 ++ flags=02000000 ++ sent=0)
    ++ (ev=K ++ ans=01 ++ word=1E41 ++ flags=02000000 ++ sent=0)
    ++ (ev=K ++ ans=00 ++ word=0000 ++ flags=00000000 ++ sent=0)
