-- Document 01, "Report and program": what kbdtrace prints for a pack.
-- Assumes nothing.
use Rattle.std.specs.Prelude.{ℕ, List, [], ◌∷◌, ◌++◌}
use Rattle.translation.specs.declared.CodeSet.TheVariants.{One}
use Rattle.state.specs.declared.Service.{Service}
use Rattle.state.specs.State.{new_service}
use Rattle.pack.specs.Parsing.{Parsed, parse}
use Rattle.digits.specs.Digits.{digit_of, four_digits}
use Rattle.report.specs.Text.{line_end}
use Rattle.report.specs.Reported.{texts_of}

-- end=0000
abbrev pub end_line : ℕ → List ℕ
end_line end = (0x65 ∷ 0x6E ∷ 0x64 ∷ 0x3D ∷ []) ++ four_digits end ++ line_end

-- refused=0
abbrev pub refused_line : ℕ → List ℕ
refused_line refusal = (0x72 ∷ 0x65 ∷ 0x66 ∷ 0x75 ∷ 0x73 ∷ 0x65 ∷ 0x64 ∷ 0x3D ∷ []) ++ (digit_of refusal ∷ line_end)

unfoldable pub closing_of : ℕ → ℕ → List ℕ
closing_of end refusal = end_line end ++ refused_line refusal

-- the reports of the events read, then where reading ended and the refusal that ended it
unfoldable pub printed_of : Service → Parsed → List ℕ
printed_of service parsed = texts_of service parsed.events ++ closing_of parsed.end parsed.refusal

-- the text of a pack, from locks 0 and on set 1
unfoldable pub trace_of : List ℕ → List ℕ
trace_of pack = printed_of (new_service One 0) (parse pack)
