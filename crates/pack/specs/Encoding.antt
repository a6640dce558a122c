-- Document 01, "Events, as a pack encodes them", with document 02, W-206, the other way: the bytes of a list of events.
-- Assumes nothing.
use Rattle.std.specs.Prelude.{ℕ, List, [], ◌∷◌, ◌++◌}
use Rattle.events.specs.declared.Event.{Event}
use Rattle.events.specs.declared.Event.TheVariants.{Key, Call, Poll, TimeOut, Empty, Restart, Scan}
use Rattle.events.specs.Tags.{key_tag, call_tag, poll_tag, time_out_tag, empty_tag, restart_tag, scan_tag}

abbrev pub encode_event : Event → List ℕ
encode_event (Key byte) = key_tag ∷ byte ∷ []
encode_event (Call function a b) = call_tag ∷ function ∷ a ∷ b ∷ []
encode_event Poll = poll_tag ∷ []
encode_event TimeOut = time_out_tag ∷ []
encode_event Empty = empty_tag ∷ []
encode_event Restart = restart_tag ∷ []
encode_event (Scan byte) = scan_tag ∷ byte ∷ []

unfoldable pub encode : List Event → List ℕ
encode [] = []
encode (event ∷ later) = encode_event event ++ encode later
