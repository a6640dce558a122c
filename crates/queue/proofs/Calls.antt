-- What a call's definition comes to once its test is known.
-- Assumes nothing.
use Rattle.std.specs.Prelude.{None, Some, Ok, Err}
use mathlib.Core.Path.{◌≡◌, refl}
use mathlib.Core.Bool.{Bool, true, false}
use Prim.Native.Nat.{◌<◌, ◌≤◌}
use native.Mathlib.Omega.{arith}
use borrow.Author.Tests.{eq-eqb, ne_eqb, lt-ltb, le-ltb}
use lib.ListN.{get_or}
use Rattle.bits.specs.Choice.{when◌then◌else◌}
use Rattle.word.specs.declared.Word.{Word}
use Rattle.queue.specs.declared.Queue.{Queue}
use Rattle.queue.specs.Queue.{capacity, blank, place_of, held_in, oldest_of, longer, put_of, stored_answer, shorter, rest_of}

pub oldest_none : (queue : Queue) → held_in queue ≡ 0 → oldest_of queue ≡ None
unfolding oldest_of when◌then◌else◌
oldest_none queue none = simp (eq-eqb (held_in queue) 0 none)

pub oldest_some : (queue : Queue) → 0 < held_in queue → oldest_of queue ≡ Some (get_or queue.words (place_of queue.head 0) blank)
unfolding oldest_of when◌then◌else◌
oldest_some queue some = simp (ne_eqb (held_in queue) 0 (λ none. omega arith))

pub put_room : (queue : Queue) (word : Word) → held_in queue < capacity → put_of queue word ≡ record { stored = true; queue = longer queue word }
unfolding put_of when◌then◌else◌
put_room queue word room = simp (lt-ltb (held_in queue) capacity room)

pub put_full : (queue : Queue) (word : Word) → capacity ≤ held_in queue → put_of queue word ≡ record { stored = false; queue = queue }
unfolding put_of when◌then◌else◌
put_full queue word full = simp (le-ltb (held_in queue) capacity full)

pub rest_none : (queue : Queue) → held_in queue ≡ 0 → rest_of queue ≡ queue
unfolding rest_of when◌then◌else◌
rest_none queue none = simp (eq-eqb (held_in queue) 0 none)

pub rest_some : (queue : Queue) → 0 < held_in queue → rest_of queue ≡ shorter queue
unfolding rest_of when◌then◌else◌
rest_some queue some = simp (ne_eqb (held_in queue) 0 (λ none. omega arith))

-- what a put returns tells whether the word was stored
pub was_stored : (stored : Bool) → stored_answer stored ≡ Ok tt → stored ≡ true
was_stored true e = refl
was_stored false e = cc

pub was_dropped : (stored : Bool) → stored_answer stored ≡ Err (record {}) → stored ≡ false
was_dropped true e = cc
was_dropped false e = refl
