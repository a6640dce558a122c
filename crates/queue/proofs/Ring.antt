-- What is known of words read round the 15 places of a queue.
-- Assumes nothing.
use mathlib.Core.Path.{◌≡◌, refl, ◌∙◌, ap}
use mathlib.Core.Logic.{◌≢◌}
use mathlib.Core.List.{List, [], ◌∷◌, ◌++◌}
use Prim.Native.Nat.{ℕ, zero, suc, ◌+◌, ◌%◌, ◌<◌}
use native.Mathlib.Nat.{add-zero, add-suc, suc-add}
use native.Mathlib.Omega.{arith}
use lib.ListN.{length, get_or, set}
use lib.Seq.{get_or-set_same, get_or-set_other}
use Rattle.word.specs.declared.Word.{Word}
use Rattle.queue.specs.declared.Queue.{Queue}
use Rattle.queue.specs.Queue.{capacity, blank, place_of, held_in, longer, shorter}
use Rattle.queue.specs.Words.{ring, words_of, Whole}

ring_length : (words : List Word) (place many : ℕ) → length (ring words place many) ≡ many
ring_length words place zero = refl
ring_length words place (suc many) = ap suc (ring_length words (suc place) many)

-- one word more stands at the end
ring_more : (words : List Word) (place many : ℕ)
    → ring words place (suc many) ≡ ring words place many ++ (get_or words ((place + many) % capacity) blank ∷ [])
ring_more words place zero = simp add-zero
ring_more words place (suc many) = rw (ring_more words (suc place) many, suc-add, add-suc)

-- a store at a place that is not read shows nowhere
ring_set : (words : List Word) (at : ℕ) (word : Word) (place many : ℕ) → ((i : ℕ) → i < many → (place + i) % capacity ≢ at)
    → ring (set words at word) place many ≡ ring words place many
ring_set words at word place zero other = refl
ring_set words at word place (suc many) other =
    rw (get_or-set_other words at (place % capacity) word blank (λ e. other 0 (omega arith) (omega arith)), ring_set words at word (suc place) many (λ i l e. other (suc i) (omega arith) (omega arith)))

-- places that are equal modulo 15 begin the same ring
ring_round : (words : List Word) (a b many : ℕ) → a % capacity ≡ b % capacity → ring words a many ≡ ring words b many
ring_round words a b zero e = refl
ring_round words a b (suc many) e = rw (e, ring_round words (suc a) (suc b) many (omega arith))

-- the words of a queue that holds so many
words_at : (queue : Queue) (many : ℕ) → held_in queue ≡ many → words_of queue ≡ ring queue.words queue.head many
unfolding words_of
words_at queue many e = rw e

pub words_length : (queue : Queue) → length (words_of queue) ≡ held_in queue
unfolding words_of
words_length queue = ring_length queue.words queue.head (held_in queue)

-- the words with one more behind the newest
pub words_longer : (queue : Queue) (word : Word) → Whole queue → held_in queue < capacity → words_of (longer queue word) ≡ words_of queue ++ (word ∷ [])
words_longer queue word whole room =
    let n = held_in queue in
    let at = place_of queue.head n in
    let newest : (queue.head + n) % capacity ≡ at = omega arith in
    words_at (longer queue word) (suc n) (omega arith)
    ∙ ring_more (set queue.words at word) queue.head n
    ∙ rw (newest, get_or-set_same queue.words at word blank (omega arith), ring_set queue.words at word queue.head n (λ i l. omega arith), words_at queue n refl)

-- the words after the oldest
words_shorter : (queue : Queue) (many : ℕ) → held_in queue ≡ suc many → words_of (shorter queue) ≡ ring queue.words (suc queue.head) many
words_shorter queue many e =
    words_at (shorter queue) many (omega arith)
    ∙ ring_round queue.words (place_of queue.head 1) (suc queue.head) many (omega arith)

-- the words are the oldest, then those of the shorter queue
pub words_split : (queue : Queue) (many : ℕ) → held_in queue ≡ suc many
    → words_of queue ≡ get_or queue.words (place_of queue.head 0) blank ∷ words_of (shorter queue)
words_split queue many e =
    let oldest : queue.head % capacity ≡ place_of queue.head 0 = omega arith in
    let later = words_shorter queue many e in
    words_at queue (suc many) e ∙ (cc)
