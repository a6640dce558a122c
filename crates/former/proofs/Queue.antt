-- A queue whose words are all replaced by those that an old program knows: each call of the queue gives what it gave, so replaced.
-- Assumes nothing.
use Rattle.std.specs.Prelude.{Option, None, Some}
use Prim.Native.Nat.{ℕ, zero, suc, ◌%◌}
use mathlib.Core.Path.{◌≡◌, refl, ap, sym, ◌∙◌}
use mathlib.Core.Bool.{Bool, false}
use mathlib.Core.List.{List, [], ◌∷◌, map}
use lib.Dec.{eqb, ltb}
use lib.ListN.{get_or, set, get_or-map}
use Rattle.bits.specs.Choice.{when◌then◌else◌}
use Rattle.bits.proofs.Choice.{either, both}
use Rattle.word.specs.declared.Word.{Word}
use Rattle.word.specs.Word.{is_enhanced}
use Rattle.word.specs.OldWord.{old_word_of}
use Rattle.queue.specs.declared.Queue.{Queue}
use Rattle.queue.specs.Queue.{AfterPut}
use Rattle.queue.specs.Queue.{capacity, blank, empty_queue, place_of, held_in, oldest_of, put_of, rest_of}
use Rattle.queue.specs.Enhanced.{oldest_enhanced, starts_enhanced, past_at_most, past_enhanced}
use Rattle.queue.specs.Words.{ring, words_of}
use Rattle.queue.proofs.Past.{past_keeps}

abbrev pub former_queue : Queue → Queue
former_queue queue = record { words = map old_word_of queue.words; head = queue.head; count = queue.count }

abbrev pub former_oldest : Option Word → Option Word
former_oldest None = None
former_oldest (Some word) = Some (old_word_of word)

-- ---- places of the array

map_set : {A B : Type 0} (f : A → B) (list : List A) (place : ℕ) (x : A) → map f (set list place x) ≡ set (map f list) place (f x)
map_set f [] place x = refl
map_set f (y ∷ more) zero x = refl
map_set f (y ∷ more) (suc place) x = ap (◌∷◌ (f y)) (map_set f more place x)

-- what stands at a place, the blank word where there is none
at_place : (words : List Word) (place : ℕ) → get_or (map old_word_of words) place blank ≡ old_word_of (get_or words place blank)
unfolding old_word_of when◌then◌else◌
at_place words place = get_or-map old_word_of words place blank

pub former_words : (queue : Queue) → words_of (former_queue queue) ≡ map old_word_of (words_of queue)
unfolding words_of
former_words queue = go queue.head (held_in queue)
  where
    go : (place many : ℕ) → ring (map old_word_of queue.words) place many ≡ map old_word_of (ring queue.words place many)
    go place zero = refl
    go place (suc many) =
        ap (λ (word : Word). word ∷ ring (map old_word_of queue.words) (suc place) many) (at_place queue.words (place % capacity))
        ∙ ap (◌∷◌ (old_word_of (get_or queue.words (place % capacity) blank))) (go (suc place) many)

-- ---- calls

pub former_empty : former_queue empty_queue ≡ empty_queue
unfolding empty_queue old_word_of when◌then◌else◌
former_empty = refl

pub former_oldest_lem : (queue : Queue) → oldest_of (former_queue queue) ≡ former_oldest (oldest_of queue)
unfolding oldest_of
former_oldest_lem queue =
    both (λ (former now : Option Word). former ≡ former_oldest now) (eqb (held_in queue) 0) refl (ap Some (at_place queue.words (place_of queue.head 0)))

pub former_rest : (queue : Queue) → rest_of (former_queue queue) ≡ former_queue (rest_of queue)
unfolding rest_of
former_rest queue = both (λ (former now : Queue). former ≡ former_queue now) (eqb (held_in queue) 0) refl refl

pub former_put : (queue : Queue) (word : Word)
    → put_of (former_queue queue) (old_word_of word) ≡ record { stored = (put_of queue word).stored; queue = former_queue (put_of queue word).queue }
unfolding put_of
former_put queue word =
    both (λ (former now : AfterPut). former ≡ record { stored = now.stored; queue = former_queue now.queue }) (ltb (held_in queue) capacity)
    (rw (map_set old_word_of queue.words (place_of queue.head (held_in queue)) word) refl) refl

-- ---- enhanced words

-- at every place of the array a word is enhanced exactly where its former one is
pub record Settled (queue : Queue) : Type 0 where
  pub alike : map (λ (word : Word). is_enhanced (old_word_of word)) queue.words ≡ map is_enhanced queue.words

pub settled_empty : Settled empty_queue
unfolding empty_queue old_word_of when◌then◌else◌
settled_empty = record { alike = refl }

pub settled_rest : (queue : Queue) → Settled queue → Settled (rest_of queue)
unfolding rest_of
settled_rest queue s = either Settled _ _ _ s (record { alike = s.alike })

pub settled_past : (queue : Queue) → Settled queue → Settled (past_enhanced queue)
settled_past queue s = past_keeps Settled settled_rest queue s

pub settled_put : (queue : Queue) (word : Word) → is_enhanced (old_word_of word) ≡ is_enhanced word → Settled queue → Settled (put_of queue word).queue
unfolding put_of
settled_put queue word e s = either (λ (after : AfterPut). Settled after.queue) _ _ _ (record { alike = longer_alike }) s
  where
    place : ℕ
    place = place_of queue.head (held_in queue)

    longer_alike : map (λ (w : Word). is_enhanced (old_word_of w)) (set queue.words place word) ≡ map is_enhanced (set queue.words place word)
    longer_alike =
        map_set (λ (w : Word). is_enhanced (old_word_of w)) queue.words place word
        ∙ ap (λ (list : List Bool). set list place (is_enhanced (old_word_of word))) s.alike
        ∙ ap (set (map is_enhanced queue.words) place) e
        ∙ sym (map_set is_enhanced queue.words place word)

enhanced_at : (queue : Queue) (place : ℕ) → Settled queue
    → is_enhanced (get_or (map old_word_of queue.words) place blank) ≡ is_enhanced (get_or queue.words place blank)
unfolding old_word_of when◌then◌else◌
enhanced_at queue place s =
    ap is_enhanced (at_place queue.words place)
    ∙ sym (get_or-map (λ (w : Word). is_enhanced (old_word_of w)) queue.words place blank)
    ∙ ap (λ (list : List Bool). get_or list place false) s.alike
    ∙ get_or-map is_enhanced queue.words place blank

starts_alike : (queue : Queue) → Settled queue → starts_enhanced (former_queue queue) ≡ starts_enhanced queue
unfolding oldest_of
starts_alike queue s =
    both (λ (former now : Option Word). oldest_enhanced former ≡ oldest_enhanced now) (eqb (held_in queue) 0) refl (enhanced_at queue (place_of queue.head 0) s)

past_at_most_lem : (n : ℕ) (queue : Queue) → Settled queue → past_at_most n (former_queue queue) ≡ former_queue (past_at_most n queue)
past_at_most_lem zero queue s = refl
past_at_most_lem (suc n) queue s =
    rw (starts_alike queue s)
    (both (λ (former now : Queue). former ≡ former_queue now) (starts_enhanced queue)
    (ap (past_at_most n) (former_rest queue) ∙ past_at_most_lem n (rest_of queue) (settled_rest queue s)) refl)

pub former_past : (queue : Queue) → Settled queue → past_enhanced (former_queue queue) ≡ former_queue (past_enhanced queue)
unfolding past_enhanced
former_past queue s = past_at_most_lem (held_in queue) queue s
