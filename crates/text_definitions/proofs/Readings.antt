-- What a text spells, split into the letters read so far and what the rest spells.
use Rattle.std.proofs.Common.{◌≡◌, ℕ, ◌+◌, ◌<◌, List, [], ◌∷◌, ◌++◌, length, get_or, drop, Option, Ok, Err, ap, append_assoc, append-nil, refl}
use Rattle.std.proofs.lemmas.List.{at_drop_more}
use Rattle.text_definitions.specs.Spellings.{Reading, with_front, with_letter, letter_at, word_of_bytes}

pub with_front_none : (reading : Reading) → with_front [] reading ≡ reading
with_front_none (Ok word) = refl
with_front_none (Err fault) = refl

pub with_front_push : (front : List ℕ) (letter : ℕ) (reading : Reading) → with_front (front ++ letter ∷ []) reading ≡ with_front front (with_letter letter reading)
with_front_push front letter (Ok word) = ap (λ letters. Ok letters) (append_assoc front (letter ∷ []) word)
with_front_push front letter (Err fault) = refl

pub with_front_all : (front : List ℕ) → with_front front (Ok []) ≡ Ok front
with_front_all front = ap (λ letters. Ok letters) (append-nil front)

-- one more byte of a text whose bytes are letters
pub word_of_bytes_more : (letter : ℕ → Option ℕ) (text : List ℕ) (place : ℕ) → place < length text → word_of_bytes letter place (drop place text) ≡ letter_at place (letter (get_or text place 0)) (word_of_bytes letter (place + 1) (drop (place + 1) text))
word_of_bytes_more letter text place below = at_drop_more (word_of_bytes letter place) text place 0 below
