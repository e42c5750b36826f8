-- Schemes with one byte for each letter: by induction on the word, from a test of the whole table.
use Rattle.std.proofs.Common.{◌≡◌, ℕ, ◌+◌, ◌-◌, ◌<◌, Bool, true, false, List, [], ◌∷◌, map, Option, Some, None, Ok, eqb, subst, arith, ap, ◌∙◌, refl}
use Rattle.std.specs.List.{AllByRecursion}
use Rattle.std.proofs.lemmas.Bool.{eqb-true}
use Rattle.text_definitions.specs.Letters.{IsLetter}
use Rattle.text_definitions.specs.Spellings.{with_letter, letter_at, letter_of_byte, word_of_bytes, byte_of_letter}
use Rattle.text_definitions.proofs.Tables.{passes_below, passes_at}

-- the option is the number
abbrev pub is_the : Option ℕ → ℕ → Bool
is_the None n = false
is_the (Some m) n = eqb m n

-- the byte of the letter k + 1 spells this letter
abbrev pub is_spelled : List ℕ → ℕ → Bool
is_spelled table k = is_the (letter_of_byte table (byte_of_letter table (k + 1))) (k + 1)

-- the byte of each letter spells this letter
abbrev pub is_table : List ℕ → Bool
is_table table = passes_below 50 (is_spelled table)

pub the_from : (found : Option ℕ) (n : ℕ) → is_the found n ≡ true → found ≡ Some n
the_from None n h = absurd (cc)
the_from (Some m) n h = ap (λ k. Some k) (eqb-true m n h)

-- in such a table the byte of a letter spells this letter
pub letter-byte : (table : List ℕ) → is_table table ≡ true → (n : ℕ) → IsLetter n → letter_of_byte table (byte_of_letter table n) ≡ Some n
letter-byte table h n l =
    let at : n - 1 + 1 ≡ n = omega arith in
    let below : n - 1 < 50 = omega arith in
    subst (λ m. letter_of_byte table (byte_of_letter table m) ≡ Some m) at (the_from _ _ (passes_at 50 (is_spelled table) h (n - 1) below))

-- what such a table prints of a word is read as the word
pub word-bytes : (table : List ℕ) → is_table table ≡ true → (place : ℕ) (word : List ℕ) → AllByRecursion IsLetter word → word_of_bytes (letter_of_byte table) place (map (byte_of_letter table) word) ≡ Ok word
word-bytes table h place [] l = refl
word-bytes table h place (n ∷ ns) l =
    let rest = word_of_bytes (letter_of_byte table) (place + 1) (map (byte_of_letter table) ns) in
    ap (λ found. letter_at place found rest) (letter-byte table h n l.0) ∙ ap (with_letter n) (word-bytes table h (place + 1) ns l.1)
