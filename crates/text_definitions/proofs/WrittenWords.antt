-- Words that are written out are words: a test of each letter, which the prover computes, by recursion on the word.
use Rattle.std.proofs.Common.{◌≡◌, ℕ, List, [], ◌∷◌, Bool, true, nat_le, ◌&&◌}
use Rattle.std.specs.List.{AllByRecursion}
use Rattle.std.proofs.lemmas.Bool.{and_parts, leb-true}
use Rattle.std.proofs.lemmas.List.Elements.{All-from_recursion}
use Rattle.text_definitions.specs.Letters.{IsLetter}
use Rattle.text_definitions.specs.Words.{IsWord}

-- each number of the list is a letter
abbrev pub are_letters : List ℕ → Bool
are_letters [] = true
are_letters (n ∷ ns) = (nat_le 1 n && nat_le n 50) && are_letters ns

each_letter : (ns : List ℕ) → are_letters ns ≡ true → AllByRecursion IsLetter ns
each_letter [] e = tt
each_letter (n ∷ ns) e =
    let parts = and_parts (nat_le 1 n && nat_le n 50) (are_letters ns) e in
    let bounds = and_parts (nat_le 1 n) (nat_le n 50) parts.0 in
    ((leb-true 1 n bounds.0, leb-true n 50 bounds.1), each_letter ns parts.1)

pub letters_are_word : (letters : List ℕ) → are_letters letters ≡ true → IsWord letters
letters_are_word letters e = All-from_recursion IsLetter letters (each_letter letters e)

-- a letter alone is a word
pub letter_is_word : (letter : ℕ) → IsLetter letter → IsWord (letter ∷ [])
letter_is_word letter is = All-from_recursion IsLetter (letter ∷ []) (is, tt)
