-- What a text spells: a word, or its one first fault. Shared by the spelling schemes.
use Rattle.std.specs.Prelude.{ℕ, ◌+◌, ◌-◌, List, [], ◌∷◌, ◌++◌, slice_index, Option, Some, None, Result, Ok, Err, if◌then◌else◌, ◌==◌}

-- why a text spells no word, with the place of the byte at fault, from 0; NotUtf8 has the length of the longest valid front
pub data SpellingFault : Type 0 where
  NotLetter : ℕ → SpellingFault
  LoneSign : ℕ → SpellingFault
  NotUtf8 : ℕ → SpellingFault

-- what a text spells is a word, or its first fault
abbrev pub Reading : Type 0
Reading = Result (List ℕ) SpellingFault

-- the letter, and then what the rest of the text spells
abbrev pub with_letter : ℕ → Reading → Reading
with_letter letter (Ok word) = Ok (letter ∷ word)
with_letter letter (Err fault) = Err fault

-- the letters, and then what the rest of the text spells
abbrev pub with_front : List ℕ → Reading → Reading
with_front front (Ok word) = Ok (front ++ word)
with_front front (Err fault) = Err fault

-- the letter that stands at the place, and then what follows; with no letter there the place is at fault
abbrev pub letter_at : ℕ → Option ℕ → Reading → Reading
letter_at place None rest = Err (NotLetter place)
letter_at place (Some letter) rest = with_letter letter rest

-- the code of the first entry of the table that is the byte, where the table begins with the letter of this code
abbrev pub entry_from : ℕ → List ℕ → ℕ → Option ℕ
entry_from code [] byte = None
entry_from code (entry ∷ table) byte = if entry == byte then Some code else entry_from (code + 1) table byte

-- the letter that a byte spells, in a table with one byte for each letter, by code from 1
abbrev pub letter_of_byte : List ℕ → ℕ → Option ℕ
letter_of_byte table byte = entry_from 1 table byte

-- what the bytes from the place on spell, each byte being one letter
abbrev pub word_of_bytes : (ℕ → Option ℕ) → ℕ → List ℕ → Reading
word_of_bytes letter place [] = Ok []
word_of_bytes letter place (byte ∷ bytes) = letter_at place (letter byte) (word_of_bytes letter (place + 1) bytes)

-- the table's entry for a letter
abbrev pub byte_of_letter : List ℕ → ℕ → ℕ
byte_of_letter table letter = slice_index table (letter - 1)
