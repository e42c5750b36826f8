-- The spelling scheme SLP1 (Scharf and Hyman): one byte for each letter.
use Rattle.std.specs.Prelude.{ℕ, List, map, codes}
use Rattle.text_definitions.specs.Spellings.{Reading, letter_of_byte, word_of_bytes, byte_of_letter}

-- the bytes of the fifty letters, by code from 1
unfoldable pub slp1_table : List ℕ
slp1_table = codes "aAiIuUfFxeEoOM~HkKgGNcCjJYwWqQRtTdDnpPbBmyrlvSzsh'"

-- the word that a text spells: each byte is one letter by the table, and any other byte is NotLetter at its place
unfoldable pub word_of_slp1 : List ℕ → Reading
word_of_slp1 text = word_of_bytes (letter_of_byte slp1_table) 0 text

-- the spelling of a word: the table's byte for each letter
unfoldable pub slp1_of_word : List ℕ → List ℕ
slp1_of_word word = map (byte_of_letter slp1_table) word
