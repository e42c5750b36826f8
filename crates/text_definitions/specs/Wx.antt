-- The spelling scheme WX: one byte for each letter. The bytes Q, L, z and Z of the codes 8, 9, 15 and 50 are this project's own choice.
use Rattle.std.specs.Prelude.{ℕ, List, map, codes}
use Rattle.text_definitions.specs.Spellings.{Reading, letter_of_byte, word_of_bytes, byte_of_letter}

-- the bytes of the fifty letters, by code from 1
unfoldable pub wx_table : List ℕ
wx_table = codes "aAiIuUqQLeEoOMzHkKgGfcCjJFtTdDNwWxXnpPbBmyrlvSRshZ"

-- the word that a text spells: each byte is one letter by the table, and any other byte is NotLetter at its place
unfoldable pub word_of_wx : List ℕ → Reading
word_of_wx text = word_of_bytes (letter_of_byte wx_table) 0 text

-- the spelling of a word: the table's byte for each letter
unfoldable pub wx_of_word : List ℕ → List ℕ
wx_of_word word = map (byte_of_letter wx_table) word
