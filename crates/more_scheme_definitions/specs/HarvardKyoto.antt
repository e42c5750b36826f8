-- The spelling scheme Harvard-Kyoto: one or two ASCII bytes for each letter. The spelling ~ of code 15 is this project's own choice.
use Rattle.std.specs.Prelude.{ℕ, List, [], ◌∷◌, map, codes, Option, None, false}
use Rattle.text_definitions.specs.Spellings.{Reading}
use Rattle.text_definitions.specs.Longest.{spelling_from, spelling_of_letter, front_letter, word_of_spellings, spellings_of_word}

-- the spellings of the fifty letters, by code from 1
unfoldable pub harvard_kyoto_table : List (List ℕ)
harvard_kyoto_table =
    map codes ("a" ∷ "A" ∷ "i" ∷ "I" ∷ "u" ∷ "U" ∷ "R" ∷ "RR" ∷ "lR" ∷ "e" ∷ "ai" ∷ "o" ∷ "au" ∷ "M" ∷ "~" ∷ "H" ∷ "k" ∷ "kh" ∷ "g" ∷ "gh" ∷ "G" ∷ "c" ∷ "ch" ∷ "j" ∷ "jh" ∷ "J" ∷ "T" ∷ "Th" ∷ "D" ∷ "Dh" ∷ "N" ∷ "t" ∷ "th" ∷ "d" ∷ "dh" ∷ "n" ∷ "p" ∷ "ph" ∷ "b" ∷ "bh" ∷ "m" ∷ "y" ∷ "r" ∷ "l" ∷ "v" ∷ "z" ∷ "S" ∷ "s" ∷ "h" ∷ "'" ∷ [])

-- the letter whose spelling the bytes are
unfoldable pub harvard_kyoto_letter : List ℕ → Option ℕ
harvard_kyoto_letter bytes = spelling_from 1 harvard_kyoto_table bytes

-- the letter of the longest spelling that begins the text, and the spelling's length; no spelling has more than two bytes
unfoldable pub harvard_kyoto_front : List ℕ → Option (ℕ × ℕ)
harvard_kyoto_front text = front_letter harvard_kyoto_letter 2 text

-- the word that a text spells: at each place the longest spelling is one letter, a `_` between two spellings is passed
-- over, and any other `_` and any place where no spelling begins is NotLetter there
unfoldable pub word_of_harvard_kyoto : List ℕ → Reading
word_of_harvard_kyoto text = word_of_spellings harvard_kyoto_front 0 0 false text

-- the spelling of a word: the table's for each letter, with `_` where two would be read as something else
unfoldable pub harvard_kyoto_of_word : List ℕ → List ℕ
harvard_kyoto_of_word word = spellings_of_word harvard_kyoto_front (spelling_of_letter harvard_kyoto_table) None word
