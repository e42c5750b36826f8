-- The spelling scheme of Frans Velthuis: one to three bytes for each letter. The spelling ~m of code 15 is this project's own choice.
use Rattle.std.specs.Prelude.{ℕ, List, [], ◌∷◌, map, codes, Option, Some, None, false, if◌then◌else◌}
use Rattle.std.specs.Str.{bytes_eq}
use Rattle.text_definitions.specs.Spellings.{Reading}
use Rattle.text_definitions.specs.Longest.{spelling_from, spelling_of_letter, front_letter, word_of_spellings, spellings_of_word}

-- the spellings of the fifty letters, by code from 1
unfoldable pub velthuis_table : List (List ℕ)
velthuis_table =
    map codes ("a" ∷ "aa" ∷ "i" ∷ "ii" ∷ "u" ∷ "uu" ∷ ".r" ∷ ".rr" ∷ ".l" ∷ "e" ∷ "ai" ∷ "o" ∷ "au" ∷ ".m" ∷ "~m" ∷ ".h" ∷ "k" ∷ "kh" ∷ "g" ∷ "gh" ∷ "\"n" ∷ "c" ∷ "ch" ∷ "j" ∷ "jh" ∷ "~n" ∷ ".t" ∷ ".th" ∷ ".d" ∷ ".dh" ∷ ".n" ∷ "t" ∷ "th" ∷ "d" ∷ "dh" ∷ "n" ∷ "p" ∷ "ph" ∷ "b" ∷ "bh" ∷ "m" ∷ "y" ∷ "r" ∷ "l" ∷ "v" ∷ "\"s" ∷ ".s" ∷ "s" ∷ "h" ∷ ".a" ∷ [])

-- besides, the capitals A, I and U spell the letters of the codes 2, 4 and 6
unfoldable pub velthuis_capital : List ℕ → Option ℕ
velthuis_capital bytes =
    if bytes_eq (codes "A") bytes then Some 2 else (if bytes_eq (codes "I") bytes then Some 4 else (if bytes_eq (codes "U") bytes then Some 6 else None))

-- the first letter, or else the second
abbrev pub or_else : Option ℕ → Option ℕ → Option ℕ
or_else None second = second
or_else (Some letter) second = Some letter

-- the letter whose spelling the bytes are
unfoldable pub velthuis_letter : List ℕ → Option ℕ
velthuis_letter bytes = or_else (spelling_from 1 velthuis_table bytes) (velthuis_capital bytes)

-- the letter of the longest spelling that begins the text, and the spelling's length; no spelling has more than three bytes
unfoldable pub velthuis_front : List ℕ → Option (ℕ × ℕ)
velthuis_front text = front_letter velthuis_letter 3 text

-- the word that a text spells: at each place the longest spelling is one letter, a `_` between two spellings is passed
-- over, and any other `_` and any place where no spelling begins is NotLetter there
unfoldable pub word_of_velthuis : List ℕ → Reading
word_of_velthuis text = word_of_spellings velthuis_front 0 0 false text

-- the spelling of a word: the table's for each letter, with `_` where two would be read as something else
unfoldable pub velthuis_of_word : List ℕ → List ℕ
velthuis_of_word word = spellings_of_word velthuis_front (spelling_of_letter velthuis_table) None word
