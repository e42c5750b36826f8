-- The spelling scheme IAST, the International Alphabet of Sanskrit Transliteration: Latin letters with marks, composed, as UTF-8.
-- It has small letters only. The spelling ~ of code 15 is this project's own choice.
use Rattle.std.specs.Prelude.{ℕ, List, [], ◌∷◌, map, codes, Option, None, Err, false, if◌then◌else◌, encode_utf8_all}
use Rattle.std.specs.Str.{is_utf8, chars}
use Rattle.std.specs.Str.Lossy.{utf8_valid_len}
use Rattle.unicode_normalization.specs.Forms.{nfc}
use Rattle.text_definitions.specs.Spellings.{Reading, NotUtf8}
use Rattle.text_definitions.specs.Longest.{spelling_from, spelling_of_letter, front_letter, word_of_spellings, spellings_of_word}

-- the spellings of the fifty letters in code points, by code from 1
unfoldable pub iast_spellings : List (List ℕ)
iast_spellings =
    map codes ("a" ∷ "ā" ∷ "i" ∷ "ī" ∷ "u" ∷ "ū" ∷ "ṛ" ∷ "ṝ" ∷ "ḷ" ∷ "e" ∷ "ai" ∷ "o" ∷ "au" ∷ "ṃ" ∷ "~" ∷ "ḥ" ∷ "k" ∷ "kh" ∷ "g" ∷ "gh" ∷ "ṅ" ∷ "c" ∷ "ch" ∷ "j" ∷ "jh" ∷ "ñ" ∷ "ṭ" ∷ "ṭh" ∷ "ḍ" ∷ "ḍh" ∷ "ṇ" ∷ "t" ∷ "th" ∷ "d" ∷ "dh" ∷ "n" ∷ "p" ∷ "ph" ∷ "b" ∷ "bh" ∷ "m" ∷ "y" ∷ "r" ∷ "l" ∷ "v" ∷ "ś" ∷ "ṣ" ∷ "s" ∷ "h" ∷ "'" ∷ [])

-- the same in bytes
unfoldable pub iast_table : List (List ℕ)
iast_table = map encode_utf8_all iast_spellings

-- the letter whose spelling the bytes are
unfoldable pub iast_letter : List ℕ → Option ℕ
iast_letter bytes = spelling_from 1 iast_table bytes

-- the letter of the longest spelling that begins the text, and the spelling's length; no spelling has more than four bytes
unfoldable pub iast_front : List ℕ → Option (ℕ × ℕ)
iast_front text = front_letter iast_letter 4 text

-- the text after composition: the same characters in Unicode's normalization form NFC
unfoldable pub composed : List ℕ → List ℕ
composed text = encode_utf8_all (nfc (chars text))

-- the word that a composed text spells: at each place the longest spelling is one letter, a `_` between two spellings is
-- passed over, and any other `_` and any place where no spelling begins is NotLetter there
unfoldable pub word_of_composed : List ℕ → Reading
word_of_composed text = word_of_spellings iast_front 0 0 false text

-- the word that a text spells, or its first fault, whose place is one of the composed text; what is not UTF-8 is at fault
-- before all else
unfoldable pub word_of_iast : List ℕ → Reading
word_of_iast text = if is_utf8 text then word_of_composed (composed text) else Err (NotUtf8 (utf8_valid_len text))

-- the spelling of a word: the table's for each letter, with `_` where two would be read as something else
unfoldable pub iast_of_word : List ℕ → List ℕ
iast_of_word word = spellings_of_word iast_front (spelling_of_letter iast_table) None word
