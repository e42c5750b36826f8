-- Schemes with one or several bytes for each letter: at each place the longest spelling that begins there is one letter.
use Rattle.std.specs.Prelude.{ℕ, zero, suc, ◌+◌, ◌-◌, List, [], ◌∷◌, ◌++◌, length, take, Bool, true, false, Option, Some, None, is_some, Ok, Err, ◌&&◌, if◌then◌else◌, ◌==◌, slice_index_or}
use Rattle.std.specs.Str.{bytes_eq}
use Rattle.text_definitions.specs.Spellings.{Reading, NotLetter, with_letter}

-- the code of the first entry of the table that is these bytes, where the table begins with the letter of this code
abbrev pub spelling_from : ℕ → List (List ℕ) → List ℕ → Option ℕ
spelling_from code [] bytes = None
spelling_from code (entry ∷ table) bytes = if bytes_eq entry bytes then Some code else spelling_from (code + 1) table bytes

-- the table's entry for a letter, by code from 1
abbrev pub spelling_of_letter : List (List ℕ) → ℕ → List ℕ
spelling_of_letter table letter = slice_index_or table (letter - 1) []

-- the letter with the length of its spelling, or where there is no letter the shorter one
abbrev pub or_shorter : Option ℕ → ℕ → Option (ℕ × ℕ) → Option (ℕ × ℕ)
or_shorter None len shorter = shorter
or_shorter (Some letter) len shorter = Some (letter, len)

-- the letter of the longest spelling of at most so many bytes that begins the text, and the spelling's length
abbrev pub front_letter : (List ℕ → Option ℕ) → ℕ → List ℕ → Option (ℕ × ℕ)
front_letter spelled zero text = None
front_letter spelled (suc most) text =
    or_shorter (spelled (take (suc most) text)) (length (take (suc most) text)) (front_letter spelled most text)

-- what a place gives: the letter that begins there and the text after its spelling; a byte that is passed over; or the fault
abbrev pub word_at : ℕ → Option (ℕ × ℕ) → Bool → (ℕ → Bool → Reading) → Reading
word_at place None false following = Err (NotLetter place)
word_at place None true following = following 0 false
word_at place (Some found) passed following = with_letter found.0 (following (found.1 - 1) true)

-- What the text from the place on spells. Its first `inside` bytes belong to a spelling that began before; `spelled`
-- says that a spelling ends directly before it. A separator, `_`, that stands between two spellings is passed over.
abbrev pub word_of_spellings : (List ℕ → Option (ℕ × ℕ)) → ℕ → ℕ → Bool → List ℕ → Reading
word_of_spellings front place inside spelled [] = Ok []
word_of_spellings front place (suc inside) spelled (byte ∷ text) = word_of_spellings front (place + 1) inside true text
word_of_spellings front place zero spelled (byte ∷ text) =
    word_at place (front (byte ∷ text)) (spelled && (byte == 95) && is_some (front text)) (λ inside after. word_of_spellings front (place + 1) inside after text)

-- whether the spelling found has this length
abbrev pub has_length : Option (ℕ × ℕ) → ℕ → Bool
has_length None len = false
has_length (Some found) len = found.1 == len

-- a separator, exactly where the longest spelling that begins the two spellings written together is not the first one
abbrev pub separator : (List ℕ → Option (ℕ × ℕ)) → List ℕ → List ℕ → List ℕ
separator front left right = if has_length (front (left ++ right)) (length left) then [] else 95 ∷ []

-- what stands before the spelling of a letter: nothing before the first letter, and a separator where one is needed
abbrev pub gap_before : (List ℕ → Option (ℕ × ℕ)) → (ℕ → List ℕ) → Option ℕ → ℕ → List ℕ
gap_before front spelling None letter = []
gap_before front spelling (Some previous) letter = separator front (spelling previous) (spelling letter)

-- the spelling of the letters that follow the previous one, where there is one
abbrev pub spellings_of_word : (List ℕ → Option (ℕ × ℕ)) → (ℕ → List ℕ) → Option ℕ → List ℕ → List ℕ
spellings_of_word front spelling previous [] = []
spellings_of_word front spelling previous (letter ∷ word) =
    gap_before front spelling previous letter ++ spelling letter ++ spellings_of_word front spelling (Some letter) word
