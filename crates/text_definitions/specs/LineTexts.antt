-- The line of a text in one of the spelling schemes, or its first fault (own). The text is cut at its gap marks and digits, and each
-- piece is read by its scheme.
use Rattle.std.specs.Prelude.{ℕ, zero, suc, ◌+◌, ◌<◌, All, List, [], ◌∷◌, ◌++◌, length, take, drop, codes, Bool, true, false, ◌&&◌, ◌||◌, nat_lt, Result, Ok, Err, if◌then◌else◌, ◌==◌, encode_utf8}
use Rattle.std.specs.List.Sorted.{IsStrictlyIncreasing}
use Rattle.std.specs.Str.{is_utf8}
use Rattle.std.specs.Str.Lossy.{utf8_valid_len}
use Rattle.text_definitions.specs.declared.limits.TheConstants.{MOST_LINE_LETTERS}
use Rattle.text_definitions.specs.Words.{IsWord}
use Rattle.text_definitions.specs.Lines.{Line}
use Rattle.text_definitions.specs.Spellings.{SpellingFault, NotLetter, LoneSign, NotUtf8, Reading}
use Rattle.text_definitions.specs.Schemes.{Scheme, Slp1, Wx, Velthuis, Devanagari, word_of_text}

-- why a text is no line: its first fault of spelling, or else it has no letter or too many
pub data LineFault : Type 0 where
  Misspelled : SpellingFault → LineFault
  NoLetters : LineFault
  TooLong : LineFault

-- the gap marks: tab, line feed, carriage return, blank and `|`, and in Devanagari the danda and the double danda too
abbrev pub gap_marks : Scheme → List ℕ
gap_marks Slp1 = codes "\t\n\r |"
gap_marks Wx = codes "\t\n\r |"
gap_marks Velthuis = codes "\t\n\r |"
gap_marks Devanagari = codes "\t\n\r |" ++ 0x0964 ∷ 0x0965 ∷ []

-- the digits 0 to 9, and in Devanagari those of its block too
abbrev pub digits : Scheme → List ℕ
digits Slp1 = codes "0123456789"
digits Wx = codes "0123456789"
digits Velthuis = codes "0123456789"
digits Devanagari = codes "0123456789" ++ 0x0966 ∷ 0x0967 ∷ 0x0968 ∷ 0x0969 ∷ 0x096A ∷ 0x096B ∷ 0x096C ∷ 0x096D ∷ 0x096E ∷ 0x096F ∷ []

-- whether the text begins with these bytes
abbrev pub begins_with : List ℕ → List ℕ → Bool
begins_with [] text = true
begins_with (first ∷ front) [] = false
begins_with (first ∷ front) (byte ∷ text) = (byte == first) && begins_with front text

-- the length in bytes of the one of these characters with which the text begins, or 0
abbrev pub front_length : List ℕ → List ℕ → ℕ
front_length [] text = 0
front_length (character ∷ characters) text =
    if begins_with (encode_utf8 character) text then length (encode_utf8 character) else front_length characters text

-- with what a text begins: a gap mark or a digit, each with the number of its bytes after the first, or anything else
pub data Front : Type 0 where
  GapMark : ℕ → Front
  DigitMark : ℕ → Front
  Other : Front

-- by the length of the gap mark and that of the digit with which the text begins
abbrev pub front_by : ℕ → ℕ → Front
front_by (suc more) digit = GapMark more
front_by zero (suc more) = DigitMark more
front_by zero zero = Other

-- with what the text begins in the scheme
unfoldable pub front_of : Scheme → List ℕ → Front
front_of scheme text = front_by (front_length (gap_marks scheme) text) (front_length (digits scheme) text)

-- whether a word was read that has a letter
abbrev pub is_some_word : Reading → Bool
is_some_word (Ok []) = false
is_some_word (Ok (letter ∷ word)) = true
is_some_word (Err fault) = false

-- whether a letter's spelling begins the text; no spelling has more than three bytes
abbrev pub letter_begins : Scheme → List ℕ → Bool
letter_begins scheme text =
    is_some_word (word_of_text scheme (take 1 text)) || is_some_word (word_of_text scheme (take 2 text)) || is_some_word (word_of_text scheme (take 3 text))

-- whether there is a letter in the text, also where faults stand beside it
abbrev pub has_letter : Scheme → List ℕ → Bool
has_letter scheme [] = false
has_letter scheme (byte ∷ text) = letter_begins scheme (byte ∷ text) || has_letter scheme text

-- a part of a text: a gap, a digit that stands where no digit may, or a piece between gaps and digits; with its place
pub data Part : Type 0 where
  Gap : Part
  Digit : ℕ → Part
  Piece : ℕ → List ℕ → Part

-- a digit is at fault where a letter comes later; after the last letter it is passed over like a gap mark
abbrev pub digit_at : ℕ → Bool → Part
digit_at place true = Digit place
digit_at place false = Gap

-- a byte before these parts: it is the first byte of the piece that begins directly after it, or else a piece alone
abbrev pub with_byte : ℕ → ℕ → List Part → List Part
with_byte place byte [] = Piece place (byte ∷ []) ∷ []
with_byte place byte (Gap ∷ parts) = Piece place (byte ∷ []) ∷ Gap ∷ parts
with_byte place byte (Digit after ∷ parts) = Piece place (byte ∷ []) ∷ Digit after ∷ parts
with_byte place byte (Piece after bytes ∷ parts) = Piece place (byte ∷ bytes) ∷ parts

-- the parts of a text, by that with which it begins and by the parts after so many more bytes
abbrev pub parts_by : Scheme → ℕ → ℕ → List ℕ → Front → (ℕ → List Part) → List Part
parts_by scheme place byte text (GapMark more) after = Gap ∷ after more
parts_by scheme place byte text (DigitMark more) after = digit_at place (has_letter scheme (drop more text)) ∷ after more
parts_by scheme place byte text Other after = with_byte place byte (after 0)

-- the parts of the text from the place on, of which the first `inside` bytes belong to a gap mark or digit that began before
abbrev pub parts_from : Scheme → ℕ → ℕ → List ℕ → List Part
parts_from scheme place inside [] = []
parts_from scheme place (suc inside) (byte ∷ text) = parts_from scheme (place + 1) inside text
parts_from scheme place zero (byte ∷ text) =
    parts_by scheme place byte text (front_of scheme (byte ∷ text)) (λ inside. parts_from scheme (place + 1) inside text)

-- the place that a fault names
abbrev pub place_of : SpellingFault → ℕ
place_of (NotLetter at) = at
place_of (LoneSign at) = at
place_of (NotUtf8 at) = at

-- the fault of a piece that begins at the place
abbrev pub fault_from : ℕ → SpellingFault → SpellingFault
fault_from place (NotLetter at) = NotLetter (place + at)
fault_from place (LoneSign at) = LoneSign (place + at)
fault_from place (NotUtf8 at) = NotUtf8 (place + at)

-- a blank between letters and letters, and no blank where there are no letters on one side
abbrev pub blank_between : List ℕ → List ℕ → List ℕ
blank_between [] word = []
blank_between (letter ∷ letters) [] = []
blank_between (letter ∷ letters) (next ∷ word) = length (letter ∷ letters) ∷ []

-- the line with the letters of one more word, after a blank
abbrev pub with_word : Line → List ℕ → Line
with_word line word = record { letters = line.letters ++ word; blanks = line.blanks ++ blank_between line.letters word }

-- a line that is not yet whole: the blank places rise, and each lies between letters
pub record IsBegun (letters blanks : List ℕ) : Type 0 where
  pub word : IsWord letters
  pub rising : IsStrictlyIncreasing blanks
  pub inside : All (λ b. (0 < b) × (b < length letters)) blanks

-- the letters and blanks of a text, or its first fault of spelling
abbrev pub Spelled : Type 0
Spelled = Result Line SpellingFault

-- what a piece gives after this line, by what it spells and by what follows
abbrev pub piece_by : ℕ → Line → Reading → (Line → Spelled) → Spelled
piece_by place line (Ok word) rest = rest (with_word line word)
piece_by place line (Err fault) rest = Err (fault_from place fault)

-- the line so far with the words of these parts, or the first fault among the parts
abbrev pub line_of_parts : Scheme → Line → List Part → Spelled
line_of_parts scheme line [] = Ok line
line_of_parts scheme line (Gap ∷ parts) = line_of_parts scheme line parts
line_of_parts scheme line (Digit place ∷ parts) = Err (NotLetter place)
line_of_parts scheme line (Piece place bytes ∷ parts) =
    piece_by place line (word_of_text scheme bytes) (λ more. line_of_parts scheme more parts)

-- the letters and blanks of a text that is UTF-8 where it has to be
abbrev pub spelled_parts : Scheme → List ℕ → Spelled
spelled_parts scheme text = line_of_parts scheme (record { letters = []; blanks = [] }) (parts_from scheme 0 0 text)

-- the letters and blanks of a text; in Devanagari what is not UTF-8 is at fault before all else
abbrev pub spelled_text : Scheme → List ℕ → Spelled
spelled_text Slp1 text = spelled_parts Slp1 text
spelled_text Wx text = spelled_parts Wx text
spelled_text Velthuis text = spelled_parts Velthuis text
spelled_text Devanagari text = if is_utf8 text then spelled_parts Devanagari text else Err (NotUtf8 (utf8_valid_len text))

-- what is spelled is a line where it has 1 letter at least and not too many
abbrev pub line_within_limits : Spelled → Result Line LineFault
line_within_limits (Err fault) = Err (Misspelled fault)
line_within_limits (Ok line) =
    if length line.letters == 0 then Err NoLetters else (if nat_lt MOST_LINE_LETTERS (length line.letters) then Err TooLong else Ok line)

-- the line of a text, or its first fault
unfoldable pub line_of_text : Scheme → List ℕ → Result Line LineFault
line_of_text scheme text = line_within_limits (spelled_text scheme text)
