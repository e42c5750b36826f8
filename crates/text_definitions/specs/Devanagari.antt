-- The script Devanagari by its code points in the Unicode standard, and its text as UTF-8.
use Rattle.std.specs.Prelude.{ℕ, ◌+◌, ◌-◌, List, [], ◌∷◌, ◌++◌, length, Bool, true, false, ◌&&◌, ◌||◌, nat_le, Option, Some, None, Ok, Err, if◌then◌else◌, ◌==◌, slice_index, encode_utf8, encode_utf8_all}
use Rattle.std.specs.Str.{is_utf8, chars}
use Rattle.std.specs.Str.Lossy.{utf8_valid_len}
use Rattle.text_definitions.specs.Spellings.{Reading, NotLetter, LoneSign, NotUtf8, with_letter, entry_from}

-- the code points of the fifty letters, by code from 1; a vowel's is the one that stands alone
unfoldable pub devanagari_table : List ℕ
devanagari_table =
    0x0905 ∷ 0x0906 ∷ 0x0907 ∷ 0x0908 ∷ 0x0909 ∷ 0x090A ∷ 0x090B ∷ 0x0960 ∷ 0x090C ∷ 0x090F ∷ 0x0910 ∷ 0x0913 ∷ 0x0914 ∷ 0x0902 ∷ 0x0901 ∷ 0x0903 ∷ 0x0915 ∷ 0x0916 ∷ 0x0917 ∷ 0x0918 ∷ 0x0919 ∷ 0x091A ∷ 0x091B ∷ 0x091C ∷ 0x091D ∷ 0x091E ∷ 0x091F ∷ 0x0920 ∷ 0x0921 ∷ 0x0922 ∷ 0x0923 ∷ 0x0924 ∷ 0x0925 ∷ 0x0926 ∷ 0x0927 ∷ 0x0928 ∷ 0x092A ∷ 0x092B ∷ 0x092C ∷ 0x092D ∷ 0x092E ∷ 0x092F ∷ 0x0930 ∷ 0x0932 ∷ 0x0935 ∷ 0x0936 ∷ 0x0937 ∷ 0x0938 ∷ 0x0939 ∷ 0x093D ∷ []

-- the signs of the vowels after a consonant, by code from 2; the vowel a has no sign
unfoldable pub devanagari_signs : List ℕ
devanagari_signs = 0x093E ∷ 0x093F ∷ 0x0940 ∷ 0x0941 ∷ 0x0942 ∷ 0x0943 ∷ 0x0944 ∷ 0x0962 ∷ 0x0947 ∷ 0x0948 ∷ 0x094B ∷ 0x094C ∷ []

-- the vowels have the codes 1 to 13
abbrev pub is_vowel : ℕ → Bool
is_vowel letter = nat_le letter 13

-- the consonants have the codes 17 to 49
abbrev pub is_consonant : ℕ → Bool
is_consonant letter = nat_le 17 letter && nat_le letter 49

-- what a code point is: one that joins or parts others and is passed over, the virama, a letter, a vowel's sign, or anything else
pub data PointKind : Type 0 where
  Joiner : PointKind
  Virama : PointKind
  Letter : ℕ → PointKind
  Sign : ℕ → PointKind
  Foreign : PointKind

-- by the tables
abbrev pub letter_or_sign : Option ℕ → Option ℕ → PointKind
letter_or_sign (Some letter) sign = Letter letter
letter_or_sign None (Some vowel) = Sign vowel
letter_or_sign None None = Foreign

-- U+200C and U+200D are passed over, and U+094D is the virama
unfoldable pub kind_of_point : ℕ → PointKind
kind_of_point point =
    if (point == 0x200C) || (point == 0x200D) then Joiner else (if point == 0x094D then Virama else letter_or_sign (entry_from 1 devanagari_table point) (entry_from 2 devanagari_signs point))

-- the vowel a of a consonant that stands bare before the rest, or nothing
abbrev pub close_with_a : Bool → Reading → Reading
close_with_a false rest = rest
close_with_a true rest = with_letter 1 rest

-- What a place gives, where `bare` says that a consonant without its vowel stands directly before, and `rest` what follows then. A sign
-- or a virama directly after a consonant takes the place of its a; elsewhere it is a LoneSign.
abbrev pub reading_at : ℕ → Bool → PointKind → (Bool → Reading) → Reading
reading_at place bare Joiner rest = rest bare
reading_at place true Virama rest = rest false
reading_at place false Virama rest = Err (LoneSign place)
reading_at place true (Sign vowel) rest = with_letter vowel (rest false)
reading_at place false (Sign vowel) rest = Err (LoneSign place)
reading_at place bare (Letter letter) rest = close_with_a bare (with_letter letter (rest (is_consonant letter)))
reading_at place bare Foreign rest = Err (NotLetter place)

-- what the code points from the place on spell, the place counted in bytes
abbrev pub word_of_points : ℕ → Bool → List ℕ → Reading
word_of_points place bare [] = close_with_a bare (Ok [])
word_of_points place bare (point ∷ points) =
    reading_at place bare (kind_of_point point) (λ after. word_of_points (place + length (encode_utf8 point)) after points)

-- the word that a text spells, or its first fault; what is not UTF-8 is at fault before all else
unfoldable pub word_of_devanagari : List ℕ → Reading
word_of_devanagari text = if is_utf8 text then word_of_points 0 false (chars text) else Err (NotUtf8 (utf8_valid_len text))

-- the sign of a vowel; the vowel a has no sign
abbrev pub sign_of_vowel : ℕ → List ℕ
sign_of_vowel vowel = if vowel == 1 then [] else slice_index devanagari_signs (vowel - 2) ∷ []

-- the code points of a letter: after a consonant a vowel is its sign, and any other letter has the virama before it
abbrev pub points_of_letter : Bool → ℕ → List ℕ
points_of_letter false letter = slice_index devanagari_table (letter - 1) ∷ []
points_of_letter true letter = if is_vowel letter then sign_of_vowel letter else 0x094D ∷ slice_index devanagari_table (letter - 1) ∷ []

-- the code points of a word, after a consonant or not; a consonant that is last has the virama after it
abbrev pub points_of_word : Bool → List ℕ → List ℕ
points_of_word false [] = []
points_of_word true [] = 0x094D ∷ []
points_of_word bare (letter ∷ word) = points_of_letter bare letter ++ points_of_word (is_consonant letter) word

-- the spelling of a word, as UTF-8
unfoldable pub devanagari_of_word : List ℕ → List ℕ
devanagari_of_word word = encode_utf8_all (points_of_word false word)
