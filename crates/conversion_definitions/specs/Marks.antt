-- The gap marks and digits of a text, and what each becomes in another scheme (own). They are those of the line of a text:
-- tab, line feed, carriage return, blank, `|` and the digits 0 to 9, and in Devanagari its dandas and digits too.
use Rattle.std.specs.Prelude.{ℕ, ◌+◌, List, [], ◌∷◌, ◌++◌, length, map, codes, Bool, true, false, Option, Some, None, if◌then◌else◌, encode_utf8_all}
use Rattle.text_definitions.specs.LineTexts.{begins_with}
use Rattle.conversion_definitions.specs.AnySchemes.{AnyScheme, Slp1, Wx, Velthuis, Devanagari, Iast, HarvardKyoto}

-- a mark of a text, and what it becomes, both in bytes
pub record Mark : Type 0 where
  pub is : List ℕ
  pub becomes : List ℕ

-- these characters become those
abbrev pub mark : List ℕ → List ℕ → Mark
mark characters others = record { is = encode_utf8_all characters; becomes = encode_utf8_all others }

-- each of these characters stays
abbrev pub kept : List ℕ → List Mark
kept characters = map (λ character. mark (character ∷ []) (character ∷ [])) characters

-- the marks of a text in Latin letters
unfoldable pub latin_marks : List Mark
latin_marks = kept (codes "\t\n\r |0123456789")

-- those of a text in Devanagari, where Latin ones may stand too
unfoldable pub devanagari_marks : List Mark
devanagari_marks = latin_marks ++ kept (codes "।॥०१२३४५६७८९")

-- the same with what they become in Latin letters
unfoldable pub marks_to_latin : List Mark
marks_to_latin =
    latin_marks ++ mark (codes "।") (codes "|") ∷ mark (codes "॥") (codes "||") ∷ mark (codes "०") (codes "0") ∷ mark (codes "१") (codes "1") ∷ mark (codes "२") (codes "2") ∷ mark (codes "३") (codes "3") ∷ mark (codes "४") (codes "4") ∷ mark (codes "५") (codes "5") ∷ mark (codes "६") (codes "6") ∷ mark (codes "७") (codes "7") ∷ mark (codes "८") (codes "8") ∷ mark (codes "९") (codes "9") ∷ []

-- the marks of a text in Latin letters, with what they become in Devanagari; two bars are one mark there
unfoldable pub marks_to_devanagari : List Mark
marks_to_devanagari =
    mark (codes "||") (codes "॥") ∷ mark (codes "|") (codes "।") ∷ mark (codes "0") (codes "०") ∷ mark (codes "1") (codes "१") ∷ mark (codes "2") (codes "२") ∷ mark (codes "3") (codes "३") ∷ mark (codes "4") (codes "४") ∷ mark (codes "5") (codes "५") ∷ mark (codes "6") (codes "६") ∷ mark (codes "7") (codes "७") ∷ mark (codes "8") (codes "८") ∷ mark (codes "9") (codes "९") ∷ kept (codes "\t\n\r ")

-- whether the scheme is written in Devanagari
abbrev pub is_devanagari : AnyScheme → Bool
is_devanagari Slp1 = false
is_devanagari Wx = false
is_devanagari Velthuis = false
is_devanagari Devanagari = true
is_devanagari Iast = false
is_devanagari HarvardKyoto = false

-- by whether the text is in Devanagari, and whether it is to be
abbrev pub marks_by : Bool → Bool → List Mark
marks_by false false = latin_marks
marks_by false true = marks_to_devanagari
marks_by true false = marks_to_latin
marks_by true true = devanagari_marks

-- the marks of a text in the first scheme, with what they become in the second
abbrev pub marks_between : AnyScheme → AnyScheme → List Mark
marks_between from to = marks_by (is_devanagari from) (is_devanagari to)

-- the length of the first of these marks with which the text begins, and what it becomes
abbrev pub first_mark : List Mark → List ℕ → Option (ℕ × List ℕ)
first_mark [] text = None
first_mark (mark ∷ marks) text =
    if begins_with mark.is text then Some (length mark.is, mark.becomes) else first_mark marks text
