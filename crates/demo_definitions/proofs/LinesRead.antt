-- The text is read as a line without blanks: it is one piece, since none of its bytes is a gap mark or a digit.
use Rattle.std.proofs.Common.{◌≡◌, ℕ, ◌+◌, ◌<◌, ◌≤◌, Bool, true, false, nat_lt, Ok, List, [], ◌∷◌, length, map, refl, arith}
use Rattle.std.specs.Prelude.{codes, ◌==◌}
use Rattle.std.specs.List.{list_all}
use Rattle.std.proofs.lemmas.List.{length-map}
use Rattle.std.proofs.lemmas.Bool.{and_parts}
use Rattle.std.proofs.lemmas.Bool.Decides.{nat_tests}
use Rattle.text_definitions.specs.declared.limits.TheConstants.{MOST_LINE_LETTERS}
use Rattle.text_definitions.specs.Schemes.{Slp1}
use Rattle.text_definitions.specs.LineTexts.{Front, GapMark, DigitMark, Other, front_of, Piece, parts_from, line_of_text}
use Rattle.demo_definitions.specs.DrawnTexts.{text_of_number}
use Rattle.demo_definitions.specs.SourceContents.{letters_spelled, line_spelled}
use Rattle.demo_definitions.proofs.DemoBytes.{is_demo_byte, passes, code_of, word_is, letters_are}
use Rattle.demo_definitions.proofs.DrawnWords.{text_is}

is_other : Front → Bool
is_other (GapMark more) = false
is_other (DigitMark more) = false
is_other Other = true

other_from : (front : Front) → is_other front ≡ true → front ≡ Other
unfolding is_other
other_from (GapMark more) h = cc
other_from (DigitMark more) h = cc
other_from Other h = refl

no_mark : (byte : ℕ) (text : List ℕ) → is_demo_byte byte ≡ true → front_of Slp1 (byte ∷ text) ≡ Other
unfolding front_of is_other lib.Utf8.encode
no_mark byte text h = other_from (front_of Slp1 (byte ∷ text)) (passes (λ b. is_other (front_of Slp1 (b ∷ text))) (codes "kgcjtdpbmyaiuAeHno") byte refl h)

one_piece : (place byte : ℕ) (text : List ℕ) → list_all is_demo_byte (byte ∷ text) ≡ true
    → parts_from Slp1 place 0 (byte ∷ text) ≡ Piece place (byte ∷ text) ∷ []
one_piece place byte [] h =
    let parts = and_parts (is_demo_byte byte) true h in
    rw (no_mark byte [] parts.0) refl
one_piece place byte (next ∷ text) h =
    let parts = and_parts (is_demo_byte byte) (list_all is_demo_byte (next ∷ text)) h in
    rw (no_mark byte (next ∷ text) parts.0, one_piece (place + 1) next text parts.1) refl

within : (letters : List ℕ) → 0 < length letters → length letters ≤ 270 → (length letters == 0 ≡ false) × (nat_lt MOST_LINE_LETTERS (length letters) ≡ false)
within letters some few = (grind (arith, nat_tests), grind (arith, nat_tests))

line_is : (text : List ℕ) → list_all is_demo_byte text ≡ true → 0 < length text → length text ≤ 270
    → line_of_text Slp1 text ≡ Ok (record { letters = letters_spelled text; blanks = [] })
unfolding line_of_text
line_is [] bytes some few = absurd (omega arith)
line_is (byte ∷ text) bytes some few =
    let letters = letters_are (byte ∷ text) bytes in
    let word = word_is (byte ∷ text) bytes in
    let limits = within (map code_of (byte ∷ text)) (omega arith) (omega (arith, length-map (byte ∷ text) code_of)) in
    rw (one_piece 0 byte text bytes, word, limits.0, limits.1, letters) refl

-- the text is read as its line
pub line_read : (number : ℕ) → line_of_text Slp1 (text_of_number number) ≡ Ok (line_spelled number)
unfolding line_spelled
line_read number = let text = text_is number in line_is (text_of_number number) text.bytes text.some text.few
