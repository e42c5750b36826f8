-- The text that a line asks to be read is no longer than the line, since it is what comes after blanks of it.
use Rattle.std.proofs.Common.{◌≡◌, ℕ, ◌+◌, ◌≤◌, Bool, true, false, List, [], ◌∷◌, length, Option, Some, None, ◌∙◌, ap, arith}
use Rattle.std.specs.Prelude.{codes, if◌then◌else◌}
use Rattle.std.specs.Str.{bytes_eq}
use Rattle.std.proofs.lemmas.List.{length-append}
use Rattle.lexicon_text_definitions.specs.FileLines.{parts_of}
use Rattle.lexicon_text_definitions.proofs.LineCuts.{line_with, line_from_parts}
use Rattle.session_definitions.specs.Requests.{Request, Text, Page, Summary, Choose, Undo, Tags, Mark, Resume, Quit, NoWord, after_blank, alone, request_with, request_of}

-- how long the text is that is to be read; 0 where there is no text
abbrev pub text_length : Request → ℕ
text_length (Text scheme text) = length text
text_length (Page count) = 0
text_length Summary = 0
text_length (Choose kept number) = 0
text_length Undo = 0
text_length (Tags number) = 0
text_length Mark = 0
text_length (Resume mark) = 0
text_length Quit = 0
text_length NoWord = 0

by_rest : (line kind : List ℕ) (rest : Option (List ℕ)) → line ≡ line_with kind rest → length (after_blank rest) ≤ length line
by_rest line kind None e = omega arith
by_rest line kind (Some rest) e =
    let longer : length line ≡ length kind + length (32 ∷ rest) = ap length e ∙ length-append kind (32 ∷ rest) in
    omega (arith, longer)

rest_within : (line : List ℕ) → length (after_blank (parts_of line).rest) ≤ length line
rest_within line = by_rest line (parts_of line).kind (parts_of line).rest (line_from_parts line)

either : (b : Bool) (most : ℕ) (left right : Request) → text_length left ≤ most → text_length right ≤ most
    → text_length (if b then left else right) ≤ most
either true most left right p q = p
either false most left right p q = q

alone_within : (rest : List ℕ) (most : ℕ) (request : Request) → text_length request ≤ most → text_length (alone rest request) ≤ most
alone_within [] most request p = p
alone_within (byte ∷ rest) most request p = omega arith

within : (word rest : List ℕ) → text_length (request_with word rest) ≤ length rest
within word rest =
    either (bytes_eq word (codes "text")) (length rest) _ _ (rest_within rest)
    (either (bytes_eq word (codes "page")) (length rest) _ _ (omega arith)
    (either (bytes_eq word (codes "summary")) (length rest) _ _ (alone_within rest (length rest) Summary (omega arith))
    (either (bytes_eq word (codes "keep")) (length rest) _ _ (omega arith)
    (either (bytes_eq word (codes "reject")) (length rest) _ _ (omega arith)
    (either (bytes_eq word (codes "undo")) (length rest) _ _ (alone_within rest (length rest) Undo (omega arith))
    (either (bytes_eq word (codes "tags")) (length rest) _ _ (omega arith)
    (either (bytes_eq word (codes "mark")) (length rest) _ _ (alone_within rest (length rest) Mark (omega arith))
    (either (bytes_eq word (codes "resume")) (length rest) _ _ (omega arith)
    (either (bytes_eq word (codes "quit")) (length rest) _ _ (alone_within rest (length rest) Quit (omega arith)) (omega arith))))))))))

pub short_text : (line : List ℕ) → text_length (request_of line) ≤ length line
unfolding request_of
short_text line =
    let asked = within (parts_of line).kind (after_blank (parts_of line).rest) in
    let rest = rest_within line in
    omega (arith, asked, rest)
