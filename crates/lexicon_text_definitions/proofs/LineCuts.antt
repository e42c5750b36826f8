-- How a line is cut: each cut is undone by putting the mark back, and a text that is free of the mark is cut where the mark
-- comes first.
use Rattle.std.proofs.Common.{◌≡◌, ℕ, Bool, true, false, cond, ◌||◌, Option, Some, None, List, [], ◌∷◌, ◌++◌, map, eqb, codes, refl, sym, ◌∙◌, ap}
use Rattle.std.specs.List.{AllByRecursion, slice_split, flat_map, join_with_byte}
use Rattle.std.specs.Str.{bytes_eq}
use Rattle.std.proofs.lemmas.Bool.{or_parts, eqb-true, eq-eqb}
use Rattle.std.proofs.lemmas.List.{append_assoc}
use Rattle.std.proofs.lemmas.List.Splits.{slice_split_at, slice_split_none, join_with_byte-slice_split}
use Rattle.lexicon_text_definitions.specs.LexiconTexts.{text_of_lines}
use Rattle.lexicon_text_definitions.specs.FileLines.{Line, with_byte, lines_of_bytes, parts_or_all, parts_of, Kind, Phase, Grammar, Plain, Rule, Form, End, kind_named, has_mark, Shape, shape_with, shape_after, shape_of}
use Rattle.list_laws.specs.Cuts.{cut}
use Rattle.list_laws.proofs.CutLaws.{cut_at, IsCut, is_cut}
use Rattle.list_laws.proofs.Marks.{is_free, free_parts, bytes_apart_from}
use Rattle.list_laws.proofs.Texts.{bytes_same}

-- ---- cutting at each mark

pub split_at : (mark : ℕ) (front rest : List ℕ) → is_free mark front ≡ true
    → slice_split (λ byte. eqb byte mark) (front ++ mark ∷ rest) ≡ front ∷ slice_split (λ byte. eqb byte mark) rest
split_at mark front rest h = slice_split_at (λ byte. eqb byte mark) front mark rest (bytes_apart_from mark front h) (eq-eqb mark mark refl)

pub split_none : (mark : ℕ) (text : List ℕ) → is_free mark text ≡ true → slice_split (λ byte. eqb byte mark) text ≡ text ∷ []
split_none mark text h = slice_split_none (λ byte. eqb byte mark) text (bytes_apart_from mark text h)

pub two_parts : (mark : ℕ) (text first second : List ℕ) → slice_split (λ byte. eqb byte mark) text ≡ first ∷ second ∷ []
    → text ≡ first ++ mark ∷ second
two_parts mark text first second e = sym (join_with_byte-slice_split mark text) ∙ ap (join_with_byte mark) e

pub one_part : (mark : ℕ) (text first : List ℕ) → slice_split (λ byte. eqb byte mark) text ≡ first ∷ [] → text ≡ first
one_part mark text first e = sym (join_with_byte-slice_split mark text) ∙ ap (join_with_byte mark) e

pub three_parts : (mark : ℕ) (text first second third : List ℕ) → slice_split (λ byte. eqb byte mark) text ≡ first ∷ second ∷ third ∷ []
    → text ≡ first ++ mark ∷ (second ++ mark ∷ third)
three_parts mark text first second third e = sym (join_with_byte-slice_split mark text) ∙ ap (join_with_byte mark) e

pub four_parts : (mark : ℕ) (text first second third fourth : List ℕ)
    → slice_split (λ byte. eqb byte mark) text ≡ first ∷ second ∷ third ∷ fourth ∷ []
    → text ≡ first ++ mark ∷ (second ++ mark ∷ (third ++ mark ∷ fourth))
four_parts mark text first second third fourth e = sym (join_with_byte-slice_split mark text) ∙ ap (join_with_byte mark) e

-- ---- lines

abbrev pub ended_line : List ℕ → Line
ended_line bytes = record { bytes = bytes; ended = true }

-- a line end after bytes without one ends the first line
pub line_at : (front rest : List ℕ) → is_free 10 front ≡ true → lines_of_bytes (front ++ 10 ∷ rest) ≡ ended_line front ∷ lines_of_bytes rest
line_at [] rest h = refl
line_at (byte ∷ front) rest h =
    let parts = free_parts 10 byte front h in
    ap (λ test. cond test (ended_line [] ∷ lines_of_bytes (front ++ 10 ∷ rest)) (with_byte byte (lines_of_bytes (front ++ 10 ∷ rest)))) parts.0
    ∙ ap (with_byte byte) (line_at front rest parts.1)

-- lines that are free of line ends, each ended by one
pub lines_back : (lines : List (List ℕ)) → AllByRecursion (λ line. is_free 10 line ≡ true) lines → lines_of_bytes (text_of_lines lines) ≡ map ended_line lines
lines_back [] h = refl
lines_back (line ∷ lines) h =
    ap lines_of_bytes (append_assoc line (10 ∷ []) (text_of_lines lines)) ∙ line_at line (text_of_lines lines) h.0 ∙ ap (◌∷◌ (ended_line line)) (lines_back lines h.1)

-- what the lines of bytes are made of
abbrev text_of_line : Line → List ℕ
text_of_line line = line.bytes ++ cond line.ended (10 ∷ []) []

byte_on : (byte : ℕ) (lines : List Line) → flat_map text_of_line (with_byte byte lines) ≡ byte ∷ flat_map text_of_line lines
byte_on byte [] = refl
byte_on byte (line ∷ lines) = refl

line_by : (byte : ℕ) (bytes : List ℕ) (test : Bool) → eqb byte 10 ≡ test → flat_map text_of_line (lines_of_bytes bytes) ≡ bytes
    → flat_map text_of_line (cond test (ended_line [] ∷ lines_of_bytes bytes) (with_byte byte (lines_of_bytes bytes))) ≡ byte ∷ bytes
line_by byte bytes true e h = ap (◌∷◌ 10) h ∙ ap (λ first. first ∷ bytes) (sym (eqb-true byte 10 e))
line_by byte bytes false e h = byte_on byte (lines_of_bytes bytes) ∙ ap (◌∷◌ byte) h

pub lines_joined : (bytes : List ℕ) → flat_map text_of_line (lines_of_bytes bytes) ≡ bytes
lines_joined [] = refl
lines_joined (byte ∷ bytes) = line_by byte bytes (eqb byte 10) refl (lines_joined bytes)

-- where each line is ended, the bytes are the text of the lines
ended_text : (lines : List Line) → AllByRecursion (λ line. line.ended ≡ true) lines → flat_map text_of_line lines ≡ text_of_lines (map (λ (line : Line). line.bytes) lines)
ended_text [] h = refl
ended_text (line ∷ lines) h =
    (λ i. (line.bytes ++ cond (h.0 i) (10 ∷ []) []) ++ ended_text lines h.1 i)

pub text_from_lines : (bytes : List ℕ) → AllByRecursion (λ line. line.ended ≡ true) (lines_of_bytes bytes)
    → bytes ≡ text_of_lines (map (λ (line : Line). line.bytes) (lines_of_bytes bytes))
text_from_lines bytes h = sym (lines_joined bytes) ∙ ended_text (lines_of_bytes bytes) h

-- ---- the kind of a line

-- the name of a kind, where it has one
abbrev pub kind_name : Kind → List ℕ
kind_name Phase = codes "phase"
kind_name Grammar = codes "grammar"
kind_name Plain = codes "plain"
kind_name Rule = codes "rule"
kind_name Form = codes "form"
kind_name End = codes "end"
kind_name kind = []

named_by : (name text : List ℕ) (kind found : Kind) (test : Bool) (rest : Option Kind) → bytes_eq name text ≡ test
    → cond test (Some kind) rest ≡ Some found → kind_name kind ≡ text → (rest ≡ Some found → name ≡ kind_name found) → name ≡ kind_name found
named_by name text kind found true rest e h n later = let same : kind ≡ found = cc in bytes_same name text e ∙ sym n ∙ ap kind_name same
named_by name text kind found false rest e h n later = later h

pub named_kind : (name : List ℕ) (found : Kind) → kind_named name ≡ Some found → name ≡ kind_name found
named_kind name found h =
    named_by name (codes "phase") Phase found _ _ refl h refl
    (λ h. named_by name (codes "grammar") Grammar found _ _ refl h refl
    (λ h. named_by name (codes "plain") Plain found _ _ refl h refl
    (λ h. named_by name (codes "rule") Rule found _ _ refl h refl
    (λ h. named_by name (codes "form") Form found _ _ refl h refl
    (λ h. named_by name (codes "end") End found _ _ refl h refl (λ h. absurd (cc)))))))

-- the line with these parts
abbrev pub line_with : List ℕ → Option (List ℕ) → List ℕ
line_with kind None = kind
line_with kind (Some rest) = kind ++ 32 ∷ rest

parts_by : (line : List ℕ) (parts : Option (List ℕ × List ℕ)) → IsCut 32 line parts → line ≡ line_with (parts_or_all line parts).kind (parts_or_all line parts).rest
parts_by line None h = refl
parts_by line (Some parts) h = h.0

pub line_from_parts : (line : List ℕ) → line ≡ line_with (parts_of line).kind (parts_of line).rest
line_from_parts line = parts_by line (cut 32 line) (is_cut 32 line)

-- ---- the shape of a rule

free_by : (part : List ℕ) → has_mark part ≡ false → (is_free 124 part ≡ true) × (is_free 62 part ≡ true)
free_by [] h = (refl, refl)
free_by (byte ∷ part) h =
    let parts = or_parts (eqb byte 124 || eqb byte 62) (has_mark part) h in
    let first = or_parts (eqb byte 124) (eqb byte 62) parts.0 in
    let later = free_by part parts.1 in
    (ap (λ test. cond test false (is_free 124 part)) first.0 ∙ later.0, ap (λ test. cond test false (is_free 62 part)) first.1 ∙ later.1)

pub unmarked : (part : List ℕ) → is_free 124 part ≡ true → is_free 62 part ≡ true → has_mark part ≡ false
unmarked [] h k = refl
unmarked (byte ∷ part) h k =
    let first = free_parts 124 byte part h in
    let second = free_parts 62 byte part k in
    (λ i. (first.0 i || second.0 i) || has_mark part) ∙ unmarked part first.1 second.1

-- the field with this shape
abbrev pub field_with : Shape → List ℕ
field_with shape = shape.u ++ 124 ∷ (shape.v ++ 62 ∷ shape.w)

marked_by : (u rest : List ℕ) (parts : List ℕ × List ℕ) (shape : Shape) (test : Bool) → rest ≡ parts.0 ++ 62 ∷ parts.1
    → cond test None (Some (record { u = u; v = parts.0; w = parts.1 })) ≡ Some shape → u ++ 124 ∷ rest ≡ field_with shape
marked_by u rest parts shape true r e = absurd (cc)
marked_by u rest parts shape false r e =
    let same : record { u = u; v = parts.0; w = parts.1 } ≡ shape = cc in
    ap (λ rest. u ++ 124 ∷ rest) r ∙ ap field_with same

shape_by : (u : List ℕ) (rest : List ℕ) (parts : Option (List ℕ × List ℕ)) (shape : Shape) → IsCut 62 rest parts → shape_with u parts ≡ Some shape
    → u ++ 124 ∷ rest ≡ field_with shape
shape_by u rest None shape h e = absurd (cc)
shape_by u rest (Some parts) shape h e = marked_by u rest parts shape (has_mark u || has_mark parts.0 || has_mark parts.1) h.0 e

shape_from : (field : List ℕ) (parts : Option (List ℕ × List ℕ)) (shape : Shape) → IsCut 124 field parts → shape_after parts ≡ Some shape → field ≡ field_with shape
shape_from field None shape h e = absurd (cc)
shape_from field (Some parts) shape h e = h.0 ∙ shape_by parts.0 parts.1 (cut 62 parts.1) shape (is_cut 62 parts.1) e

pub field_from_shape : (field : List ℕ) (shape : Shape) → shape_of field ≡ Some shape → field ≡ field_with shape
field_from_shape field shape e = shape_from field (cut 124 field) shape (is_cut 124 field) e

-- a shape whose parts have no marks is that of its field
pub shape_of_field : (shape : Shape) → has_mark shape.u ≡ false → has_mark shape.v ≡ false → has_mark shape.w ≡ false → shape_of (field_with shape) ≡ Some shape
shape_of_field shape h k l =
    let bar = cut_at 124 shape.u (shape.v ++ 62 ∷ shape.w) (free_by shape.u h).0 in
    let sign = cut_at 62 shape.v shape.w (free_by shape.v k).1 in
    ap shape_after bar ∙ ap (shape_with shape.u) sign ∙ (λ i. cond ((h i || k i) || l i) None (Some shape))
