-- What a search for a mark says of the text before it and after it.
use Rattle.std.proofs.Common.{◌≡◌, ℕ, ◌<◌, Bool, true, false, cond, Some, None, List, [], ◌∷◌, length, eqb, refl, ◌∙◌, ap, arith}
use Rattle.std.specs.List.{slice_split, onto_first}
use Rattle.std.proofs.lemmas.List.{length-append}
use Rattle.lexicon_text_definitions.specs.FileLines.{lines_of_bytes, with_byte, fields_of, shape_of, shape_after, shape_with}
use Rattle.lexicon_text_definitions.proofs.LineCuts.{line_at, split_at, split_none, ended_line}
use Rattle.list_laws.specs.Cuts.{cut}
use Rattle.list_laws.proofs.CutLaws.{cut_as}
use Rattle.list_laws.proofs.Marks.{is_free, free_parts}
use Rattle.form_file.specs.Fields.{one_of, two_of, four_of}

-- a line without a line end is the last
pub last_line : (byte : ℕ) (bytes : List ℕ) → is_free 10 (byte ∷ bytes) ≡ true
    → lines_of_bytes (byte ∷ bytes) ≡ record { bytes = byte ∷ bytes; ended = false } ∷ []
last_line byte [] h = ap (λ test. cond test (ended_line [] ∷ []) (with_byte byte [])) (free_parts 10 byte [] h).0
last_line byte (next ∷ bytes) h =
    let parts = free_parts 10 byte (next ∷ bytes) h in
    ap (λ test. cond test (ended_line [] ∷ lines_of_bytes (next ∷ bytes)) (with_byte byte (lines_of_bytes (next ∷ bytes)))) parts.0
    ∙ ap (with_byte byte) (last_line next bytes parts.1)

pub line_cut : (bytes front rest : List ℕ) → cut 10 bytes ≡ Some (front, rest) → lines_of_bytes bytes ≡ ended_line front ∷ lines_of_bytes rest
line_cut bytes front rest e =
    let is = cut_as 10 bytes (Some (front, rest)) e in
    ap lines_of_bytes is.0 ∙ line_at front rest is.1

pub whole_line : (bytes : List ℕ) → cut 10 bytes ≡ None → 0 < length bytes → lines_of_bytes bytes ≡ record { bytes = bytes; ended = false } ∷ []
whole_line [] e some = absurd (omega arith)
whole_line (byte ∷ bytes) e some = last_line byte bytes (cut_as 10 (byte ∷ bytes) None e)

-- ---- fields

pub fields_cut : (text first rest : List ℕ) → cut 32 text ≡ Some (first, rest) → fields_of (Some text) ≡ first ∷ fields_of (Some rest)
fields_cut text first rest e =
    let is = cut_as 32 text (Some (first, rest)) e in
    ap (slice_split (λ byte. eqb byte 32)) is.0 ∙ split_at 32 first rest is.1

pub fields_whole : (text : List ℕ) → cut 32 text ≡ None → fields_of (Some text) ≡ text ∷ []
fields_whole text e = split_none 32 text (cut_as 32 text None e)

-- there is always a field
by_mark : (byte : ℕ) (text : List ℕ) (test : Bool) → ((first : List ℕ) × (rest : List (List ℕ)) × (slice_split (λ byte. eqb byte 32) text ≡ first ∷ rest))
    → (first : List ℕ) × (rest : List (List ℕ)) × (cond test ([] ∷ slice_split (λ byte. eqb byte 32) text) (onto_first byte (slice_split (λ byte. eqb byte 32) text)) ≡ first ∷ rest)
by_mark byte text true (first, rest, is) = ([], first ∷ rest, ap (◌∷◌ []) is)
by_mark byte text false (first, rest, is) = (byte ∷ first, rest, ap (onto_first byte) is)

some_part : (text : List ℕ) → (first : List ℕ) × (rest : List (List ℕ)) × (slice_split (λ byte. eqb byte 32) text ≡ first ∷ rest)
some_part [] = ([], [], refl)
some_part (byte ∷ text) = by_mark byte text (eqb byte 32) (some_part text)

pub not_one_cut : (text first rest : List ℕ) → cut 32 text ≡ Some (first, rest) → one_of (fields_of (Some text)) ≡ None
not_one_cut text first rest e =
    let (second, more, is) = some_part rest in
    ap one_of (fields_cut text first rest e ∙ ap (◌∷◌ first) is)

pub not_two_whole : (text : List ℕ) → cut 32 text ≡ None → two_of (fields_of (Some text)) ≡ None
not_two_whole text e = ap two_of (fields_whole text e)

not_two_by : (first : List ℕ) (fields : List (List ℕ)) → one_of fields ≡ None → two_of (first ∷ fields) ≡ None
not_two_by first [] h = refl
not_two_by first (second ∷ []) h = absurd (cc)
not_two_by first (second ∷ third ∷ fields) h = refl

pub not_two_rest : (text first rest : List ℕ) → cut 32 text ≡ Some (first, rest) → one_of (fields_of (Some rest)) ≡ None → two_of (fields_of (Some text)) ≡ None
not_two_rest text first rest e h = ap two_of (fields_cut text first rest e) ∙ not_two_by first (fields_of (Some rest)) h

pub not_four_whole : (text : List ℕ) → cut 32 text ≡ None → four_of (fields_of (Some text)) ≡ None
not_four_whole text e = ap four_of (fields_whole text e)

pub not_four_second : (text first rest : List ℕ) → cut 32 text ≡ Some (first, rest) → cut 32 rest ≡ None → four_of (fields_of (Some text)) ≡ None
not_four_second text first rest e f = ap four_of (fields_cut text first rest e ∙ ap (◌∷◌ first) (fields_whole rest f))

pub not_four_third : (text first rest second last : List ℕ) → cut 32 text ≡ Some (first, rest) → cut 32 rest ≡ Some (second, last) → cut 32 last ≡ None
    → four_of (fields_of (Some text)) ≡ None
not_four_third text first rest second last e f g =
    ap four_of (fields_cut text first rest e ∙ ap (◌∷◌ first) (fields_cut rest second last f ∙ ap (◌∷◌ second) (fields_whole last g)))

pub three_fields_are : (text first rest second last third more : List ℕ) → cut 32 text ≡ Some (first, rest) → cut 32 rest ≡ Some (second, last)
    → cut 32 last ≡ Some (third, more) → fields_of (Some text) ≡ first ∷ second ∷ third ∷ fields_of (Some more)
three_fields_are text first rest second last third more e f g =
    fields_cut text first rest e ∙ ap (◌∷◌ first) (fields_cut rest second last f ∙ ap (◌∷◌ second) (fields_cut last third more g))

-- ---- the shape of a rule

pub no_bar : (field : List ℕ) → cut 124 field ≡ None → shape_of field ≡ None
no_bar field e = ap shape_after e

pub no_sign : (field u rest : List ℕ) → cut 124 field ≡ Some (u, rest) → cut 62 rest ≡ None → shape_of field ≡ None
no_sign field u rest e f = ap shape_after e ∙ ap (shape_with u) f

pub shape_cut : (field u rest v w : List ℕ) → cut 124 field ≡ Some (u, rest) → cut 62 rest ≡ Some (v, w) → shape_of field ≡ shape_with u (Some (v, w))
shape_cut field u rest v w e f = ap shape_after e ∙ ap (shape_with u) f

pub cut_shorter : (mark : ℕ) (text front rest : List ℕ) → cut mark text ≡ Some (front, rest) → length rest < length text
cut_shorter mark text front rest e =
    let is = cut_as mark text (Some (front, rest)) e in
    let long = ap length is.0 in
    omega (arith, long, length-append front (mark ∷ rest))
