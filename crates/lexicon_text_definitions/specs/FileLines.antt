-- How the bytes of a lexicon file are cut into lines, and a line into its kind and its fields (own).
use Rattle.std.specs.Prelude.{ℕ, ◌==◌, ◌||◌, Bool, true, false, if◌then◌else◌, Option, Some, None, List, [], ◌∷◌, codes}
use Rattle.std.specs.List.{list_any, slice_split}
use Rattle.std.specs.Str.{bytes_eq}
use Rattle.list_laws.specs.Cuts.{cut}

-- the bytes of a line, and whether a line end, the byte 10, comes after them
pub record Line : Type 0 where
  pub bytes : List ℕ
  pub ended : Bool

-- the lines with one byte more at the front, which belongs to the first of them
abbrev pub with_byte : ℕ → List Line → List Line
with_byte byte [] = record { bytes = byte ∷ []; ended = false } ∷ []
with_byte byte (line ∷ lines) = record { bytes = byte ∷ line.bytes; ended = line.ended } ∷ lines

-- the bytes are cut at each line end; what is left after the last of these, if anything, is a line without one
abbrev pub lines_of_bytes : List ℕ → List Line
lines_of_bytes [] = []
lines_of_bytes (byte ∷ bytes) =
    if byte == 10 then record { bytes = []; ended = true } ∷ lines_of_bytes bytes else with_byte byte (lines_of_bytes bytes)

-- the bytes before the first blank of a line, or all its bytes; and what comes after this blank
pub record Parts : Type 0 where
  pub kind : List ℕ
  pub rest : Option (List ℕ)

abbrev pub parts_or_all : List ℕ → Option (List ℕ × List ℕ) → Parts
parts_or_all line None = record { kind = line; rest = None }
parts_or_all line (Some parts) = record { kind = parts.0; rest = Some parts.1 }

abbrev pub parts_of : List ℕ → Parts
parts_of line = parts_or_all line (cut 32 line)

-- the fields after the kind, with one blank between
abbrev pub fields_of : Option (List ℕ) → List (List ℕ)
fields_of None = []
fields_of (Some rest) = slice_split (λ byte. byte == 32) rest

-- what a line may be; Opening is what comes before the first line, and Head is this line
pub data Kind : Type 0 where
  Opening : Kind
  Head : Kind
  Phase : Kind
  Grammar : Kind
  Plain : Kind
  Rule : Kind
  Form : Kind
  End : Kind

-- the kind of a line that comes after the first, by its name
abbrev pub kind_named : List ℕ → Option Kind
kind_named name =
    if bytes_eq name (codes "phase") then Some Phase
    else if bytes_eq name (codes "grammar") then Some Grammar
    else if bytes_eq name (codes "plain") then Some Plain
    else if bytes_eq name (codes "rule") then Some Rule
    else if bytes_eq name (codes "form") then Some Form
    else if bytes_eq name (codes "end") then Some End
    else None

-- after the last line's kind a line may have this kind
abbrev pub may_follow : Kind → Kind → Bool
may_follow Head Phase = true
may_follow Phase Phase = true
may_follow Phase Grammar = true
may_follow Grammar Plain = true
may_follow Grammar Rule = true
may_follow Grammar Form = true
may_follow Grammar End = true
may_follow Plain Plain = true
may_follow Plain Rule = true
may_follow Plain Form = true
may_follow Plain End = true
may_follow Rule Rule = true
may_follow Rule Form = true
may_follow Rule End = true
may_follow Form Form = true
may_follow Form End = true
may_follow last kind = false

-- whether one of the marks `|` and `>`, which no part of a rule may have, stands in this part
abbrev pub has_mark : List ℕ → Bool
has_mark part = list_any (λ byte. byte == 124 || byte == 62) part

-- the parts u, v and w of a rule
pub record Shape : Type 0 where
  pub u : List ℕ
  pub v : List ℕ
  pub w : List ℕ

abbrev pub shape_with : List ℕ → Option (List ℕ × List ℕ) → Option Shape
shape_with u None = None
shape_with u (Some parts) =
    if has_mark u || has_mark parts.0 || has_mark parts.1 then None
    else Some (record { u = u; v = parts.0; w = parts.1 })

abbrev pub shape_after : Option (List ℕ × List ℕ) → Option Shape
shape_after None = None
shape_after (Some parts) = shape_with parts.0 (cut 62 parts.1)

-- the shape `u|v>w`, with one `|` and one `>` in all
abbrev pub shape_of : List ℕ → Option Shape
shape_of field = shape_after (cut 124 field)
