-- The notation of rules in a rule file (own, after the notation [x]u|v>w of Huet 2005): `[x]u|v>w`, or `u|v>w` where x is
-- empty; v, and then w too, may have the name of a class between `<` and `>` in one place.
use Rattle.std.specs.Prelude.{ℕ, ◌==◌, ◌&&◌, ◌||◌, not, Bool, true, false, if◌then◌else◌, Option, Some, None, Ok, List, [], ◌∷◌}
use Rattle.std.specs.List.{list_any}
use Rattle.std.specs.Str.{bytes_eq}
use Rattle.text_definitions.specs.Spellings.{Reading}
use Rattle.text_definitions.specs.Slp1.{word_of_slp1}
use Rattle.list_laws.specs.Cuts.{cut}

-- a part as it is written: what comes before the class and after it, and the class's name; without a class it is all before
pub record Part : Type 0 where
  pub before : List ℕ
  pub class : Option (List ℕ)
  pub after : List ℕ

-- the four parts of a notation as they are written
pub record Notation : Type 0 where
  pub x : List ℕ
  pub u : List ℕ
  pub v : Part
  pub w : Part

-- the part without a class, and that with one
abbrev pub bare : List ℕ → Part
bare text = record { before = text; class = None; after = [] }

abbrev pub around : List ℕ → List ℕ → List ℕ → Part
around before name after = record { before = before; class = Some name; after = after }

-- x, and what comes after it: up to the first `]` where the entry begins with `[`, else nothing
abbrev pub cut_x : List ℕ → Option (List ℕ × List ℕ)
cut_x [] = Some ([], [])
cut_x (byte ∷ text) = if byte == 91 then cut 93 text else Some ([], byte ∷ text)

-- v, and what comes after it: v ends at the first `>` that closes no class
abbrev pub v_around : List ℕ → List ℕ → Option (List ℕ × List ℕ) → Option (Part × List ℕ)
v_around before name None = None
v_around before name (Some (after, rest)) = Some (around before name after, rest)

abbrev pub v_from : List ℕ → List ℕ → Option (List ℕ × List ℕ) → Option (Part × List ℕ)
v_from front rest None = Some (bare front, rest)
v_from front rest (Some (before, name)) = v_around before name (cut 62 rest)

abbrev pub v_before_end : Option (List ℕ × List ℕ) → Option (Part × List ℕ)
v_before_end None = None
v_before_end (Some (front, rest)) = v_from front rest (cut 60 front)

abbrev pub cut_v : List ℕ → Option (Part × List ℕ)
cut_v text = v_before_end (cut 62 text)

-- w: a class's name goes from the first `<` to the next `>`
abbrev pub w_around : List ℕ → Option (List ℕ × List ℕ) → Option Part
w_around before None = None
w_around before (Some (name, after)) = Some (around before name after)

abbrev pub w_from : List ℕ → Option (List ℕ × List ℕ) → Option Part
w_from text None = Some (bare text)
w_from text (Some (before, rest)) = w_around before (cut 62 rest)

abbrev pub w_of : List ℕ → Option Part
w_of text = w_from text (cut 60 text)

-- `[`, `]`, `<`, `>` and `|` are marks
abbrev pub is_mark : ℕ → Bool
is_mark byte = byte == 91 || byte == 93 || byte == 60 || byte == 62 || byte == 124

abbrev pub has_entry_mark : List ℕ → Bool
has_entry_mark text = list_any is_mark text

-- where w has a class, v has the same
abbrev pub is_class_placed : Option (List ℕ) → Option (List ℕ) → Bool
is_class_placed v None = true
is_class_placed None (Some name) = false
is_class_placed (Some name) (Some other) = bytes_eq name other

-- no mark stands where a letter should, and the class is placed as it may be
abbrev pub is_well_formed : Notation → Bool
is_well_formed notation =
    not (has_entry_mark notation.x || has_entry_mark notation.u || has_entry_mark notation.v.before || has_entry_mark notation.v.after || has_entry_mark notation.w.before || has_entry_mark notation.w.after)
    && is_class_placed notation.v.class notation.w.class

abbrev pub if_well_formed : Notation → Option Notation
if_well_formed notation = if is_well_formed notation then Some notation else None

abbrev pub notation_with_w : List ℕ → List ℕ → Part → Option Part → Option Notation
notation_with_w x u v None = None
notation_with_w x u v (Some w) = if_well_formed (record { x = x; u = u; v = v; w = w })

abbrev pub notation_with_v : List ℕ → List ℕ → Option (Part × List ℕ) → Option Notation
notation_with_v x u None = None
notation_with_v x u (Some (v, rest)) = notation_with_w x u v (w_of rest)

abbrev pub notation_with_u : List ℕ → Option (List ℕ × List ℕ) → Option Notation
notation_with_u x None = None
notation_with_u x (Some (u, rest)) = notation_with_v x u (cut_v rest)

abbrev pub notation_with_x : Option (List ℕ × List ℕ) → Option Notation
notation_with_x None = None
notation_with_x (Some (x, rest)) = notation_with_u x (cut 124 rest)

-- the four parts of an entry that is written as a notation; None where it is written otherwise
unfoldable pub notation_of : List ℕ → Option Notation
notation_of entry = notation_with_x (cut_x entry)

-- ---- its words

-- a part as it is read: the letters before and after the class, where it has one
pub record Gap : Type 0 where
  pub before : List ℕ
  pub has_class : Bool
  pub after : List ℕ

-- the notation as it is read
pub record Pattern : Type 0 where
  pub x : List ℕ
  pub u : List ℕ
  pub v : Gap
  pub w : Gap

abbrev pub is_some_class : Option (List ℕ) → Bool
is_some_class None = false
is_some_class (Some name) = true

abbrev pub gap_with : Bool → Reading → Reading → Option Gap
gap_with has_class (Ok before) (Ok after) = Some (record { before = before; has_class = has_class; after = after })
gap_with has_class before after = None

-- the part, where both of its texts are spelled in SLP1
abbrev pub gap_of : Part → Option Gap
gap_of part = gap_with (is_some_class part.class) (word_of_slp1 part.before) (word_of_slp1 part.after)

abbrev pub pattern_with : Reading → Reading → Option Gap → Option Gap → Option Pattern
pattern_with (Ok x) (Ok u) (Some v) (Some w) = Some (record { x = x; u = u; v = v; w = w })
pattern_with x u v w = None

-- the notation, where all of it is spelled in SLP1
unfoldable pub pattern_of : Notation → Option Pattern
pattern_of notation =
    pattern_with (word_of_slp1 notation.x) (word_of_slp1 notation.u) (gap_of notation.v) (gap_of notation.w)
