-- Rows, stems and classes of the program, as the definitions see them: a tag as its text.
use Rattle.std.specs.Prelude.{ℕ, List, [], ◌∷◌}
use Rattle.form_tags.specs.TagTexts.{tag_text}
use Rattle.morphology_definitions.specs.Inflection as inflection
use Rattle.paradigms.specs.declared.row.Row.{Row}
use Rattle.paradigms.specs.declared.stem.Stem.{Stem}

-- a row with its tag's text
abbrev pub text_row : Row → inflection.Row
text_row row =
    record { tag = tag_text row.tag; phase = row.phase; prefix = row.prefix; cut = row.cut; ending = row.ending }

-- a stem
abbrev pub text_stem : Stem → inflection.Stem
text_stem stem = record { letters = stem.letters; class = stem.class }

-- classes from their names and their rows
abbrev pub classes_of : List (List ℕ) → List (List inflection.Row) → List inflection.Class
classes_of [] rows = []
classes_of (name ∷ names) [] = []
classes_of (name ∷ names) (first ∷ rows) = record { name = name; rows = first } ∷ classes_of names rows
