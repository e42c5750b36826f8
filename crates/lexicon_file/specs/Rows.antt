-- A row as it is read, and what is asked of its deltas.
use Rattle.std.specs.Prelude.{ℕ, nat_lt, Bool, List, length, map}
use Rattle.std.specs.Global.{Vec}
use Rattle.std.specs.List.{list_any}
use Rattle.form_tags.specs.declared.delta.Delta as read
use Rattle.form_tags.specs.Analyses.{text_delta}
use Rattle.lexicon_definitions.specs.declared.limits.TheConstants.{MOST_FORM_LETTERS}
use Rattle.lexicon_definitions.specs.Deltas.{Delta}
use Rattle.lexicon_definitions.specs.Tries.{Row}

-- the letters of some delta are too many
abbrev pub are_too_long : List Delta → Bool
are_too_long deltas = list_any (λ (delta : Delta). nat_lt MOST_FORM_LETTERS (length delta.append)) deltas

-- the row with these deltas and children
abbrev pub row_read : Vec read.Delta → List (ℕ × ℕ) → Row
row_read deltas children = record { deltas = map text_delta deltas.items; children = children }
