-- Deltas as they are packed: the letters that they append in one list.
use Rattle.std.specs.Prelude.{ℕ, ◌≤◌, List, length, slice_range}
use Rattle.form_tags.specs.TagTexts.{tag_text}
use Rattle.lexicon_definitions.specs.Deltas.{Delta}
use Rattle.shared_trie.specs.declared.delta_numbers.DeltaParts.{DeltaParts}

-- the delta with these parts
abbrev pub delta_in : List ℕ → DeltaParts → Delta
delta_in letters parts = record { cut = parts.cut; append = slice_range letters parts.first parts.end; tag = tag_text parts.tag }

-- the letters that it appends are there
pub record IsDeltaIn (letters : List ℕ) (parts : DeltaParts) : Type 0 where
  pub order : parts.first ≤ parts.end
  pub within : parts.end ≤ length letters
