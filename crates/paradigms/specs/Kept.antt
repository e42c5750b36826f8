-- What is kept of the tables that were read.
use Rattle.std.specs.Prelude.{◌≡◌, ℕ, ◌≤◌, false, List, [], ◌∷◌, length}
use Rattle.std.specs.List.{list_any}
use Rattle.std.specs.Str.{bytes_eq}
use Rattle.morphology_definitions.specs.Inflection.{Row}
use Rattle.paradigm_file_definitions.specs.declared.limits.TheConstants.{MOST_TABLE_RECORDS}

-- no two of the names are the same
abbrev pub AreDistinct : List (List ℕ) → Type 0
AreDistinct [] = Unit {0}
AreDistinct (name ∷ names) = (list_any (bytes_eq name) names ≡ false) × AreDistinct names

-- there are as many names as lists of rows, no two the same, and not too many
pub record AreKept (names : List (List ℕ)) (rows : List (List Row)) : Type 0 where
  pub alike : length names ≡ length rows
  pub distinct : AreDistinct names
  pub few : length names ≤ MOST_TABLE_RECORDS
