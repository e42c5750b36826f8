-- A walk over the forms for which a node stands: the levels on the way to the present form, the deepest first, and the forms that are left.
use Rattle.std.specs.Prelude.{◌≡◌, ◌≢◌, ℕ, ◌+◌, ◌-◌, ◌<◌, ◌≤◌, List, [], ◌∷◌, ◌++◌, length, map, take, drop, IsSome}
use Rattle.std.specs.List.{flat_map}
use Rattle.lexicon_definitions.specs.Tries.{Row, row_of, empty_row, walk}
use Rattle.trie_text_definitions.specs.NodeValues.{Suffix, values_of, suffixes_over, child_suffixes, suffixes_of}
use Rattle.shared_trie.specs.declared.form_walk_level.Level.{Level}

-- ---- forms

-- the suffix after a front
abbrev pub after_front : List ℕ → Suffix → Suffix
after_front front suffix = record { word = front ++ suffix.word; deltas = suffix.deltas }

-- the suffixes that go on through the children that are left at a level
abbrev pub suffixes_left : List Row → Level → List Suffix
suffixes_left rows level = flat_map (child_suffixes (values_of suffixes_over rows)) (drop level.walked (row_of rows level.node).children)

-- the forms to come after the present one: at each level, those that begin with as many of the present form's letters as there are levels above
unfoldable pub forms_to_come : List Row → List ℕ → List Level → List Suffix
forms_to_come rows letters [] = []
forms_to_come rows letters (level ∷ levels) =
    map (after_front (take (length levels) letters)) (suffixes_left rows level) ++ forms_to_come rows letters levels

-- the present form, which ends at the deepest level, and those to come
unfoldable pub forms_left : List Row → List ℕ → List Level → List Suffix
forms_left rows letters [] = []
forms_left rows letters (level ∷ levels) =
    record { word = letters; deltas = (row_of rows level.node).deltas } ∷ forms_to_come rows letters (level ∷ levels)

-- the forms that begin with the letters and go on from the node, and those to come after them
abbrev pub forms_from : List Row → List ℕ → List Level → ℕ → List Suffix
forms_from rows letters levels node = map (after_front letters) (suffixes_of rows node) ++ forms_to_come rows letters levels

-- ---- room

-- whatever can be walked from the node, so many letters deep, has no more than the most letters
abbrev pub HasRoom : List Row → ℕ → ℕ → ℕ → Type 0
HasRoom rows most depth node = (word : List ℕ) → IsSome (walk rows node word) → depth + length word ≤ most

-- a level's node is there, and has room
pub record IsLevel (rows : List Row) (most depth node : ℕ) : Type 0 where
  pub there : node < length rows
  pub room : HasRoom rows most depth node

-- each level is as deep as there are levels above
abbrev pub AreLevels : List Row → ℕ → List Level → Type 0
AreLevels rows most [] = Unit {0}
AreLevels rows most (level ∷ levels) = IsLevel rows most (length levels) level.node × AreLevels rows most levels

-- there is a level for each letter and one more, or neither a level nor a letter, with room for the longest form
pub record IsAtForm (rows : List Row) (letters : List ℕ) (levels : List Level) (letter_room level_room : ℕ) : Type 0 where
  pub most : ℕ
  pub are_levels : AreLevels rows most levels
  pub as_many : length letters ≡ length levels - 1
  pub letters_fit : most ≤ letter_room
  pub levels_fit : most < level_room

-- the letters lead to the node, whose level is still to come
pub record IsOnWay (rows : List Row) (letters : List ℕ) (levels : List Level) (letter_room level_room node : ℕ) : Type 0 where
  pub most : ℕ
  pub are_levels : AreLevels rows most levels
  pub as_many : length letters ≡ length levels
  pub is_level : IsLevel rows most (length levels) node
  pub letters_fit : most ≤ letter_room
  pub levels_fit : most < level_room

-- and some form goes on from the node
pub record IsGoingDown (rows : List Row) (letters : List ℕ) (levels : List Level) (letter_room level_room node : ℕ) : Type 0 where
  pub on_way : IsOnWay rows letters levels letter_room level_room node
  pub not_empty : row_of rows node ≢ empty_row
