-- Inflection: the forms of stems by the rows of paradigm tables (own form, after Huet's lexicons of inflected forms).
use Rattle.std.specs.Prelude.{◌≡◌, ℕ, ◌+◌, ◌-◌, ◌≤◌, ◌<◌, List, [], ◌++◌, length, map, take, slice_get, Option, Some, None, All}
use Rattle.std.specs.List.{AllZip, flat_map}
use Rattle.lexicon_definitions.specs.declared.limits.TheConstants.{MOST_FORM_LETTERS}
use Rattle.lexicon_definitions.specs.FormEntries.{Entry}
use Rattle.morphology_definitions.specs.InternalSandhi.{IsJoined}

-- a row of a table: the tag and the phase of its forms, the letters put before the stem, how many of the stem's last letters
-- are left out, and the ending
pub record Row : Type 0 where
  pub tag : List ℕ
  pub phase : ℕ
  pub prefix : List ℕ
  pub cut : ℕ
  pub ending : List ℕ

-- a class of stems: its name, and the rows of its table
pub record Class : Type 0 where
  pub name : List ℕ
  pub rows : List Row

-- a stem, with the number of its class, counted from 0
pub record Stem : Type 0 where
  pub letters : List ℕ
  pub class : ℕ

-- the word without its last letters, as many as the count says
abbrev pub without_last : ℕ → List ℕ → List ℕ
without_last count word = take (length word - count) word

-- what the row's ending is joined to: the row's prefix, and then the stem without the letters that the row cuts
abbrev pub front_of : Row → List ℕ → List ℕ
front_of row stem = row.prefix ++ without_last row.cut stem

-- the entry of a row and a stem has the row's phase, as analysis the stem with the row's tag, and as form the joined word of
-- front and ending
pub record IsInflected (row : Row) (stem : List ℕ) (entry : Entry) : Type 0 where
  pub phase : entry.phase ≡ row.phase
  pub analysis : entry.analysis ≡ record { stem = stem; tag = row.tag }
  pub form : IsJoined (front_of row stem) row.ending entry.letters

-- the entries of a stem by these rows are one for each row, in the rows' order
abbrev pub AreInflected : List Row → List ℕ → List Entry → Type 0
AreInflected rows stem entries = AllZip (λ row entry. IsInflected row stem entry) rows entries

-- the rows of the class; no rows where there is no such class
abbrev pub rows_of_class : Option Class → List Row
rows_of_class None = []
rows_of_class (Some class) = class.rows

abbrev pub rows_of : List Class → ℕ → List Row
rows_of classes number = rows_of_class (slice_get classes number)

-- each row of the stem's class with the stem's letters, in the rows' order
abbrev pub rows_with : List Class → Stem → List (Row × List ℕ)
rows_with classes stem = map (λ row. (row, stem.letters)) (rows_of classes stem.class)

-- the entries of all stems are one for each stem and each row of its class, stem by stem, in the rows' order
abbrev pub AreAllInflected : List Class → List Stem → List Entry → Type 0
AreAllInflected classes stems entries =
    AllZip (λ pair entry. IsInflected pair.0 pair.1 entry) (flat_map (rows_with classes) stems) entries

-- how many letters the form of a row and a stem has
abbrev pub form_length : Row → List ℕ → ℕ
form_length row stem = length (front_of row stem) + length row.ending

-- the stem has the letters that the row cuts, and their form is a form of a lexicon: it has a letter, and not too many
pub record IsInflectable (stem : List ℕ) (row : Row) : Type 0 where
  pub cut : row.cut ≤ length stem
  pub not_empty : 0 < form_length row stem
  pub short : form_length row stem ≤ MOST_FORM_LETTERS

-- the stem's class is one of the classes, and each of its rows has a form of the stem
pub record IsInflectableStem (classes : List Class) (stem : Stem) : Type 0 where
  pub class : stem.class < length classes
  pub rows : All (IsInflectable stem.letters) (rows_of classes stem.class)
