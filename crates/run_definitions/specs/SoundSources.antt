-- What holds of the rows and stems that are read of source files, so that the entries of stems may stand in a lexicon.
use Rattle.std.specs.Prelude.{◌≢◌, ℕ, ◌<◌, ◌≤◌, List, [], length, All}
use Rattle.text_definitions.specs.Words.{IsWord}
use Rattle.lexicon_definitions.specs.declared.limits.TheConstants.{MOST_FORM_LETTERS}
use Rattle.lexicon_definitions.specs.FormEntries.{Entry, IsListedStem}
use Rattle.lexicon_definitions.specs.Lexicons.{IsAnalysis}
use Rattle.lexicon_definitions.specs.Tags.{IsTagText}
use Rattle.morphology_definitions.specs.Inflection.{Row, Class, Stem}

-- a row with one of so many phases, a tag, and words
pub record IsSoundRow (count : ℕ) (row : Row) : Type 0 where
  pub phase : row.phase < count
  pub tag : IsTagText row.tag
  pub prefix : IsWord row.prefix
  pub ending : IsWord row.ending

-- each row of the class is such
abbrev pub HasSoundRows : ℕ → Class → Type 0
HasSoundRows count class = All (IsSoundRow count) class.rows

-- a word that may be a stem
pub record IsStemWord (letters : List ℕ) : Type 0 where
  pub word : IsWord letters
  pub not_empty : 0 < length letters
  pub short : length letters ≤ MOST_FORM_LETTERS

-- the stem's letters are such
abbrev pub HasStemWord : Stem → Type 0
HasStemWord stem = IsStemWord stem.letters

-- an entry that may stand in a lexicon with a text
pub record IsSoundEntry (count : ℕ) (entry : Entry) : Type 0 where
  pub phase : entry.phase < count
  pub word : IsWord entry.letters
  pub not_empty : entry.letters ≢ []
  pub short : length entry.letters ≤ MOST_FORM_LETTERS
  pub analysis : IsAnalysis entry.analysis
  pub stem : IsListedStem entry.analysis
