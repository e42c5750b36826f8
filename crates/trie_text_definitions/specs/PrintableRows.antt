-- Rows that a line tells: letters are letters, tags are tags, and numbers are those of a machine (own).
use Rattle.std.specs.Prelude.{ℕ, ◌<◌, ◌^◌, All}
use Rattle.text_definitions.specs.Letters.{IsLetter}
use Rattle.text_definitions.specs.Words.{IsWord}
use Rattle.lexicon_definitions.specs.Deltas.{Delta}
use Rattle.lexicon_definitions.specs.Tags.{IsTagText}
use Rattle.lexicon_definitions.specs.Tries.{Row}

-- the cut is a number of a machine, what is appended a word, and the tag one
pub record IsPrintableDelta (delta : Delta) : Type 0 where
  pub cut : delta.cut < 2 ^ 64
  pub word : IsWord delta.append
  pub tag : IsTagText delta.tag

-- the letter is one, and the node's number is a number of a machine
pub record IsPrintableChild (child : ℕ × ℕ) : Type 0 where
  pub letter : IsLetter child.0
  pub number : child.1 < 2 ^ 64

-- each delta and each child is such
pub record IsPrintable (row : Row) : Type 0 where
  pub deltas : All IsPrintableDelta row.deltas
  pub children : All IsPrintableChild row.children
