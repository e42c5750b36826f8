-- Lexicons whose newest text is too long for a file (own).
use Rattle.std.specs.Prelude.{ℕ, ◌<◌, List, length}
use Rattle.lexicon_definitions.specs.Lexicons.{Lexicon}
use Rattle.lexicon_text_definitions.specs.declared.limits.TheConstants.{MOST_FILE_BYTES}
use Rattle.trie_text_definitions.specs.VersionTexts.{IsNewestText}

-- the newest text of the lexicon has too many bytes for a file
abbrev pub HasLongText : Lexicon → Type 0
HasLongText lexicon = (bytes : List ℕ) × IsNewestText lexicon bytes × (MOST_FILE_BYTES < length bytes)
