-- What the file under a name tells as a lexicon file of any version (own).
use Rattle.std.specs.Prelude.{◌≡◌, ℕ, ◌<◌, ◌≤◌, List, length, Some, None, Ok, Err}
use Rattle.outside.specs.Files.{Files, contents_of}
use Rattle.lexicon_definitions.specs.Lexicons.{Lexicon}
use Rattle.lexicon_text_definitions.specs.declared.limits.TheConstants.{MOST_FILE_BYTES}
use Rattle.trie_text_definitions.specs.VersionFaults.{FileFault}
use Rattle.trie_text_definitions.specs.VersionReadings.{IsReadAs}
use Rattle.run_definitions.specs.Ends as ends
use Rattle.run_definitions.specs.Ends.{AnyFault, Large}

-- what a file of this name tells: that it is not there, that it is too large, its first fault, or its lexicon
pub data FileTells : Type 0 where
  NotThere : FileTells
  Refused : (fault : AnyFault) → FileTells
  Holds : (lexicon : Lexicon) → FileTells

-- the file under the name tells this
pub data DoesTell (files : Files) (name : List ℕ) (tells : FileTells) : Type 0 where
  IsMissing : contents_of files name ≡ None → tells ≡ NotThere → DoesTell files name tells
  IsLarge : (bytes : List ℕ) → contents_of files name ≡ Some bytes → MOST_FILE_BYTES < length bytes → tells ≡ Refused Large
      → DoesTell files name tells
  IsFaulty : (bytes : List ℕ) → contents_of files name ≡ Some bytes → length bytes ≤ MOST_FILE_BYTES → (fault : FileFault)
      → IsReadAs bytes (Err fault) → tells ≡ Refused (ends.Lexicon fault) → DoesTell files name tells
  IsLexicon : (bytes : List ℕ) → contents_of files name ≡ Some bytes → length bytes ≤ MOST_FILE_BYTES → (lexicon : Lexicon)
      → IsReadAs bytes (Ok lexicon) → tells ≡ Holds lexicon → DoesTell files name tells
