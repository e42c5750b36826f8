-- What a session has replied to where its input could not be read to the end.
use Rattle.std.specs.Prelude.{◌≡◌, ℕ, List, Option, Some}
use Rattle.outside.specs.Files.{Files}
use Rattle.lexicon_definitions.specs.Lexicons.{Lexicon}
use Rattle.reader_session.specs.Served.{RepliedToTaken}
use Rattle.run_definitions.specs.Arguments.{FileWord}
use Rattle.run_definitions.specs.LexiconTells.{Holds, DoesTell}

-- nothing was taken of the input, and nothing written; or just the replies to all complete lines among the bytes that were
-- taken, over the lexicon of the file
pub data IsRepliedTo (lex : FileWord) (files : Files) (input old : List ℕ) (left written : Option (List ℕ)) : Type 0 where
  Untouched : left ≡ Some input → written ≡ Some old → IsRepliedTo lex files input old left written
  Taken : (lexicon : Lexicon) → DoesTell files lex.name (Holds lexicon) → RepliedToTaken lexicon input old left written
      → IsRepliedTo lex files input old left written
