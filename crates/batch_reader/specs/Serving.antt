-- What the replies to the lines of a text leave in a sink.
use Rattle.std.specs.Prelude.{◌≡◌, ℕ, List, ◌++◌, Option}
use Rattle.outside.specs.Told.{bytes_after, GrowsByPrefix}
use Rattle.text_definitions.specs.Schemes.{Scheme}
use Rattle.lexicon_definitions.specs.Lexicons.{Lexicon}
use Rattle.lexicon_text_definitions.specs.FileLines.{lines_of_bytes}
use Rattle.run_definitions.specs.BatchOutcomes.{AreNumberedReplies, AreFirstReplies}

-- the replies to all lines were written
pub record WroteReplies (lexicon : Lexicon) (scheme : Scheme) (count : ℕ) (text : List ℕ) (old new : Option (List ℕ)) : Type 0 where
  pub output : List ℕ
  pub replies : AreNumberedReplies lexicon scheme count 1 (lines_of_bytes text) output
  pub wrote : new ≡ bytes_after old output

-- a prefix was written of the replies to some of the first lines
pub record WroteFirstReplies (lexicon : Lexicon) (scheme : Scheme) (count : ℕ) (text : List ℕ) (old new : Option (List ℕ)) : Type 0 where
  pub output : List ℕ
  pub replies : AreFirstReplies lexicon scheme count text output
  pub grown : GrowsByPrefix old new output

-- the first of the bytes that were to be written were written, and these are left
pub record WroteFront (old new : Option (List ℕ)) (bytes left : List ℕ) : Type 0 where
  pub written : List ℕ
  pub whole : bytes ≡ written ++ left
  pub wrote : new ≡ bytes_after old written
