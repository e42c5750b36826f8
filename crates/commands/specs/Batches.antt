-- How a run of `batch` ends.
use Rattle.std.specs.Prelude.{◌≡◌, ℕ, List, [], ◌∷◌, Option, None, Some}
use Rattle.outside.specs.Counts.{Rose}
use Rattle.outside.specs.Files.{Files}
use Rattle.text_definitions.specs.Schemes.{Scheme}
use Rattle.lexicon_definitions.specs.Lexicons.{Lexicon}
use Rattle.batch_reader.specs.Serving.{WroteReplies, WroteFirstReplies}
use Rattle.run_definitions.specs.Commands.{FileWord}
use Rattle.run_definitions.specs.LexiconTells.{Holds, DoesTell}
use Rattle.run_definitions.specs.SourceTells as sources
use Rattle.run_definitions.specs.BatchOutcomes.{TextTells, IsTextOutcome, IsBatchOutcome}
use Rattle.commands.specs.declared.status.Status.{Status}
use Rattle.commands.specs.declared.status.Status.TheVariants.{Done, ReadFault, WriteFault}
use Rattle.commands.specs.Headline.{IsNoFault}
use Rattle.commands.specs.RunEnds.{Devices, Ran}

-- the replies to the lines of a text were written, or where that stopped a prefix of the replies to some first lines
pub record HasReplied (lexicon : Lexicon) (scheme : Scheme) (count : ℕ) (text : List ℕ) (result : Status) (old new : Option (List ℕ))
    (faults now : ℕ) : Type 0 where
  pub done : IsNoFault result → (result ≡ Done) × WroteReplies lexicon scheme count text old new
  pub prefix : WroteFirstReplies lexicon scheme count text old new
  pub read_fault : result ≡ ReadFault → ⊥
  pub write_fault : result ≡ WriteFault → Rose faults now

-- the lines of the text file were replied to over this lexicon, and no file was written
pub record RepliesToText (lexicon : Lexicon) (scheme : Scheme) (file : FileWord) (count : ℕ) (result : Status) (old new : Devices) : Type 0 where
  pub text : List ℕ
  pub tells : (told : Files) → old.files ≡ Some told → TextTells told file.name (sources.Holds text)
  pub files : new.files ≡ old.files
  pub failed_writes : new.failed_writes ≡ old.failed_writes
  pub replied : HasReplied lexicon scheme count text result old.written new.written old.faults new.faults

-- how `batch` goes on with a lexicon: the text file was not read or is refused, or its lines were replied to
pub data RanOverText (lexicon : Lexicon) (scheme : Scheme) (file : FileWord) (count : ℕ) (result : Status) (old new : Devices) : Type 0 where
  NoText : Ran (IsTextOutcome lexicon scheme file count) (file ∷ []) None result old new → RanOverText lexicon scheme file count result old new
  OnText : RepliesToText lexicon scheme file count result old new → RanOverText lexicon scheme file count result old new

-- the lines of the text file were replied to over the lexicon of the file
pub record RepliesInBatch (lex : FileWord) (scheme : Scheme) (file : FileWord) (count : ℕ) (result : Status) (old new : Devices) : Type 0 where
  pub lexicon : Lexicon
  pub holds : (told : Files) → old.files ≡ Some told → DoesTell told lex.name (Holds lexicon)
  pub on_text : RepliesToText lexicon scheme file count result old new

-- how `batch` ends: one of its files was not read or is refused, or the lines of the text were replied to
pub data RanBatch (lex : FileWord) (scheme : Scheme) (file : FileWord) (count : ℕ) (result : Status) (old new : Devices) : Type 0 where
  NoReplies : Ran (IsBatchOutcome lex scheme file count) (lex ∷ file ∷ []) None result old new → RanBatch lex scheme file count result old new
  WithReplies : RepliesInBatch lex scheme file count result old new → RanBatch lex scheme file count result old new
