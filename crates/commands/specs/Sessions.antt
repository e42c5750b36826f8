-- How a run of `read` ends, which may also read the source, and so that of any command.
use Rattle.std.specs.Prelude.{◌≡◌, ℕ, List, Option, Some}
use Rattle.outside.specs.Counts.{Rose}
use Rattle.outside.specs.Files.{Files}
use Rattle.text_definitions.specs.Schemes.{Scheme}
use Rattle.lexicon_definitions.specs.Lexicons.{Lexicon}
use Rattle.reader_session.specs.declared.serve_end.ServeEnd.{ServeEnd}
use Rattle.reader_session.specs.declared.serve_end.ServeEnd.TheVariants as serve
use Rattle.reader_session.specs.Served.{IsEnd, WroteSession, WroteFront, RepliedToTaken}
use Rattle.run_definitions.specs.Commands.{Command, Read, Batch, FileWord, files_of, out_of}
use Rattle.run_definitions.specs.LexiconTells.{Holds, DoesTell}
use Rattle.run_definitions.specs.Outcomes.{IsOutcomeOf}
use Rattle.commands.specs.declared.status.Status.{Status}
use Rattle.commands.specs.declared.status.Status.TheVariants.{Done, Memory, ReadFault, WriteFault, TooMuch}
use Rattle.commands.specs.RunEnds.{Devices, Ran}
use Rattle.commands.specs.Batches.{RepliesInBatch}

-- how a run ends with the session that it served
abbrev pub status_at : ServeEnd → Status
status_at serve.Done = Done
status_at serve.Memory = Memory
status_at serve.ReadFault = ReadFault
status_at serve.WriteFault = WriteFault
status_at serve.TooMuch = TooMuch

-- what a source tells: the bytes left, and how many reads failed
pub record SourceTold : Type 0 where
  pub left : Option (List ℕ)
  pub faults : ℕ

abbrev pub source_told : Option (List ℕ) → ℕ → SourceTold
source_told left faults = record { left = left; faults = faults }

-- what a sink tells: the bytes written, and how many writes failed
pub record SinkTold : Type 0 where
  pub written : Option (List ℕ)
  pub faults : ℕ

abbrev pub sink_told : Option (List ℕ) → ℕ → SinkTold
sink_told written faults = record { written = written; faults = faults }

-- a session was served over the lexicon, and ended so
pub record HasServed (lexicon : Lexicon) (end : ServeEnd) (source source_now : SourceTold) (sink sink_now : SinkTold)
    : Type 0 where
  pub session : IsEnd end → (input old : List ℕ) → source.left ≡ Some input → sink.written ≡ Some old
      → WroteSession lexicon input old sink_now.written end
  pub prefix : (input : List ℕ) → source.left ≡ Some input → WroteFront lexicon input sink.written sink_now.written
  pub replies : end ≡ serve.ReadFault → (input old : List ℕ) → source.left ≡ Some input → sink.written ≡ Some old
      → RepliedToTaken lexicon input old source_now.left sink_now.written
  pub read_fault : end ≡ serve.ReadFault → Rose source.faults source_now.faults
  pub write_fault : end ≡ serve.WriteFault → Rose sink.faults sink_now.faults

-- a session was served over the lexicon of the file, and no file was written
pub record Serves (lex : FileWord) (result : Status) (old new : Devices) (source source_now : SourceTold) : Type 0 where
  pub lexicon : Lexicon
  pub holds : (told : Files) → old.files ≡ Some told → DoesTell told lex.name (Holds lexicon)
  pub end : ServeEnd
  pub is : result ≡ status_at end
  pub files : new.files ≡ old.files
  pub failed_writes : new.failed_writes ≡ old.failed_writes
  pub served : HasServed lexicon end source source_now (sink_told old.written old.faults) (sink_told new.written new.faults)

-- how a run of a command ends: as one of a command that leaves the source as it is, or with the replies that `batch` wrote, or
-- with the session that `read` served
pub data RanCommand (command : Command) (SourceStays : Type 0) (result : Status) (old new : Devices)
    (source source_now : SourceTold) : Type 0 where
  Apart : SourceStays
      → Ran (λ files outcome. IsOutcomeOf command files source.left outcome) (files_of command) (out_of command) result old new
      → RanCommand command SourceStays result old new source source_now
  InBatch : (lex : FileWord) (scheme : Scheme) (file : FileWord) (count : ℕ) → command ≡ Batch lex scheme file count → SourceStays
      → RepliesInBatch lex scheme file count result old new → RanCommand command SourceStays result old new source source_now
  InSession : (lex : FileWord) → command ≡ Read lex → Serves lex result old new source source_now
      → RanCommand command SourceStays result old new source source_now
