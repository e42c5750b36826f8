-- The first fault that a reader of source files answers is why the file is refused.
use Rattle.std.proofs.Common.{ℕ, ◌≤◌, List, length, Err, refl, ap}
use Rattle.lexicon_text_definitions.specs.declared.limits.TheConstants.{MOST_FILE_BYTES}
use Rattle.morphology_definitions.specs.Inflection.{Class}
use Rattle.rule_file_definitions.specs.RuleFileReadings.{IsReadAs}
use Rattle.paradigm_file_definitions.specs.TableFiles.{tables_of}
use Rattle.paradigm_file_definitions.specs.StemFiles.{stems_of}
use Rattle.rule_file.specs.Faults.{fault_of, IfFault}
use Rattle.rule_file.specs.declared.error.RuleError.{RuleError}
use Rattle.rule_file.specs.declared.error.RuleError.TheVariants as rules
use Rattle.paradigms.specs.Answers.{table_why, stem_why, IsTableFault, IsStemFault}
use Rattle.paradigms.specs.declared.errors.TableError.{TableError}
use Rattle.paradigms.specs.declared.errors.TableError.TheVariants as tables
use Rattle.paradigms.specs.declared.errors.StemError.{StemError}
use Rattle.paradigms.specs.declared.errors.StemError.TheVariants as stems
use Rattle.run_definitions.specs.Ends as ends
use Rattle.run_definitions.specs.BuildOutcomes.{AreTables, AreStems}
use Rattle.lexicon_text_definitions.specs.FileLines.{lines_of_bytes}
use Rattle.conversion_definitions.specs.AnySchemes.{AnyScheme}
use Rattle.conversion_definitions.specs.Conversions.{converted_text}
use Rattle.more_schemes.specs.declared.convert_error.ConvertError.{ConvertError}
use Rattle.more_schemes.specs.declared.convert_error.ConvertError.TheVariants as conversion
use Rattle.more_schemes.specs.Values.{conversion_fault, IsConvertFaultOf}
use Rattle.run_definitions.specs.ConvertOutcomes.{with_count, IsConversion}
use Rattle.lexicon_definitions.specs.Lexicons.{Lexicon}
use Rattle.note_definitions.specs.NoteReadings.{IsNoteRead}
use Rattle.annotation.specs.declared.read_error.ReadNoteError.{ReadNoteError}
use Rattle.annotation.specs.declared.read_error.ReadNoteError.TheVariants as note
use Rattle.annotation.specs.Readings.{why_of, IsNoteReadAs}
use Rattle.commands.specs.Refusals.{error_of_rules, error_of_tables, error_of_stems, error_of_conversion, error_of_note}
use Rattle.commands.specs.Sources.{Faulty}
use Rattle.commands.specs.SourceErrors.{IsSourceError}

pub rules_error : (bytes : List ℕ) (error : RuleError) → length bytes ≤ MOST_FILE_BYTES → IfFault error (λ fault. IsReadAs bytes (Err fault))
    → IsSourceError IsReadAs ends.Rules bytes (error_of_rules error)
rules_error bytes (rules.Fault fault) low read = Faulty low (fault_of fault) read refl
rules_error bytes rules.Memory low read = tt

pub tables_error : (phases : List (List ℕ)) (bytes : List ℕ) (error : TableError) → length bytes ≤ MOST_FILE_BYTES
    → IsTableFault (tables_of phases bytes) error → IsSourceError (AreTables phases) ends.Tables bytes (error_of_tables error)
tables_error phases bytes (tables.Fault fault) low read = Faulty low (record { number = fault.number; why = table_why fault.why }) read refl
tables_error phases bytes tables.Memory low read = tt

pub stems_error : (classes : List Class) (bytes : List ℕ) (error : StemError) → length bytes ≤ MOST_FILE_BYTES
    → IsStemFault (stems_of classes bytes) error → IsSourceError (AreStems classes) ends.Stems bytes (error_of_stems error)
stems_error classes bytes (stems.Fault fault) low read = Faulty low (record { number = fault.number; why = stem_why fault.why }) read refl
stems_error classes bytes stems.Memory low read = tt

pub conversion_error : (from to : AnyScheme) (bytes : List ℕ) (error : ConvertError) → length bytes ≤ MOST_FILE_BYTES
    → IsConvertFaultOf error (converted_text from to bytes) → IsSourceError (IsConversion from to) ends.Spelling bytes (error_of_conversion error)
conversion_error from to bytes (conversion.Fault fault) low read =
    Faulty low (conversion_fault fault) (ap (with_count (length (lines_of_bytes bytes))) read) refl
conversion_error from to bytes conversion.Memory low read = tt

pub note_error : (lexicon : Lexicon) (bytes : List ℕ) (error : ReadNoteError) → length bytes ≤ MOST_FILE_BYTES
    → IsNoteReadAs lexicon bytes (Err error) → IsSourceError (IsNoteRead lexicon) ends.Note bytes (error_of_note error)
note_error lexicon bytes (note.Fault why) low read = Faulty low (why_of why) read refl
note_error lexicon bytes note.Memory low read = tt
