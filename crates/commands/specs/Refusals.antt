-- How the refusals of a part are those of the whole; want of memory stays what it is.
use Rattle.lexicon_file.specs.declared.error.FileError.{FileError}
use Rattle.lexicon_file.specs.declared.error.FileError.TheVariants as file
use Rattle.rule_file.specs.declared.error.RuleError.{RuleError}
use Rattle.rule_file.specs.declared.error.RuleError.TheVariants as rules
use Rattle.paradigms.specs.declared.errors.TableError.{TableError}
use Rattle.paradigms.specs.declared.errors.TableError.TheVariants as tables
use Rattle.paradigms.specs.declared.errors.StemError.{StemError}
use Rattle.paradigms.specs.declared.errors.StemError.TheVariants as stems
use Rattle.paradigms.specs.declared.errors.StemWhy.TheVariants.{Limit}
use Rattle.more_schemes.specs.declared.convert_error.ConvertError.{ConvertError}
use Rattle.more_schemes.specs.declared.convert_error.ConvertError.TheVariants as conversion
use Rattle.annotation.specs.declared.read_error.ReadNoteError.{ReadNoteError}
use Rattle.annotation.specs.declared.read_error.ReadNoteError.TheVariants as note
use Rattle.lexicon_builder.specs.declared.error.BuildError.{BuildError}
use Rattle.lexicon_builder.specs.declared.error.BuildError.TheVariants as built
use Rattle.commands.specs.declared.status.AnyFault.TheVariants as fault_is
use Rattle.commands.specs.declared.any_error.AnyError.{AnyError}
use Rattle.commands.specs.declared.any_error.AnyError.TheVariants as any

-- a fault of the lexicon file
abbrev pub error_of_file : FileError → AnyError
error_of_file (file.Fault fault) = any.Fault (fault_is.Lexicon fault)
error_of_file file.Memory = any.Memory

-- a fault of the rule file
abbrev pub error_of_rules : RuleError → AnyError
error_of_rules (rules.Fault fault) = any.Fault (fault_is.Rules fault)
error_of_rules rules.Memory = any.Memory

-- a fault of the table file
abbrev pub error_of_tables : TableError → AnyError
error_of_tables (tables.Fault fault) = any.Fault (fault_is.Tables fault)
error_of_tables tables.Memory = any.Memory

-- a fault of the stem file
abbrev pub error_of_stems : StemError → AnyError
error_of_stems (stems.Fault fault) = any.Fault (fault_is.Stems fault)
error_of_stems stems.Memory = any.Memory

-- a fault of a text
abbrev pub error_of_conversion : ConvertError → AnyError
error_of_conversion (conversion.Fault fault) = any.Fault (fault_is.Spelling fault)
error_of_conversion conversion.Memory = any.Memory

-- a fault of a note
abbrev pub error_of_note : ReadNoteError → AnyError
error_of_note (note.Fault why) = any.Fault (fault_is.Note why)
error_of_note note.Memory = any.Memory

-- a lexicon that is too large, as a fault of the stem file that no record has
abbrev pub error_of_lexicon : BuildError → AnyError
error_of_lexicon built.Limit = any.Fault (fault_is.Stems (record { number = 0; why = Limit }))
error_of_lexicon built.Memory = any.Memory
