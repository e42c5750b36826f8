-- What the program's faults name.
use Rattle.std.specs.Prelude.{ℕ}
use Rattle.trie_text_definitions.specs.VersionFaults as files
use Rattle.lexicon_file.specs.declared.error.FileFault.{FileFault}
use Rattle.lexicon_file.specs.declared.error.FileError.{FileError}
use Rattle.lexicon_file.specs.declared.error.FileError.TheVariants.{Fault, Memory}
use Rattle.lexicon_file.specs.declared.take_error.TakeError.{TakeError}
use Rattle.lexicon_file.specs.declared.take_error.TakeError.TheVariants.{Why, Memory as WantOfMemory}
use Rattle.lexicon_file.specs.Faults.{why_of}

-- the fault that this one names
abbrev pub fault_of : FileFault → files.FileFault
fault_of fault = record { line = fault.line; why = why_of fault.why }

-- what holds of the fault, where it is not want of memory
abbrev pub IfFault : FileError → (files.FileFault → Type 0) → Type 0
IfFault (Fault fault) P = P (fault_of fault)
IfFault Memory P = Unit {0}

-- the error of the line with this number
abbrev pub error_of : ℕ → TakeError → FileError
error_of line (Why why) = Fault (record { line = line; why = why })
error_of line WantOfMemory = Memory
