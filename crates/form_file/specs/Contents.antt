-- What the contents of a file are as a lexicon, and what the program's faults name.
use Rattle.std.specs.Prelude.{ℕ}
use Rattle.lexicon_definitions.specs.Lexicons.{Lexicon}
use Rattle.lexicon_text_definitions.specs.FileFaults as files
use Rattle.trie_text_definitions.specs.TrieForms.{phases_of}
use Rattle.form_file.specs.declared.contents.Contents.{Contents}
use Rattle.form_file.specs.declared.error.FileFault.{FileFault}
use Rattle.form_file.specs.declared.error.FileError.{FileError}
use Rattle.form_file.specs.declared.error.FileError.TheVariants.{Fault, Memory}
use Rattle.form_file.specs.declared.take_error.TakeError.{TakeError}
use Rattle.form_file.specs.declared.take_error.TakeError.TheVariants.{Why, Memory as WantOfMemory}
use Rattle.form_file.specs.Faults.{why_of}

-- the rule set, and the forms of each phase that the trie tells
abbrev pub lexicon_of : Contents → Lexicon
lexicon_of contents = record { rules = contents.rules; phases = phases_of contents.store }

-- the fault that this one names
abbrev pub fault_of : FileFault → files.FileFault
fault_of fault = record { line = fault.line; why = why_of fault.why }

-- what holds of the fault, where it is not want of memory
abbrev pub IfFault : FileError → (files.FileFault → Type 0) → Type 0
IfFault (Fault fault) P = P (fault_of fault)
IfFault Memory P = Unit {0}

-- the error of the line with this number
abbrev pub error_of : ℕ → TakeError → FileError
error_of line (Why why) = Fault (record { line = line; why = why })
error_of line WantOfMemory = Memory
