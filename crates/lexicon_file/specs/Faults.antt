-- The program's reasons, as the definitions name them, and those of the reader of version 1 among them.
use Rattle.phase_automaton.specs.Faults.{fault_of}
use Rattle.trie_text_definitions.specs.VersionFaults as files
use Rattle.form_file.specs.declared.error.FileWhy as forms
use Rattle.form_file.specs.declared.error.FileWhy.TheVariants as forms_whys
use Rattle.form_file.specs.declared.error.FileError as form_errors
use Rattle.form_file.specs.declared.error.FileError.TheVariants as form_error_cases
use Rattle.form_file.specs.declared.take_error.TakeError as form_take_errors
use Rattle.form_file.specs.declared.take_error.TakeError.TheVariants as form_take_error_cases
use Rattle.lexicon_file.specs.declared.error.FileWhy.{FileWhy}
use Rattle.lexicon_file.specs.declared.error.FileWhy.TheVariants.{Trailing, NoEnd, NotUtf8, Head, Order, Field, Spelling, Strict, Grammar, Child, Limit, Twice, Falling, Unused, Delta, Unlimited}
use Rattle.lexicon_file.specs.declared.error.FileError.{FileError}
use Rattle.lexicon_file.specs.declared.error.FileError.TheVariants.{Fault, Memory}
use Rattle.lexicon_file.specs.declared.take_error.TakeError.{TakeError}
use Rattle.lexicon_file.specs.declared.take_error.TakeError.TheVariants.{Why, Memory as WantOfMemory}

-- the reason that this one names
abbrev pub why_of : FileWhy → files.Why
why_of Trailing = files.Trailing
why_of NoEnd = files.NoEnd
why_of NotUtf8 = files.NotUtf8
why_of Head = files.Head
why_of Order = files.Order
why_of Field = files.Field
why_of Spelling = files.Spelling
why_of Strict = files.Strict
why_of (Grammar fault) = files.Grammar (fault_of fault)
why_of Child = files.Child
why_of Limit = files.Limit
why_of Twice = files.Twice
why_of Falling = files.Falling
why_of Unused = files.Unused
why_of Delta = files.Delta
why_of Unlimited = files.Unlimited

-- a reason of version 1 among those of any version
abbrev pub why_from : forms.FileWhy → FileWhy
why_from forms_whys.Trailing = Trailing
why_from forms_whys.NoEnd = NoEnd
why_from forms_whys.NotUtf8 = NotUtf8
why_from forms_whys.Head = Head
why_from forms_whys.Order = Order
why_from forms_whys.Field = Field
why_from forms_whys.Spelling = Spelling
why_from forms_whys.Strict = Strict
why_from (forms_whys.Grammar fault) = Grammar fault
why_from forms_whys.Limit = Limit
why_from forms_whys.Twice = Twice
why_from forms_whys.Falling = Falling

-- an error of the reader of version 1 among those of any version
abbrev pub error_from : form_errors.FileError → FileError
error_from (form_error_cases.Fault fault) = Fault (record { line = fault.line; why = why_from fault.why })
error_from form_error_cases.Memory = Memory

-- why a line was not taken, as the reader of version 1 says it
abbrev pub take_error_from : form_take_errors.TakeError → TakeError
take_error_from (form_take_error_cases.Why why) = Why (why_from why)
take_error_from form_take_error_cases.Memory = WantOfMemory
