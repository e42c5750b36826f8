-- The program's reasons, as the definitions name them.
use Rattle.lexicon_text_definitions.specs.FileFaults as file
use Rattle.phase_automaton.specs.Faults.{fault_of}
use Rattle.form_file.specs.declared.error.FileWhy.{FileWhy}
use Rattle.form_file.specs.declared.error.FileWhy.TheVariants.{Trailing, NoEnd, NotUtf8, Head, Order, Field, Spelling, Strict, Grammar, Limit, Twice, Falling}

-- the reason that this one names
abbrev pub why_of : FileWhy → file.Why
why_of Trailing = file.Trailing
why_of NoEnd = file.NoEnd
why_of NotUtf8 = file.NotUtf8
why_of Head = file.Head
why_of Order = file.Order
why_of Field = file.Field
why_of Spelling = file.Spelling
why_of Strict = file.Strict
why_of (Grammar fault) = file.Grammar (fault_of fault)
why_of Limit = file.Limit
why_of Twice = file.Twice
why_of Falling = file.Falling
