-- Why a line of a lexicon file of any version is refused (own).
use Rattle.std.specs.Prelude.{ℕ, Result, Ok, Err}
use Rattle.lexicon_definitions.specs.GrammarFaults as grammars
use Rattle.lexicon_definitions.specs.Lexicons.{Lexicon}
use Rattle.lexicon_text_definitions.specs.FileFaults as first
use Rattle.lexicon_text_definitions.specs.FileReadings as readings

-- the reasons, in the order in which a line is tested for them
pub data Why : Type 0 where
  Trailing : Why
  NoEnd : Why
  NotUtf8 : Why
  Head : Why
  Order : Why
  Field : Why
  Spelling : Why
  Strict : Why
  Grammar : (fault : grammars.Fault) → Why
  Child : Why
  Limit : Why
  Twice : Why
  Falling : Why
  Unused : Why
  Delta : Why
  Unlimited : Why

-- the number of a line, counted from 1, and why it is refused
pub record FileFault : Type 0 where
  pub line : ℕ
  pub why : Why

-- the lexicon, or the first fault
abbrev pub FileResult : Type 0
FileResult = Result Lexicon FileFault

abbrev pub fault_at : ℕ → Why → FileResult
fault_at line why = Err (record { line = line; why = why })

-- a reason of version 1 is one of any version
abbrev pub same_why : first.Why → Why
same_why first.Trailing = Trailing
same_why first.NoEnd = NoEnd
same_why first.NotUtf8 = NotUtf8
same_why first.Head = Head
same_why first.Order = Order
same_why first.Field = Field
same_why first.Spelling = Spelling
same_why first.Strict = Strict
same_why (first.Grammar fault) = Grammar fault
same_why first.Limit = Limit
same_why first.Twice = Twice
same_why first.Falling = Falling

-- what version 1 is read as, among what files of any version are
abbrev pub same_result : readings.FileResult → FileResult
same_result (Ok lexicon) = Ok lexicon
same_result (Err fault) = fault_at fault.line (same_why fault.why)
