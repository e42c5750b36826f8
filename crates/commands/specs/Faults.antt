-- Which end of a run the status of the program tells, with the fault that it carries.
use Rattle.std.specs.Prelude.{◌≡◌}
use Rattle.run_definitions.specs.Ends as ends
use Rattle.run_definitions.specs.Ends.{End, Outcome}
use Rattle.text_line.specs.Values.{text_fault}
use Rattle.lexicon_file.specs.Contents as files
use Rattle.rule_file.specs.Faults as rules
use Rattle.paradigms.specs.Answers.{table_why, stem_why}
use Rattle.more_schemes.specs.Values.{conversion_fault}
use Rattle.joiner.specs.Faults as chains
use Rattle.derivation.specs.Steps.{keys_meant}
use Rattle.annotation.specs.Readings.{why_of}
use Rattle.commands.specs.declared.status.Status.{Status}
use Rattle.commands.specs.declared.status.Status.TheVariants.{Done, Memory, Usage, ReadFault, WriteFault, BadFile, BadText, TooMuch, BadChain, NoAnswer, Several, BadMark}
use Rattle.commands.specs.declared.status.AnyFault.{AnyFault}
use Rattle.commands.specs.declared.status.AnyFault.TheVariants.{Large, Lexicon, Rules, Tables, Stems, Spelling, Note}

-- the fault of a file, as the definitions name it
abbrev pub file_fault : AnyFault → ends.AnyFault
file_fault Large = ends.Large
file_fault (Lexicon fault) = ends.Lexicon (files.fault_of fault)
file_fault (Rules fault) = ends.Rules (rules.fault_of fault)
file_fault (Tables fault) = ends.Tables (record { number = fault.number; why = table_why fault.why })
file_fault (Stems fault) = ends.Stems (record { number = fault.number; why = stem_why fault.why })
file_fault (Spelling fault) = ends.Spelling (conversion_fault fault)
file_fault (Note why) = ends.Note (why_of why)

-- the status tells this end of a run; want of memory and a fault of the sink are no ends
abbrev pub Tells : Status → End → Type 0
Tells Done end = end ≡ ends.Done
Tells Usage end = end ≡ ends.Usage
Tells ReadFault end = end ≡ ends.ReadFault
Tells (BadFile word fault) end = end ≡ ends.BadFile word (file_fault fault)
Tells (BadText fault) end = end ≡ ends.BadText (text_fault fault)
Tells TooMuch end = end ≡ ends.TooMuch
Tells (BadChain fault) end = end ≡ ends.BadChain (chains.fault_of fault)
Tells NoAnswer end = end ≡ ends.NoAnswer
Tells (Several first second) end = end ≡ ends.Several (keys_meant first.items) (keys_meant second.items)
Tells BadMark end = end ≡ ends.BadMark
Tells Memory end = ⊥
Tells WriteFault end = ⊥

-- the status tells the end of such an outcome
pub record TellsEnd (IsIt : Outcome → Type 0) (status : Status) : Type 0 where
  pub outcome : Outcome
  pub is_it : IsIt outcome
  pub told : Tells status outcome.end
