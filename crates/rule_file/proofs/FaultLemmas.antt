-- What holds of a fault holds of whatever follows from it.
use Rattle.rule_file_definitions.specs.EntryWhys as entries
use Rattle.rule_file_definitions.specs.RuleFileFaults as files
use Rattle.rule_file.specs.declared.error.RuleError.{RuleError}
use Rattle.rule_file.specs.declared.error.RuleError.TheVariants.{Fault, Memory}
use Rattle.rule_file.specs.declared.entry_error.EntryError.{EntryError}
use Rattle.rule_file.specs.declared.entry_error.EntryError.TheVariants.{Why, Memory as WantOfMemory}
use Rattle.rule_file.specs.Faults.{fault_of, why_of, IfFault, IfWhy}

pub with_fault : (error : RuleError) (P Q : files.Fault → Type 0) → ((fault : files.Fault) → P fault → Q fault) → IfFault error P → IfFault error Q
with_fault (Fault fault) P Q h p = h (fault_of fault) p
with_fault Memory P Q h p = tt

pub with_why : (error : EntryError) (P Q : entries.Why → Type 0) → ((why : entries.Why) → P why → Q why) → IfWhy error P → IfWhy error Q
with_why (Why why) P Q h p = h (why_of why) p
with_why WantOfMemory P Q h p = tt
