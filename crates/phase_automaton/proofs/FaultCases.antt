-- What holds of a fault, by cases on the error.
use Rattle.lexicon_definitions.specs.GrammarFaults as text
use Rattle.phase_automaton.specs.declared.fault.GrammarError.{GrammarError}
use Rattle.phase_automaton.specs.declared.fault.GrammarError.TheVariants.{Fault, Memory}
use Rattle.phase_automaton.specs.Faults.{fault_of, IfFault}

pub if_fault_weaker : (e : GrammarError) (P Q : text.Fault → Type 0) → ((fault : text.Fault) → P fault → Q fault) → IfFault e P → IfFault e Q
if_fault_weaker (Fault fault) P Q weaker h = weaker (fault_of fault) h
if_fault_weaker Memory P Q weaker h = tt
