-- The program's faults as the faults of a grammar text.
use Rattle.lexicon_definitions.specs.GrammarFaults as text
use Rattle.phase_automaton.specs.declared.fault.GrammarFault.{GrammarFault}
use Rattle.phase_automaton.specs.declared.fault.GrammarFault.TheVariants.{Long, Syntax, UnknownPhase, Places, States}
use Rattle.phase_automaton.specs.declared.fault.GrammarError.{GrammarError}
use Rattle.phase_automaton.specs.declared.fault.GrammarError.TheVariants.{Fault, Memory}

-- the fault that this one names
abbrev pub fault_of : GrammarFault → text.Fault
fault_of Long = text.Long
fault_of (Syntax at) = text.Syntax at
fault_of (UnknownPhase at) = text.UnknownPhase at
fault_of Places = text.Places
fault_of States = text.States

-- what holds of the fault, where it is not want of memory
abbrev pub IfFault : GrammarError → (text.Fault → Type 0) → Type 0
IfFault (Fault fault) P = P (fault_of fault)
IfFault Memory P = Unit {0}
