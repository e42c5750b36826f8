-- The program's faults, as the definitions name them.
use Rattle.std.specs.Prelude.{◌≡◌, ℕ, List}
use Rattle.lexicon_definitions.specs.GrammarFaults as grammars
use Rattle.lexicon_definitions.specs.GrammarFaults.{IsFirstFault}
use Rattle.phase_automaton.specs.Faults as automata
use Rattle.rule_file_definitions.specs.EntryWhys as entries
use Rattle.rule_file_definitions.specs.RuleFileFaults as files
use Rattle.rule_file.specs.declared.error.RuleWhy.{RuleWhy}
use Rattle.rule_file.specs.declared.error.RuleWhy.TheVariants as whys
use Rattle.rule_file.specs.declared.error.RuleFault.{RuleFault}
use Rattle.rule_file.specs.declared.error.RuleFault.TheVariants.{Toml, Shape, Phase, Class, Plain, Rule, Grammar}
use Rattle.rule_file.specs.declared.error.RuleError.{RuleError}
use Rattle.rule_file.specs.declared.error.RuleError.TheVariants.{Fault, Memory}
use Rattle.rule_file.specs.declared.entry_error.EntryError.{EntryError}
use Rattle.rule_file.specs.declared.entry_error.EntryError.TheVariants.{Why, Memory as WantOfMemory}

-- the reason that this one names
abbrev pub why_of : RuleWhy → entries.Why
why_of whys.Shape = entries.Shape
why_of whys.Spelling = entries.Spelling
why_of whys.Class = entries.Class
why_of whys.Phase = entries.Phase
why_of whys.Strict = entries.Strict
why_of whys.Long = entries.Long
why_of whys.Twice = entries.Twice
why_of whys.Limit = entries.Limit

-- the fault that this one names
abbrev pub fault_of : RuleFault → files.Fault
fault_of Toml = files.Toml
fault_of Shape = files.Shape
fault_of (Phase number) = files.Phase number
fault_of (Class number) = files.Class number
fault_of (Plain number) = files.Plain number
fault_of (Rule number why) = files.Rule number (why_of why)
fault_of (Grammar fault) = files.Grammar (automata.fault_of fault)

-- what holds of the fault, where it is not want of memory
abbrev pub IfFault : RuleError → (files.Fault → Type 0) → Type 0
IfFault (Fault fault) P = P (fault_of fault)
IfFault Memory P = Unit {0}

-- what holds of the reason, where it is not want of memory
abbrev pub IfWhy : EntryError → (entries.Why → Type 0) → Type 0
IfWhy (Why why) P = P (why_of why)
IfWhy WantOfMemory P = Unit {0}

-- the fault is this error's, of the entry with this number
abbrev pub IsFaultOf : files.Fault → ℕ → EntryError → Type 0
IsFaultOf fault number (Why why) = fault ≡ files.Rule number (why_of why)
IsFaultOf fault number WantOfMemory = ⊥

-- the fault is the first one of the grammar's text
abbrev pub IsGrammarFault : List (List ℕ) → List ℕ → files.Fault → Type 0
IsGrammarFault names text fault =
    (first : grammars.Fault) × IsFirstFault names text first × (fault ≡ files.Grammar first)
