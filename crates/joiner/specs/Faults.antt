-- The program's faults of a chain's text, as the definitions name them.
use Rattle.std.specs.Prelude.{◌≡◌, ℕ, List, Result, Ok, Err}
use Rattle.std.specs.Global.{Vec}
use Rattle.segmentation_definitions.specs.Derivations.{Step}
use Rattle.lexicon_definitions.specs.Lexicons.{Lexicon}
use Rattle.chain_definitions.specs.ChainFaults as faults
use Rattle.chain_definitions.specs.ChainReadings.{IsChainRead}
use Rattle.joiner.specs.declared.chain_fault.ChainWhy.{ChainWhy}
use Rattle.joiner.specs.declared.chain_fault.ChainWhy.TheVariants.{Shape, Phase, Form, Rule, Barred, Meet}
use Rattle.joiner.specs.declared.chain_fault.ChainFault.{ChainFault}
use Rattle.joiner.specs.declared.chain_fault.ChainError.{ChainError}
use Rattle.joiner.specs.declared.chain_fault.ChainError.TheVariants.{Fault, Memory}

-- the reason that this one names
abbrev pub why_of : ChainWhy → faults.Why
why_of Shape = faults.Shape
why_of Phase = faults.Phase
why_of Form = faults.Form
why_of Rule = faults.Rule
why_of Barred = faults.Barred
why_of Meet = faults.Meet

-- the fault that this one names
abbrev pub fault_of : ChainFault → faults.Fault
fault_of fault = record { step = fault.step; why = why_of fault.why }

-- the error is the first fault of the text over the lexicon, or memory ran out
abbrev pub IsChainFault : ChainError → Lexicon → List ℕ → Type 0
IsChainFault (Fault fault) lexicon text = IsChainRead lexicon text (Err (fault_of fault))
IsChainFault Memory lexicon text = Unit {0}

-- the answer is the step, or the first reason why there is none
abbrev pub IsNamedAs : Result Step ChainWhy → Result Step faults.Why → Type 0
IsNamedAs (Ok link) told = told ≡ Ok link
IsNamedAs (Err why) told = told ≡ Err (why_of why)

-- the answer is the steps, or the fault of the first that is none, or memory ran out
abbrev pub AreNamedAs : Result (Vec Step) ChainError → Result (List Step) faults.Fault → Type 0
AreNamedAs (Ok links) told = told ≡ Ok links.items
AreNamedAs (Err (Fault fault)) told = told ≡ Err (fault_of fault)
AreNamedAs (Err Memory) told = Unit {0}
