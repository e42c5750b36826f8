-- What the refusals of `build` say of the bytes of a source file and of the lexicon of all three.
use Rattle.std.specs.Prelude.{◌≡◌, ℕ, List, Result}
use Rattle.lexicon_definitions.specs.Lexicons.{RuleSet, Lexicon}
use Rattle.morphology_definitions.specs.Inflection.{Class, Stem}
use Rattle.run_definitions.specs.Ends as ends
use Rattle.run_definitions.specs.SourceLexicons.{IsLexiconOf, IsOversized}
use Rattle.run_definitions.specs.BuildOutcomes.{lexicon_fault}
use Rattle.commands.specs.declared.any_error.AnyError.{AnyError}
use Rattle.commands.specs.declared.any_error.AnyError.TheVariants.{Fault, Memory}
use Rattle.commands.specs.Faults.{file_fault}
use Rattle.commands.specs.Sources.{IsRefusedSource}

-- the error is a fault of the file, or memory ran out
abbrev pub IsSourceError : {A Why : Type 0} → (List ℕ → Result A Why → Type 0) → (Why → ends.AnyFault) → List ℕ → AnyError → Type 0
IsSourceError is_read named bytes (Fault fault) = IsRefusedSource is_read named bytes (file_fault fault)
IsSourceError is_read named bytes Memory = Unit {0}

-- the lexicon of the sources is too large
pub record HaveLargeLexicon (rules : RuleSet) (classes : List Class) (stems : List Stem) : Type 0 where
  pub lexicon : Lexicon
  pub is_of : IsLexiconOf rules classes stems lexicon
  pub oversized : IsOversized lexicon

-- the error is that the lexicon is too large, or memory ran out
abbrev pub IsLimitError : RuleSet → List Class → List Stem → AnyError → Type 0
IsLimitError rules classes stems (Fault fault) = (file_fault fault ≡ lexicon_fault) × HaveLargeLexicon rules classes stems
IsLimitError rules classes stems Memory = Unit {0}
