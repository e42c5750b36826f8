-- What `build` reads in the bytes of its source files, and what it makes of them.
use Rattle.std.specs.Prelude.{◌≡◌, ℕ, ◌<◌, ◌≤◌, List, length, Result, Ok, Err, string_bytes}
use Rattle.lexicon_definitions.specs.Lexicons.{RuleSet, Lexicon}
use Rattle.lexicon_text_definitions.specs.declared.limits.TheConstants.{MOST_FILE_BYTES}
use Rattle.morphology_definitions.specs.Inflection.{Class, Stem}
use Rattle.paradigm_file_definitions.specs.TableFiles.{tables_of}
use Rattle.rule_file_definitions.specs.RuleFileReadings.{IsReadAs}
use Rattle.trie_text_definitions.specs.VersionTexts.{IsNewestText}
use Rattle.run_definitions.specs.Ends.{AnyFault, Large}
use Rattle.run_definitions.specs.SourceLexicons.{IsLexiconOf}
use Rattle.run_definitions.specs.BuildOutcomes.{printed_build}
use Rattle.commands.specs.declared.build.Built.{Built}

-- the bytes of a source file are not too many, and this is read in them
pub record HoldsSource {A Fault : Type 0} (is_read : List ℕ → Result A Fault → Type 0) (bytes : List ℕ) (held : A) : Type 0 where
  pub within : length bytes ≤ MOST_FILE_BYTES
  pub read : is_read bytes (Ok held)

-- the bytes of a source file are refused for this reason: they are too many, or this is the first fault that is read in them
pub data IsRefusedSource {A Fault : Type 0} (is_read : List ℕ → Result A Fault → Type 0) (named : Fault → AnyFault) (bytes : List ℕ)
    (why : AnyFault) : Type 0 where
  TooLarge : MOST_FILE_BYTES < length bytes → why ≡ Large → IsRefusedSource is_read named bytes why
  Faulty : length bytes ≤ MOST_FILE_BYTES → (fault : Fault) → is_read bytes (Err fault) → why ≡ named fault
      → IsRefusedSource is_read named bytes why

-- the rule set was read in a rule file
abbrev pub AreReadRules : RuleSet → Type 0
AreReadRules rules = (bytes : List ℕ) × IsReadAs bytes (Ok rules)

-- the classes were read in a table file over the phases of the rule set
abbrev pub AreReadTables : RuleSet → List Class → Type 0
AreReadTables rules classes = (bytes : List ℕ) × (tables_of rules.names bytes ≡ Ok classes)

-- this is the newest text of the lexicon of the sources, which is not too large, and what is printed of it
pub record IsBuilt (rules : RuleSet) (classes : List Class) (stems : List Stem) (built : Built) : Type 0 where
  pub lexicon : Lexicon
  pub is_of : IsLexiconOf rules classes stems lexicon
  pub text : IsNewestText lexicon built.text.items
  pub within : length built.text.items ≤ MOST_FILE_BYTES
  pub output : string_bytes built.output ≡ printed_build lexicon
