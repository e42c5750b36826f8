-- Why a rule file is refused (own).
use Rattle.std.specs.Prelude.{ℕ}
use Rattle.lexicon_definitions.specs.GrammarFaults as grammars
use Rattle.rule_file_definitions.specs.EntryWhys as entries

-- The faults, in the order in which a file is tested for them. A number is that of an entry, counted from 1; classes are
-- counted by rising name. Phase 0 is a file that names no phase.
pub data Fault : Type 0 where
  Toml : Fault
  Shape : Fault
  Phase : (number : ℕ) → Fault
  Class : (number : ℕ) → Fault
  Plain : (number : ℕ) → Fault
  Rule : (number : ℕ) → (why : entries.Why) → Fault
  Grammar : (fault : grammars.Fault) → Fault
