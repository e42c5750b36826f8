-- Why a line of a lexicon file is refused (own).
use Rattle.std.specs.Prelude.{ℕ}
use Rattle.lexicon_definitions.specs.GrammarFaults.{Fault}

-- the reasons, in the order in which a line is tested for them
pub data Why : Type 0 where
  Trailing : Why
  NoEnd : Why
  NotUtf8 : Why
  Head : Why
  Order : Why
  Field : Why
  Spelling : Why
  Strict : Why
  Grammar : (fault : Fault) → Why
  Limit : Why
  Twice : Why
  Falling : Why

-- the number of a line, counted from 1, and why it is refused
pub record FileFault : Type 0 where
  pub line : ℕ
  pub why : Why
