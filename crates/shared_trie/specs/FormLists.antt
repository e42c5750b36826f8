-- What holds of the forms of all phases, as they are told entry by entry.
use Rattle.std.specs.Prelude.{◌<◌, ◌^◌, List, length, All}
use Rattle.lexicon_definitions.specs.Lexicons.{Form}
use Rattle.lexicon_definitions.specs.Limits.{count_lines}
use Rattle.lexicon_definitions.specs.FormEntries.{IsListedPhase}

-- each phase is a rising list of forms with rising analyses, and no form or stem is too long; phases and lines have numbers of 32 bits
pub record AreFormLists (lists : List (List Form)) : Type 0 where
  pub each : All IsListedPhase lists
  pub phases : length lists < 2 ^ 32
  pub lines : count_lines lists < 2 ^ 32
