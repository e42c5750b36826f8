-- The versions of lexicon files that tell a trie, by their first line, and which rules each of them may have (own).
use Rattle.std.specs.Prelude.{ℕ, ◌&&◌, ◌==◌, ◌||◌, Bool, if◌then◌else◌, Option, Some, None, List, [], ◌∷◌, codes, All, Contains}
use Rattle.std.specs.Str.{bytes_eq}
use Rattle.list_laws.specs.EmptyLists.{is_empty}
use Rattle.lexicon_definitions.specs.Rules.{Rule, IsUnlimited, all_phases}
use Rattle.lexicon_text_definitions.specs.FileLines.{Line, lines_of_bytes}

-- version 2 has unlimited rules alone, and version 3 a limited one at least
pub data Version : Type 0 where
  Second : Version
  Third : Version

-- the first line
abbrev pub head_line : Version → List ℕ
head_line Second = codes "slx 2"
head_line Third = codes "slx 3"

-- the version that a first line tells; None is version 1, and any line that is no first line
abbrev pub version_told : Line → Option Version
version_told line =
    if line.ended && bytes_eq line.bytes (head_line Second) then Some Second
    else if line.ended && bytes_eq line.bytes (head_line Third) then Some Third
    else None

-- the version of a file, by its first line
abbrev pub version_of_lines : List Line → Option Version
version_of_lines [] = None
version_of_lines (line ∷ lines) = version_told line

unfoldable pub version_of : List ℕ → Option Version
version_of bytes = version_of_lines (lines_of_bytes bytes)

-- the rule is unlimited over so many phases
abbrev pub is_unlimited : ℕ → Rule → Bool
is_unlimited count rule = rule.before == all_phases count && (is_empty rule.v || rule.after == all_phases count)

-- these rules over so many phases may stand in the version
abbrev pub HasRulesOf : Version → ℕ → List Rule → Type 0
HasRulesOf Second count rules = All (IsUnlimited count) rules
HasRulesOf Third count rules = (rule : Rule) × Contains rules rule × (IsUnlimited count rule → ⊥)
