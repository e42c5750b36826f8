-- Phases that no rule tells apart (own).
use Rattle.std.specs.Prelude.{ℕ, ◌≤◌, ◌<◌, ◌↔◌, List, All, slice_index_or}
use Rattle.lexicon_definitions.specs.Lexicons.{RuleSet}
use Rattle.lexicon_definitions.specs.Rules.{Rule, HasPhase}

-- each rule may follow forms of both phases, or of neither
abbrev pub IsAlike : RuleSet → ℕ → ℕ → Type 0
IsAlike rules one other = All (λ (rule : Rule). HasPhase rule.before one ↔ HasPhase rule.before other) rules.rules

-- each of these is such a phase for the one that has its number, and for so many phases it is the first one
pub record AreAlike (rules : RuleSet) (count : ℕ) (firsts : List ℕ) : Type 0 where
  pub alike : (phase : ℕ) → IsAlike rules (slice_index_or firsts phase phase) phase
  pub first : (phase other : ℕ) → phase < count → IsAlike rules other phase → slice_index_or firsts phase phase ≤ other
