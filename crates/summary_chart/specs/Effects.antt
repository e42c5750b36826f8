-- Rules that do the same after a form, whatever else their u has than its first letter, and which of them were looked at (own).
use Rattle.std.specs.Prelude.{◌≡◌, ℕ, ◌+◌, ◌<◌, ◌≤◌, List, length, take, slice_index_or, Contains}
use Rattle.lexicon_definitions.specs.Lexicons.{RuleSet, rule_of}
use Rattle.summary_chart.specs.declared.same_effect.Effects.{Effects}

-- the rules do the same: they follow the same phases, their u begin with the same letter or are both empty, the same comes next in the line,
-- and the same form may come after them
pub record DoSame (rules : RuleSet) (one other : ℕ) : Type 0 where
  pub begins : take 1 (rule_of rules one).u ≡ take 1 (rule_of rules other).u
  pub before : (rule_of rules one).before ≡ (rule_of rules other).before
  pub w : (rule_of rules one).w ≡ (rule_of rules other).w
  pub v : (rule_of rules one).v ≡ (rule_of rules other).v
  pub after : (rule_of rules one).after ≡ (rule_of rules other).after

-- for each rule, by its number, and for no change, this is a rule that does the same
pub record HaveSameEffect (rules : RuleSet) (same : List ℕ) : Type 0 where
  pub size : length same ≡ length rules.rules + 1
  pub within : (rule : ℕ) → rule ≤ length rules.rules → slice_index_or same rule 0 ≤ length rules.rules
  pub each : (rule : ℕ) → rule ≤ length rules.rules → DoSame rules (slice_index_or same rule 0) rule

-- where a rule stands for another, it does the same, and has a round, which is none that is still to come
pub record AreEffects (rules : RuleSet) (effects : Effects) : Type 0 where
  pub each : (rule : ℕ) → rule < length effects.same.items → DoSame rules (slice_index_or effects.same.items rule 0) rule
  pub within : (rule : ℕ) → rule < length effects.same.items → slice_index_or effects.same.items rule 0 < length effects.seen.items
  pub rounds : (rule : ℕ) → slice_index_or effects.seen.items rule 0 ≤ effects.round

-- for each rule that has this round, one of these that were looked at does the same
abbrev pub HaveLooked : RuleSet → List ℕ → Effects → Type 0
HaveLooked rules looked effects = (rule : ℕ) → rule < length effects.seen.items → slice_index_or effects.seen.items rule 0 ≡ effects.round
    → (one : ℕ) × Contains looked one × DoSame rules one rule
