-- No u so far is longer.
use Rattle.std.proofs.Common.{◌≤◌, All, length, take}
use Rattle.lexicon_definitions.specs.Rules.{Rule}
use Rattle.strictness.proofs.phase_walk.longest_of_all.Given as goal

abbrev pub invariant-loop-rule : goal.invariant-loop-rule
invariant-loop-rule l = All (λ (rule : Rule). length rule.u ≤ l.longest) (take l.rule-index l.rule-items)
