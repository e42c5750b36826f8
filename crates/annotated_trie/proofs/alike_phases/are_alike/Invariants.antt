-- No rule so far tells the phases apart.
use Rattle.std.proofs.Common.{◌↔◌, All, take}
use Rattle.lexicon_definitions.specs.Rules.{Rule, HasPhase}
use Rattle.annotated_trie.proofs.alike_phases.are_alike.Given as goal

abbrev pub invariant-loop-rule : goal.invariant-loop-rule
invariant-loop-rule l = All (λ (rule : Rule). HasPhase rule.before l.one ↔ HasPhase rule.before l.other) (take l.rule-index l.rules.rules)
