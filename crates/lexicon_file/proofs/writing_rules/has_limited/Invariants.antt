-- So far no rule is limited.
use Rattle.std.proofs.Common.{take}
use Rattle.std.specs.Prelude.{All}
use Rattle.lexicon_definitions.specs.Rules.{IsUnlimited}
use Rattle.lexicon_file.proofs.writing_rules.has_limited.Given as goal

abbrev pub invariant-loop-rule : goal.invariant-loop-rule
invariant-loop-rule l = All (IsUnlimited l.count) (take l.rule-index l.rules)
