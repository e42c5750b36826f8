use Rattle.std.proofs.Common.{◌≡◌}
use Rattle.toml.specs.View.{members_view}
use Rattle.rule_file_definitions.specs.RuleTexts.{has_known_keys}
use Rattle.rule_file.proofs.document.has_known_keys.Given as goal

abbrev pub invariant-loop-key : goal.invariant-loop-key
invariant-loop-key l = has_known_keys (members_view l.key-iterator) ≡ has_known_keys (members_view l.root.entries)
