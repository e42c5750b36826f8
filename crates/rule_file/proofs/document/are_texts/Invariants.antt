use Rattle.std.proofs.Common.{◌≡◌}
use Rattle.toml.specs.View.{members_view}
use Rattle.rule_file_definitions.specs.RuleTexts.{are_texts}
use Rattle.rule_file.proofs.document.are_texts.Given as goal

abbrev pub invariant-loop-member : goal.invariant-loop-member
invariant-loop-member l = are_texts (members_view l.member-iterator) ≡ are_texts (members_view l.members.entries)
