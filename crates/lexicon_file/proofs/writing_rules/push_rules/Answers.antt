-- One more rule is written.
use Rattle.std.proofs.Common.{map, string_bytes, refl, arith}
use Rattle.lexicon_text_definitions.specs.LexiconTexts.{text_of_lines}
use Rattle.trie_text_definitions.specs.TrieTexts.{rule_line_in}
use Rattle.lexicon_file.specs.Writing.{version_by}
use Rattle.lexicon_file.proofs.LinesWritten.{one_written}
use Rattle.lexicon_file.proofs.writing_rules.push_rules.Goals as goal

pub loop-rule-preserved : goal.loop-rule-preserved
loop-rule-preserved c =
    one_written (λ rules. text_of_lines (map (rule_line_in (version_by c.args.is_limited) (map string_bytes c.args.names.now)) rules)) c.args.rules.now c.loop-rule.rule-index
    c.rule-item.result _ c.loop-rule.out.items _ _ (omega arith) c.rule-item.is refl c.in_ok-push_rule.ensures.ok c.loop-rule.invariant
