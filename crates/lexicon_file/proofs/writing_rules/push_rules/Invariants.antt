-- What is written and what is left to write are together all that is to be written.
use Rattle.std.proofs.Common.{◌≡◌, ◌++◌, string_bytes, map, drop}
use Rattle.lexicon_text_definitions.specs.LexiconTexts.{text_of_lines}
use Rattle.trie_text_definitions.specs.TrieTexts.{rule_line_in}
use Rattle.lexicon_file.specs.Writing.{version_by}
use Rattle.lexicon_file.proofs.writing_rules.push_rules.Given as goal

abbrev pub invariant-loop-rule : goal.invariant-loop-rule
invariant-loop-rule l =
    l.out.items ++ text_of_lines (map (rule_line_in (version_by l.is_limited) (map string_bytes l.names)) (drop l.rule-index l.rules))
    ≡ l.fn.out.items ++ text_of_lines (map (rule_line_in (version_by l.is_limited) (map string_bytes l.names)) l.rules)
