-- The parts that are written one after another are the text of version 1.
use Rattle.std.proofs.Common.{◌∙◌, ◌++◌, map}
use Rattle.lexicon_text_definitions.specs.LexiconTexts.{text_of_lines, forms_lines}
use Rattle.trie_text_definitions.specs.TrieForms.{phases_of}
use Rattle.trie_text_definitions.specs.TrieTexts.{rule_line_in}
use Rattle.trie_text_definitions.specs.Versions.{Second}
use Rattle.form_file.specs.Contents.{lexicon_of}
use Rattle.lexicon_file.proofs.WholeTexts.{first_text}
use Rattle.lexicon_file.proofs.writing.write_v1.Goals as goal

pub returns : goal.returns
returns c = record {
  ok = first_text (lexicon_of c.args.contents.now) c.in_ok-out.out.items c.push_front.new.out.items c.push_rules.new.out.items c.push_all_forms.new.out.items
      c.extend_from_slice.new.self.items c.requires.text c.in_ok-out.ensures.items c.in_ok-push_front.ensures.ok
      (c.in_ok-push_rules.ensures.ok ∙ (λ i. c.push_front.new.out.items ++ text_of_lines (map (rule_line_in Second (c.phases-names.ensures i)) (c.rules.ensures.value i))))
      (c.in_ok-push_all_forms.ensures.ok ∙ (λ i. c.push_rules.new.out.items ++ text_of_lines (forms_lines (c.phases-names.ensures i) (phases_of c.args.contents.now.store))))
      c.in_ok-extend_from_slice.ensures.items;
}
