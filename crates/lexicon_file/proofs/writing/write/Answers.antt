-- The parts that are written one after another are the newest text.
use Rattle.std.proofs.Common.{◌∙◌, ◌++◌, ap}
use Rattle.trie_text_definitions.specs.TrieForms.{phases_of}
use Rattle.form_file.specs.Contents.{lexicon_of}
use Rattle.lexicon_file.proofs.WholeTexts.{newest_text}
use Rattle.lexicon_file.proofs.writing.write.Goals as goal

pub returns : goal.returns
returns c = record {
  ok = newest_text (lexicon_of c.args.contents.now) c.args.contents.now.store c.in_ok-numbers.numbers.nodes c.requires.text
      (c.in_ok-numbers.ensures.ordered (phases_of c.args.contents.now.store) c.requires.trie)
      c.in_ok-out.out.items c.in_ok-tail.tail.items c.push_nodes.new.out.items c.extend_from_slice.new.self.items
      c.in_ok-out.ensures.ok c.in_ok-tail.ensures.ok c.in_ok-push_nodes.ensures.ok
      (c.in_ok-extend_from_slice.ensures.items ∙ ap (λ items. c.push_nodes.new.out.items ++ items) c.as_slice.ensures.value);
}
