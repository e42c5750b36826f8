-- The lengths of the parts tell that of the text.
use Rattle.std.proofs.Common.{ℕ, List, ◌∙◌, ◌++◌, map, ap, arith}
use Rattle.lexicon_text_definitions.specs.LexiconTexts.{text_of_lines}
use Rattle.trie_text_definitions.specs.NodeLines.{node_line}
use Rattle.trie_text_definitions.specs.TrieForms.{phases_of}
use Rattle.shared_trie.specs.CanonicalNodes.{rows_of_nodes}
use Rattle.form_file.specs.Contents.{lexicon_of}
use Rattle.lexicon_file.proofs.WholeTexts.{too_long, not_too_long}
use Rattle.lexicon_file.proofs.writing.write_within.Goals as goal
use Rattle.lexicon_file.proofs.writing.write_within.Goals.{then-len-most-via-then-len-most, then-len-most-via-else-len-most+then-len-most-2}

pub returns-then-len-most : goal.returns-then-len-most
returns-then-len-most c = record {
  ok = too_long (lexicon_of c.args.contents.now) c.args.contents.now.store c.in_ok-numbers.numbers.nodes c.requires.text
      (c.in_ok-numbers.ensures.ordered (phases_of c.args.contents.now.store) c.requires.trie)
      c.in_ok-out.out.items c.in_ok-tail.tail.items c.args.most c.in_ok-out.ensures.ok c.in_ok-tail.ensures.ok
      (elim c.then-len-most.branch [
        | then-len-most-via-then-len-most w ↦ let head = c.len.ensures in let over = w.if-len-most.true in omega (arith, head, over)
        | then-len-most-via-else-len-most+then-len-most-2 w ↦
            let tail = w.len-else-len-most.ensures in let head = w.len-else-len-most-2.ensures in let over = w.if-len-most-2.true in omega (arith, tail, head, over)
      ]);
}

pub returns-in_default : goal.returns-in_default
returns-in_default c = record {
  ok = too_long (lexicon_of c.args.contents.now) c.args.contents.now.store c.in_ok-numbers.numbers.nodes c.requires.text
      (c.in_ok-numbers.ensures.ordered (phases_of c.args.contents.now.store) c.requires.trie)
      c.in_ok-out.out.items c.in_ok-tail.tail.items c.args.most c.in_ok-out.ensures.ok c.in_ok-tail.ensures.ok
      (let head = c.len-2.ensures in let tail = c.len-3.ensures in let over = rw c.in_default.is at c.in_ok-len.ensures.ok in omega (arith, head, tail, over));
}

pub returns : goal.returns
returns c = record {
  ok = not_too_long (lexicon_of c.args.contents.now) c.args.contents.now.store c.in_ok-numbers.numbers.nodes c.requires.text
      (c.in_ok-numbers.ensures.ordered (phases_of c.args.contents.now.store) c.requires.trie)
      c.in_ok-out.out.items c.in_ok-tail.tail.items c.push_nodes.new.out.items c.extend_from_slice.new.self.items c.args.most
      c.in_ok-out.ensures.ok c.in_ok-tail.ensures.ok
      (c.in_ok-push_nodes.ensures.ok
      ∙ ap (λ (items : List ℕ). items ++ text_of_lines (map node_line (rows_of_nodes c.args.contents.now.store.rows c.in_ok-numbers.numbers.nodes))) c.in_ok-reserve.ensures.items)
      (c.in_ok-extend_from_slice.ensures.items ∙ ap (λ items. c.push_nodes.new.out.items ++ items) c.as_slice.ensures.value)
      (let head = c.len-2.ensures in let tail = c.len-3.ensures in let found = rw c.in-Some.is at c.in_ok-len.ensures.ok in
      let is = found.0 in let few = found.1 in let one = c.len.ensures in let inside = c.if-len-most.false in let other = c.len-else-len-most.ensures in
      let same = c.len-else-len-most-2.ensures in let within = c.if-len-most-2.false in
      omega (arith, head, tail, is, few, one, inside, other, same, within));
}
