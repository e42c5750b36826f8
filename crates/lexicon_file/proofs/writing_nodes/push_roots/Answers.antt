-- A root has a number, and one more root is written.
use Rattle.std.proofs.Common.{◌∷◌, [], ◌++◌, map, string_bytes, refl, ◌∙◌, arith}
use Rattle.lexicon_text_definitions.specs.LexiconTexts.{text_of_lines}
use Rattle.trie_text_definitions.specs.TrieTexts.{root_line, root_lines}
use Rattle.shared_trie.specs.CanonicalNodes.{number_in}
use Rattle.lexicon_file.proofs.LinesWritten.{both_written}
use Rattle.lexicon_file.proofs.NodesWritten.{root_there}
use Rattle.lexicon_file.proofs.writing_nodes.push_roots.Goals as goal

pub number_of-requires : goal.number_of-requires
number_of-requires c =
    let count = c.requires.count in
    let inside = c.loop-phase-test.true in
    root_there c.args.store.now c.args.numbers.now.nodes c.loop-phase.phase c.root-root.result c.requires.canonical (omega (arith, count, inside)) c.root-root.ensures.value

pub loop-phase-preserved : goal.loop-phase-preserved
loop-phase-preserved c =
    let count = c.requires.count in
    let inside = c.loop-phase-test.true in
    both_written (λ names roots. text_of_lines (root_lines (map string_bytes names) (map (number_in c.args.numbers.now.nodes) roots))) c.args.names.now c.args.store.now.roots
    c.loop-phase.phase c.index-names-phase.result c.root-root.result 0 _ c.loop-phase.out.items _ _ (omega arith) (omega (arith, count, inside)) c.index-names-phase.is
    c.root-root.ensures.value refl (c.in_ok-push_root.ensures.ok ∙ (λ i. c.loop-phase.out.items ++ (root_line (c.as_str.ensures.value i) (c.number_of.ensures i) ++ 10 ∷ [])))
    c.loop-phase.invariant
