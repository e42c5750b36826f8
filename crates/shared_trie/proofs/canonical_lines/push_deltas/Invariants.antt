-- So far the deltas up to the one after the index are listed.
use Rattle.std.proofs.Common.{◌+◌, take}
use Rattle.form_tags.specs.Analyses.{text_delta}
use Rattle.trie_text_definitions.specs.NodeLines.{delta_text}
use Rattle.trie_text_definitions.specs.PrintableRows.{IsPrintableDelta}
use Rattle.shared_trie.proofs.ListedTexts.{AreListed}
use Rattle.shared_trie.proofs.canonical_lines.push_deltas.Given as goal

abbrev pub invariant-loop-delta : goal.invariant-loop-delta
invariant-loop-delta l = AreListed text_delta delta_text IsPrintableDelta l.fn.out.items l.out.items (take (l.delta-index + 1) l.deltas)
