-- The nodes that are counted are those of an ordered trie of the phases.
use Rattle.std.proofs.Common.{ℕ, List, length, ap, ◌∙◌}
use Rattle.std.proofs.lemmas.List.{length-map}
use Rattle.trie_text_definitions.specs.TrieForms.{phases_of}
use Rattle.shared_trie.specs.CanonicalNodes.{trie_of_nodes}
use Rattle.run_definitions.specs.MigrateOutcomes.{printed_nodes}
use Rattle.commands.proofs.MigrateRuns.{nodes_counted}
use Rattle.commands.proofs.migrate.print_nodes.Goals as goal

pub returns : goal.returns
returns c = record {
  ok = nodes_counted (phases_of c.args.store.now) (trie_of_nodes c.args.store.now c.in_ok-nodes.nodes.items) (length c.in_ok-nodes.nodes.items) _
      (c.in_ok-nodes.ensures.ordered (phases_of c.args.store.now) c.requires) (length-map _ _)
      (c.in_ok-line.ensures.ok ∙ ap (λ (nodes : List ℕ). printed_nodes (length nodes)) c.as_slice.ensures.value);
}
