-- At first no phase has a form.
use Rattle.shared_trie.proofs.BuilderStages.{built_first}
use Rattle.shared_trie.proofs.store_builder.StoreBuilder.new.Goals as goal

pub invariant_of-result : goal.invariant_of-result
invariant_of-result c =
    built_first c.nothing_told.result.value c.args.phases c.in_ok-begin.field-0.value c.requires c.nothing_told.ensures (c.in_ok-begin.ensures c.args.phases)
