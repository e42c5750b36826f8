-- The row is replaced by an empty one.
use Rattle.shared_trie.proofs.PathRows.{row_set}
use Rattle.shared_trie.proofs.open_path.OpenPath.clear.Goals as goal

pub returns : goal.returns
returns c = row_set c.self.inside.rows.items c.args.self.now c.args.depth _ _ c.self.view_is (λ i. record { list = 0; children = c.clear.ensures.items i })
