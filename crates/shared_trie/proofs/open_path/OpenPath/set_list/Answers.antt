-- The row has the same children.
use Rattle.std.proofs.Common.{sym}
use Rattle.shared_trie.proofs.PathRows.{row_read, row_set}
use Rattle.shared_trie.proofs.open_path.OpenPath.set_list.Goals as goal

pub returns : goal.returns
returns c =
    let read = row_read c.self.inside.rows.items c.args.self.now c.args.depth c.index_mut-row.result.now c.self.view_is c.index_mut-row.ensures.value c.requires in
    row_set c.self.inside.rows.items c.args.self.now c.args.depth _ _ c.self.view_is (λ i. record { list = c.args.list; children = (sym read i).children })
