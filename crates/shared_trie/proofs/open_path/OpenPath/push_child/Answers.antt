-- The row has one child more.
use Rattle.std.proofs.Common.{◌++◌, ◌∷◌, [], sym, ◌∙◌, ap}
use Rattle.shared_trie.specs.OpenPaths.{PathRow}
use Rattle.shared_trie.proofs.PathRows.{row_read, row_set}
use Rattle.shared_trie.proofs.open_path.OpenPath.push_child.Goals as goal

pub returns : goal.returns
returns c =
    let read = row_read c.self.inside.rows.items c.args.self.now c.args.depth c.index_mut-row.result.now c.self.view_is c.index_mut-row.ensures.value c.requires in
    row_set c.self.inside.rows.items c.args.self.now c.args.depth _ _ c.self.view_is
    (λ i. record { list = (sym read i).list; children = (c.in_ok-push.ensures.items ∙ ap (λ (row : PathRow). row.children ++ (c.args.letter, c.args.node) ∷ []) (sym read)) i })
