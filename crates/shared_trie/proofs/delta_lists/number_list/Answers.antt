-- the list that is stored at the place is equal, so it has the same deltas
use Rattle.std.proofs.Common.{refl}
use Rattle.std.specs.Cmp.Lexicographic.{pointwise}
use Rattle.std.proofs.lemmas.Slice.Eq.{slice_eq-Decides}
use Rattle.form_tags.specs.contracts.delta.DeltaPartialEq.TheImpl.{eq-value as delta_eq}
use Rattle.shared_trie.proofs.PackedRows.{number_stored}
use Rattle.shared_trie.proofs.RowEquality.{delta_decides}
use Rattle.shared_trie.proofs.delta_lists.number_list.Goals as goal

pub returns-clause-ok : goal.returns-clause-ok
returns-clause-ok c =
    let (stored, at, same) = c.in-Ok.ensures.stored in
    let deltas = c.args.deltas.items in
    number_stored c.insert_full.new.self.keys c.args.deltas stored c.in-Ok.place at
    ((slice_eq-Decides delta_decides deltas stored.items (pointwise delta_eq.it deltas stored.items) refl).0 same)
