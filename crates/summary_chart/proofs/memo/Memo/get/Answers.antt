-- What stands at the place is kept, so it is work of the trie.
use Rattle.std.proofs.Common.{rules}
use Rattle.summary_chart.specs.Memos.{IsKnown}
use Rattle.summary_chart.proofs.memo.Memo.get.Goals as goal

pub is_same_work-requires-clause-one : goal.is_same_work-requires-clause-one
is_same_work-requires-clause-one c =
    let known : IsKnown c.args.self.now c.in-Some-Some.done = search rules in
    c.requires.works c.in-Some-Some.done known
