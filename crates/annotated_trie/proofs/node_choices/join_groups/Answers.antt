-- sorting and leaving out repetitions keep the elements
use Rattle.std.proofs.Common.{eqb}
use Rattle.std.proofs.lemmas.List.Filters.{dedup_is}
use Rattle.annotated_trie.proofs.GroupLaws.{IsListFrom-sorted}
use Rattle.annotated_trie.proofs.node_choices.join_groups.Goals as goal

pub returns : goal.returns
returns c =
    record {
      ok = IsListFrom-sorted c.args.groups.now c.args.numbers.now c.in_ok-joined.joined.items c.sort_unstable.new.self.items c.dedup.new.self.items
          c.in_ok-joined.ensures.members c.sort_unstable.ensures.permutation c.sort_unstable.ensures.sorted
          (dedup_is eqb c.sort_unstable.new.self.items c.dedup.new.self.items c.dedup.ensures.filtered);
    }
