-- the groups have the places of the numbers so far
use Rattle.std.proofs.Common.{◌≡◌, length, take}
use Rattle.annotated_trie.specs.Suffixes.{AreGroups}
use Rattle.annotated_trie.proofs.groups.group_places.Given as goal

abbrev pub invariant-loop-number : goal.invariant-loop-number
invariant-loop-number l =
    record {
      count : length l.groups.items ≡ l.count;
      place : l.place ≡ l.number-index;
      groups : AreGroups (take l.number-index l.numbers) l.groups.items;
    }
