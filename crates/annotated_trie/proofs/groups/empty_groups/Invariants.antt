-- so many lists, all of them empty
use Rattle.std.proofs.Common.{◌≡◌, ℕ, [], length}
use Rattle.annotated_trie.specs.Views.{list_at}
use Rattle.annotated_trie.proofs.groups.empty_groups.Given as goal

abbrev pub invariant-loop : goal.invariant-loop
invariant-loop l =
    record {
      count : length l.groups.items ≡ l.counter;
      none : (number : ℕ) → list_at l.groups.items number ≡ [];
    }
