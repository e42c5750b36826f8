-- what the groups of the numbers so far have
use Rattle.std.proofs.Common.{ℕ, ◌↔◌, take}
use Rattle.std.specs.Prelude.{Contains}
use Rattle.annotated_trie.specs.Suffixes.{IsInGroups}
use Rattle.annotated_trie.proofs.node_choices.gather.Given as goal

abbrev pub invariant-loop-number : goal.invariant-loop-number
invariant-loop-number l =
    (place : ℕ) → Contains l.gathered.items place ↔ IsInGroups l.groups (take l.number-index l.numbers) place
