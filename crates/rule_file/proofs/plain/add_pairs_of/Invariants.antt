use Rattle.std.proofs.Common.{◌≡◌, drop, map}
use Rattle.std.specs.List.Sorted.{IsStrictlySortedBy}
use Rattle.list_laws.specs.RisingSets.{with_elements}
use Rattle.lexicon_definitions.specs.Lexicons.{compare_pairs}
use Rattle.rule_file.proofs.plain.add_pairs_of.Given as goal

abbrev pub invariant-loop-letter : goal.invariant-loop-letter
invariant-loop-letter l = record {
  rising : IsStrictlySortedBy compare_pairs l.pairs.items;
  rest : with_elements compare_pairs l.pairs.items (map (λ y. (l.left, y)) (drop l.letter-index l.right)) ≡ with_elements compare_pairs l.initial.pairs.items (map (λ y. (l.left, y)) l.right);
}
