-- what goes on as one of the numbers so far was appended
use Rattle.std.proofs.Common.{ℕ, ◌↔◌, ◌⊎◌, take}
use Rattle.std.specs.Prelude.{Contains}
use Rattle.annotated_trie.specs.Suffixes.{GoesOn}
use Rattle.annotated_trie.proofs.node_suffixes.add_longer.Given as goal

abbrev pub invariant-loop-rest : goal.invariant-loop-rest
invariant-loop-rest l =
    (number : ℕ) → Contains l.numbers.items number
    ↔ (Contains l.fn.numbers.items number ⊎ GoesOn l.suffixes.keys l.letter (take l.rest-index l.rests) number)
