-- The deltas with the first numbers.
use Rattle.std.proofs.Common.{◌≡◌, map, take}
use Rattle.form_tags.specs.Analyses.{text_delta}
use Rattle.shared_trie.specs.DeltaNumbers.{delta_of}
use Rattle.shared_trie.proofs.delta_numbers.DeltaNumbers.list.Given as goal

abbrev pub invariant-loop-number : goal.invariant-loop-number
invariant-loop-number l = map text_delta l.list.items ≡ map (delta_of l.self) (take l.number-index l.numbers)
