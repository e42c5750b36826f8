-- the least end of the deltas so far
use Rattle.std.proofs.Common.{map, take}
use Rattle.form_tags.specs.Analyses.{text_delta}
use Rattle.trie_checks.specs.Bounds.{IsLeastEnd}
use Rattle.trie_checks.specs.NodeDepths.{letters_end}
use Rattle.trie_checks.proofs.depths.end_of.Given as goal

abbrev pub invariant-loop-delta : goal.invariant-loop-delta
invariant-loop-delta l = IsLeastEnd letters_end (map text_delta (take l.delta-index l.deltas)) l.end
