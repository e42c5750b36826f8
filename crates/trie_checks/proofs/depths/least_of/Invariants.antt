-- the greatest need of the deltas so far
use Rattle.std.proofs.Common.{map, take}
use Rattle.form_tags.specs.Analyses.{text_delta}
use Rattle.trie_checks.specs.Bounds.{IsGreatest}
use Rattle.trie_checks.specs.NodeDepths.{letters_needed}
use Rattle.trie_checks.proofs.depths.least_of.Given as goal

abbrev pub invariant-loop-delta : goal.invariant-loop-delta
invariant-loop-delta l = IsGreatest letters_needed (map text_delta (take l.delta-index l.deltas)) l.least
