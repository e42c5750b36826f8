-- No phase so far is alike.
use Rattle.std.proofs.Common.{ℕ, ◌<◌}
use Rattle.annotated_trie.specs.AlikePhases.{IsAlike}
use Rattle.annotated_trie.proofs.alike_phases.first_alike.Given as goal

abbrev pub invariant-loop-earlier : goal.invariant-loop-earlier
invariant-loop-earlier l = (other : ℕ) → other < l.earlier → IsAlike l.rules other l.phase → ⊥
