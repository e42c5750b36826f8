-- No node is among those before it.
use Rattle.std.proofs.Common.{ℕ, List, subst, arith}
use Rattle.std.specs.Prelude.{Contains}
use Rattle.shared_trie.proofs.CanonicalSteps.{next_apart}
use Rattle.shared_trie.proofs.canonical.number_lines.Goals as goal

pub push-requires-clause-new : goal.push-requires-clause-new
push-requires-clause-new c =
    λ m. next_apart c.args.numbers.now.nodes c.args.lines.now c.loop-line.line-index c.line-item.result (omega arith) c.line-item.is c.requires.apart
    (subst (λ (ns : List ℕ). Contains ns c.line-item.result.node) c.loop-line.invariant.nodes (subst (Contains c.loop-line.numbers.nodes) c.node.ensures m))
