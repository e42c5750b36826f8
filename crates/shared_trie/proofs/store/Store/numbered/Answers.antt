-- With all levels placed the nodes are in their order.
use Rattle.std.proofs.Common.{◌∙◌, ap, sym, subst, arith}
use Rattle.shared_trie.specs.CanonicalNodes.{ArePlaced, Numbered}
use Rattle.shared_trie.proofs.CanonicalSteps.{nothing_placed, all_placed}
use Rattle.shared_trie.proofs.NumberedTries.{ordered_trie}
use Rattle.shared_trie.proofs.store.Store.numbered.Goals as goal

pub loop-height-init : goal.loop-height-init
loop-height-init c = record {
  count = ap (λ (n : Numbered). n.count) c.in_ok-numbers.ensures.ok ∙ c.len.ensures.value;
  placed = subst (λ (n : Numbered). ArePlaced c.args.self.now 0 n.nodes) (sym c.in_ok-numbers.ensures.ok) (nothing_placed c.args.self.now);
}

pub returns-clause-ok : goal.returns-clause-ok
returns-clause-ok c =
    let past = c.loop-height-test.false in
    all_placed c.args.self.now c.len.ensures.trie c.loop-height.height c.loop-height.numbers.nodes
    (λ node low. (let below = c.count_levels-height-end.ensures node low in omega (arith, past, below))) c.loop-height.invariant.placed

pub returns-clause-ordered : goal.returns-clause-ordered
returns-clause-ordered c =
    λ phases is.
    let past = c.loop-height-test.false in
    ordered_trie c.args.self.now c.loop-height.numbers.nodes phases is
    (all_placed c.args.self.now c.len.ensures.trie c.loop-height.height c.loop-height.numbers.nodes
    (λ node low. (let below = c.count_levels-height-end.ensures node low in omega (arith, past, below))) c.loop-height.invariant.placed)
