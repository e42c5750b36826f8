-- what a letter finds is a child of the node, and children have smaller numbers
use Rattle.std.proofs.Common.{◌≡◌, rules, subst}
use Rattle.lexicon_definitions.specs.Tries.{IsTrie, child_in}
use Rattle.lexicon_definitions.proofs.TrieChildren.{before-child_in}
use Rattle.shared_trie.proofs.store.Store.child.Goals as goal

pub returns-clause-before : goal.returns-clause-before
returns-clause-before g c =
    let trie : IsTrie c.args.self.now = subst IsTrie c.self.view_is c.self.invariant.0 in
    let value : c.child.result ≡ child_in c.args.self.now.rows c.args.node c.args.letter = search rules in
    before-child_in c.args.self.now.rows c.args.node c.args.letter c.child.result trie.rows c.requires value
