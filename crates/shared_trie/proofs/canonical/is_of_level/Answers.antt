-- A marked node is one to which some root leads, and a node has one height.
use Rattle.std.proofs.Common.{◌≡◌, ℕ, true, false, get_or, subst}
use Rattle.shared_trie.proofs.CanonicalSteps.{of_level}
use Rattle.shared_trie.proofs.canonical.is_of_level.Goals as goal

pub returns-then-marks-number : goal.returns-then-marks-number
returns-then-marks-number c =
    of_level c.args.store.now c.requires.trie c.args.marks.now c.requires.marks c.args.node c.args.height c.height.result c.requires.there
    (subst (λ (node : ℕ). get_or c.args.marks.now node false ≡ true) c.number.ensures c.if-marks-number.true) c.height.ensures
