-- The new node has the next number, and the others have theirs.
use Rattle.std.proofs.Common.{◌≡◌, ◌<◌, ◌∙◌, ◌++◌, [], ◌∷◌, ℕ, List, length, sym, subst}
use Rattle.std.specs.Prelude.{Contains, slice_set}
use Rattle.shared_trie.specs.CanonicalNodes.{AreNumbered, Numbered}
use Rattle.shared_trie.proofs.MarkSteps.{numbered_push}
use Rattle.shared_trie.proofs.node_numbers.NodeNumbers.push.Goals as goal

pub invariant_of-self : goal.invariant_of-self
invariant_of-self c = subst (λ (nodes : List ℕ). AreNumbered nodes c.self.inside.numbers.items) (sym c.in_err-push.ensures.items) c.self.invariant

pub invariant_of-self-2 : goal.invariant_of-self-2
invariant_of-self-2 c =
    let low : c.args.node < length c.self.inside.numbers.items = subst (λ (n : Numbered). c.args.node < n.count) (sym c.self.view_is) c.requires.there in
    let new = λ (m : Contains c.self.inside.nodes.items c.args.node). c.requires.new (subst (λ (n : Numbered). Contains n.nodes c.args.node) c.self.view_is m) in
    let next : c.len-number.result ≡ length c.self.inside.nodes.items = c.len-number.ensures ∙ c.self.inside.nodes.ok.0 in
    let more = numbered_push c.self.inside.nodes.items c.self.inside.numbers.items c.args.node c.self.invariant low new in
    subst (λ (nodes : List ℕ). AreNumbered nodes (slice_set c.self.inside.numbers.items c.number.result c.len-number.result)) (sym c.in_ok-push.ensures.items)
    (subst (λ (k : ℕ). AreNumbered (c.self.inside.nodes.items ++ c.args.node ∷ []) (slice_set c.self.inside.numbers.items k c.len-number.result)) (sym c.number.ensures)
    (subst (λ (k : ℕ). AreNumbered (c.self.inside.nodes.items ++ c.args.node ∷ []) (slice_set c.self.inside.numbers.items c.args.node k)) (sym next) more))
