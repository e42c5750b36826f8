-- there are no lists
use Rattle.std.proofs.Common.{◌≡◌, ◌++◌, ◌∷◌, [], List, ℕ, ◌∙◌, ap}
use Rattle.annotated_trie.proofs.RuleGroupLaws.{no_lists}
use Rattle.annotated_trie.proofs.rule_lists.RuleLists.new.Goals as goal

pub invariant_of-result : goal.invariant_of-result
invariant_of-result c =
    let only : c.push.new.self.items ≡ 0 ∷ [] = c.in_ok-push.ensures.items ∙ ap (λ (bounds : List ℕ). bounds ++ 0 ∷ []) c.new-bounds.ensures.items in
    (no_lists c.new.result.items c.push.new.self.items c.new.ensures.items only).0

pub returns : goal.returns
returns c =
    let only : c.push.new.self.items ≡ 0 ∷ [] = c.in_ok-push.ensures.items ∙ ap (λ (bounds : List ℕ). bounds ++ 0 ∷ []) c.new-bounds.ensures.items in
    record { ok = (no_lists c.new.result.items c.push.new.self.items c.new.ensures.items only).1 }
