-- the other lists stay, and the new one goes last
use Rattle.std.proofs.Common.{◌≡◌, ◌++◌, ◌∷◌, [], List, ℕ, length, ◌∙◌, ap, subst, sym, arith}
use Rattle.annotated_trie.specs.RuleGroups.{AreBounds, parts_of}
use Rattle.annotated_trie.proofs.RuleGroupLaws.{bounds_pushed, list_pushed}
use Rattle.annotated_trie.proofs.rule_lists.RuleLists.push.Goals as goal

-- what the two arrays hold, and where the new list ends
module _ (c : goal.In_ok-push) where
  all_rules : c.extend_from_slice.new.self.items ≡ c.self.inside.rules.items ++ c.args.list.now
  all_rules = c.in_ok-extend_from_slice.ensures.items

  all_bounds : c.push.new.self.items ≡ c.self.inside.bounds.items ++ c.len.result ∷ []
  all_bounds = c.in_ok-push.ensures.items ∙ ap (λ (bounds : List ℕ). bounds ++ c.len.result ∷ []) c.in_ok-reserve.ensures.items

  end : c.len.result ≡ length (c.self.inside.rules.items ++ c.args.list.now)
  end =
      let same = ap length all_rules in
      omega (arith, c.len.ensures, same)

pub invariant_of-self-2 : goal.invariant_of-self-2
invariant_of-self-2 c =
    let rules = c.self.inside.rules.items in
    let bounds = bounds_pushed rules c.args.list.now c.len.result (end c) c.self.inside.bounds.items c.self.invariant in
    let count : length c.extend_from_slice.new.self.items ≡ c.len.result = ap length (all_rules c) ∙ sym (end c) in
    subst (AreBounds (length c.extend_from_slice.new.self.items)) (sym (all_bounds c))
    (subst (λ (n : ℕ). AreBounds n (c.self.inside.bounds.items ++ c.len.result ∷ [])) (sym count) bounds)

pub returns : goal.returns
returns c = record {
  ok = (λ i. parts_of (all_rules c i) (all_bounds c i))
      ∙ list_pushed c.self.inside.rules.items c.args.list.now c.len.result (end c) c.self.inside.bounds.items c.self.invariant
      ∙ ap (λ (lists : List (List ℕ)). lists ++ c.args.list.now ∷ []) c.self.view_is;
}
