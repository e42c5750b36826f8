-- the lists are no longer than there are rules, and those at the places of the nodes are their choices
use Rattle.std.proofs.Common.{◌≡◌, ◌-◌, ◌≢◌, ◌<◌, ◌^◌, ℕ, List, [], length, map, sym, ◌∙◌, ap, subst, arith}
use Rattle.std.specs.Prelude.{All}
use Rattle.std.proofs.lemmas.List.Elements.{All-weaker}
use Rattle.lexicon_definitions.specs.Rules.{IsRule, Rule}
use Rattle.annotated_trie.specs.Choices.{AnnotatedTrie, IsAnnotatedTrie, first_letter}
use Rattle.annotated_trie.specs.RuleGroups.{AreGroupedBy, HaveNumbersUpTo}
use Rattle.annotated_trie.specs.Views.{IsMostRules, list_at}
use Rattle.annotated_trie.proofs.ChoiceLaws.{IsAnnotatedTrie-chosen, chosen_few}
use Rattle.annotated_trie.proofs.annotating.annotate.Goals as goal

pub longest_at-most-requires-clause-within : goal.longest_at-most-requires-clause-within
longest_at-most-requires-clause-within c =
    subst (λ ls. All (λ (place : ℕ). place < length ls) c.as_slice-4.result.now) (sym c.as_slice-3.ensures.value)
    (subst (All (λ (place : ℕ). place < length c.in_ok-lists.lists.items)) (sym c.as_slice-4.ensures.value) c.in_ok-lists.ensures.ok.within)

pub longest_at-most-requires-clause-few : goal.longest_at-most-requires-clause-few
longest_at-most-requires-clause-few c =
    let lists = c.in_ok-lists.lists.items in
    let limit = c.in_ok-lists.ensures.rules in
    let few = chosen_few c.args.rules.now c.args.store.rows lists c.in_ok-lists.places.items (2 ^ 32) c.in_ok-lists.ensures.ok (omega (arith, limit)) in
    subst (λ ls. All (λ (place : ℕ). length (list_at ls place) < 2 ^ 32) c.as_slice-4.result.now) (sym c.as_slice-3.ensures.value)
    (subst (All (λ (place : ℕ). length (list_at lists place) < 2 ^ 32)) (sym c.as_slice-4.ensures.value) few)

pub group_lists-requires-clause-strict : goal.group_lists-requires-clause-strict
group_lists-requires-clause-strict c =
    let set = c.rules.ensures.set in
    subst (All (λ (rule : Rule). rule.w ≢ [])) (sym c.rules.ensures.value)
    (All-weaker (IsRule (length c.args.rules.now.names)) (λ (rule : Rule). rule.w ≢ []) (λ rule is. is.strict.1) c.args.rules.now.rules set.each)

pub group_lists-requires-clause-numbers : goal.group_lists-requires-clause-numbers
group_lists-requires-clause-numbers c =
    subst (λ (rules : List Rule). HaveNumbersUpTo (length rules) c.as_slice.result.now) (sym c.rules.ensures.value)
    (subst (HaveNumbersUpTo (length c.args.rules.now.rules)) (sym c.as_slice.ensures.value) c.in_ok-lists.ensures.numbers)

pub cut_lists-requires : goal.cut_lists-requires
cut_lists-requires c =
    let count = c.in_ok-lists.ensures.count in
    let same : length c.args.rules.now.rules ≡ length c.in_ok-lists.part_rules - 1 = omega (arith, count) in
    subst (λ (n : ℕ). HaveNumbersUpTo n c.as_slice-2.result.now) same
    (subst (HaveNumbersUpTo (length c.args.rules.now.rules)) (sym c.as_slice-2.ensures.value) c.in_ok-lists.ensures.numbers)

pub new-requires-clause-groups : goal.new-requires-clause-groups
new-requires-clause-groups c =
    let groups = c.in_ok-groups.groups in
    subst (λ ls. AreGroupedBy groups.firsts.value.items ls groups.lists) c.as_slice.ensures.value c.in_ok-groups.ensures.groups

pub new-requires-clause-places : goal.new-requires-clause-places
new-requires-clause-places c =
    let places = c.in_ok-lists.places.items in
    let most = c.longest_at-most.result in
    record {
      count = c.in_ok-lists.ensures.ok.count;
      within = c.in_ok-lists.ensures.ok.within;
      is_most = subst (λ ls. IsMostRules (map (list_at ls) places) most) c.as_slice-3.ensures.value
          (subst (λ (ps : List ℕ). IsMostRules (map (list_at c.as_slice-3.result.now) ps) most) c.as_slice-4.ensures.value c.longest_at-most.ensures);
      few = c.longest_at-most.type_inv;
    }

pub returns : goal.returns
returns c =
    let rules = c.args.rules.now in
    let firsts = c.in_ok-groups.ensures.firsts ∙ ap (map first_letter) c.rules.ensures.value in
    let is = IsAnnotatedTrie-chosen rules c.args.store c.in_ok-lists.lists.items c.in_ok-lists.places.items c.in_ok-groups.groups.firsts.value.items c.in_ok-lists.part_rules
    c.in_ok-lists.ensures.ok c.in_ok-lists.ensures.trie c.in_ok-lists.ensures.size firsts c.in_ok-lists.ensures.parts c.in_ok-lists.ensures.one_u in
    record { ok = (ap (λ (tries : AnnotatedTrie). tries.trie) c.new.ensures, subst (IsAnnotatedTrie rules) (sym c.new.ensures) is) }
