-- what the parts give is put together
use Rattle.std.proofs.Common.{◌≡◌, ◌<◌, ℕ, List, length, get_or, ◌∙◌, ap, subst, arith}
use Rattle.std.proofs.lemmas.List.{get_or_default}
use Rattle.lexicon_definitions.specs.Rules.{Rule}
use Rattle.annotated_trie.specs.RuleParts.{ArePartRules}
use Rattle.annotated_trie.specs.Suffixes.{AreGroups, AreListsFrom, AreNumbers}
use Rattle.annotated_trie.specs.Views.{list_at}
use Rattle.annotated_trie.proofs.ChoiceLaws.{AreChosen-lists}
use Rattle.annotated_trie.proofs.PartLaws.{AreParts-list, HaveOneU-parts}
use Rattle.annotated_trie.proofs.RuleGroupLaws.{lists_numbered}
use Rattle.annotated_trie.proofs.annotating.choose.Goals as goal

pub part_rules-requires-clause-within : goal.part_rules-requires-clause-within
part_rules-requires-clause-within c k d low =
    let numbers = c.in_ok-numbers.numbers.items in
    let there : k < length numbers = subst (λ (ns : List ℕ). k < length ns) c.as_slice-5.ensures.value low in
    let bound = c.in_ok-numbers.ensures.ok.low k there in
    let here = get_or_default c.as_slice-5.result.now k d 0 low in
    let same = ap (λ (ns : List ℕ). get_or ns k 0) c.as_slice-5.ensures.value in
    let size = c.in_ok-groups.ensures.count in
    let long = ap length c.as_slice-4.ensures.value in
    let count = c.len.ensures.len in
    omega (arith, bound, here, same, size, long, count)

pub returns-clause-numbers : goal.returns-clause-numbers
returns-clause-numbers c =
    let rules = c.args.rules.now in
    let numbers = c.in_ok-numbers.numbers.items in
    let groups = c.in_ok-groups.groups.items in
    let sets = c.in_ok-nodes.nodes.sets.keys in
    let lists = c.in_ok-lists.lists.items in
    let count : length numbers ≡ length rules.rules = c.in_ok-numbers.ensures.ok.count ∙ ap (λ (rs : List Rule). length rs) c.rules.ensures.value in
    let grouped : AreGroups numbers groups = subst (λ (ns : List ℕ). AreGroups ns groups) c.as_slice.ensures.value c.in_ok-groups.ensures.ok in
    let from : AreListsFrom groups sets lists = subst (λ gs. AreListsFrom gs sets lists) c.as_slice-2.ensures.value (subst (λ ss. AreListsFrom c.as_slice-2.result.now ss lists) c.as_slice-3.ensures.keys c.in_ok-lists.ensures.ok) in
    lists_numbered numbers groups sets lists (length rules.rules) count grouped from

pub returns-clause-ok : goal.returns-clause-ok
returns-clause-ok c =
    let rules = c.args.rules.now in
    let suffixes = c.number_rules.new.suffixes.keys in
    let numbers = c.in_ok-numbers.numbers.items in
    let groups = c.in_ok-groups.groups.items in
    let sets = c.in_ok-nodes.nodes.sets.keys in
    let lists = c.in_ok-lists.lists.items in
    let numbered : AreNumbers suffixes rules.rules numbers = subst (λ (rs : List Rule). AreNumbers suffixes rs numbers) c.rules.ensures.value c.in_ok-numbers.ensures.ok in
    let grouped : AreGroups numbers groups = subst (λ (ns : List ℕ). AreGroups ns groups) c.as_slice.ensures.value c.in_ok-groups.ensures.ok in
    let from : AreListsFrom groups sets lists = subst (λ gs. AreListsFrom gs sets lists) c.as_slice-2.ensures.value (subst (λ ss. AreListsFrom c.as_slice-2.result.now ss lists) c.as_slice-3.ensures.keys c.in_ok-lists.ensures.ok) in
    AreChosen-lists suffixes rules c.args.store.now.rows numbers groups sets lists c.in_ok-nodes.nodes.places.items numbered grouped c.in_ok-nodes.ensures.ok from

pub returns-clause-one_u : goal.returns-clause-one_u
returns-clause-one_u c =
    let rules = c.args.rules.now in
    let suffixes = c.number_rules.new.suffixes.keys in
    let numbers = c.in_ok-numbers.numbers.items in
    let groups = c.in_ok-groups.groups.items in
    let part_rules = c.in_ok-part_rules.part_rules in
    let numbered : AreNumbers suffixes rules.rules numbers = subst (λ (rs : List Rule). AreNumbers suffixes rs numbers) c.rules.ensures.value c.in_ok-numbers.ensures.ok in
    let grouped : AreGroups numbers groups = subst (λ (ns : List ℕ). AreGroups ns groups) c.as_slice.ensures.value c.in_ok-groups.ensures.ok in
    let told : ArePartRules groups numbers part_rules = subst (λ (ns : List ℕ). ArePartRules groups ns part_rules) c.as_slice-5.ensures.value
    (subst (λ gs. ArePartRules gs c.as_slice-5.result.now part_rules) c.as_slice-4.ensures.value c.in_ok-part_rules.ensures.ok) in
    HaveOneU-parts numbers groups part_rules grouped told suffixes rules numbered

pub returns-clause-parts : goal.returns-clause-parts
returns-clause-parts c tries place same low =
    let numbers = c.in_ok-numbers.numbers.items in
    let groups = c.in_ok-groups.groups.items in
    let sets = c.in_ok-nodes.nodes.sets.keys in
    let lists = c.in_ok-lists.lists.items in
    let part_rules = c.in_ok-part_rules.part_rules in
    let grouped : AreGroups numbers groups = subst (λ (ns : List ℕ). AreGroups ns groups) c.as_slice.ensures.value c.in_ok-groups.ensures.ok in
    let from : AreListsFrom groups sets lists = subst (λ gs. AreListsFrom gs sets lists) c.as_slice-2.ensures.value (subst (λ ss. AreListsFrom c.as_slice-2.result.now ss lists) c.as_slice-3.ensures.keys c.in_ok-lists.ensures.ok) in
    let told : ArePartRules groups numbers part_rules = subst (λ (ns : List ℕ). ArePartRules groups ns part_rules) c.as_slice-5.ensures.value
    (subst (λ gs. ArePartRules gs c.as_slice-5.result.now part_rules) c.as_slice-4.ensures.value c.in_ok-part_rules.ensures.ok) in
    let count = from.count in
    AreParts-list numbers groups tries grouped (subst (ArePartRules groups numbers) same told) (list_at sets place) (list_at lists place) (from.each place (omega (arith, low, count)))
