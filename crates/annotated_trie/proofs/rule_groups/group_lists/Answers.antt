-- the groups of one list more
use Rattle.std.proofs.Common.{◌≡◌, ◌+◌, ◌++◌, ◌∷◌, [], List, ℕ, length, take, sym, ◌∙◌, ap, subst}
use Rattle.std.specs.Global.{Vec}
use Rattle.std.specs.Prelude.{All}
use Rattle.std.proofs.lemmas.List.{length-map, take_all, take_more}
use Rattle.annotated_trie.specs.Choices.{first_letter}
use Rattle.annotated_trie.specs.RuleGroups.{AddsGroups, AreGroupedBy, IsNumberUpTo}
use Rattle.annotated_trie.proofs.RuleGroupLaws.{AreGroupedBy-none, AreGroupedBy-push}
use Rattle.annotated_trie.proofs.rule_groups.group_lists.Goals as goal

pub loop-list-init : goal.loop-list-init
loop-list-init c = AreGroupedBy-none c.as_slice-letters.result.now c.in_ok-groups.groups c.in_ok-groups.ensures.ok

pub push_groups-requires : goal.push_groups-requires
push_groups-requires c =
    let k = c.loop-list.list-index in
    let list = c.list-item.result in
    let letters = c.as_slice-letters.result.now in
    let long : length letters ≡ length c.args.rules.now =
    ap length c.as_slice-letters.ensures.value ∙ ap length c.in_ok-firsts.ensures.ok ∙ length-map c.args.rules.now first_letter in
    let numbers = c.requires.numbers k list c.loop-list-test.true in
    subst (λ (n : ℕ). All (IsNumberUpTo n) c.as_slice.result.now) (sym long)
    (subst (All (IsNumberUpTo (length c.args.rules.now))) (sym (c.as_slice.ensures.value ∙ ap (λ (l : Vec ℕ). l.items) c.list-item.is)) numbers)

pub loop-list-preserved : goal.loop-list-preserved
loop-list-preserved c =
    let lists = c.args.lists.now in
    let k = c.loop-list.list-index in
    let list = c.list-item.result in
    let letters = c.as_slice-letters.result.now in
    let longer : take (k + 1) lists ≡ take k lists ++ list ∷ [] =
    take_more lists k list c.loop-list-test.true ∙ ap (λ (l : Vec ℕ). take k lists ++ l ∷ []) (sym c.list-item.is) in
    let adds : AddsGroups letters list.items c.loop-list.groups c.push_groups.new.groups 51 =
    subst (λ (l : List ℕ). AddsGroups letters l c.loop-list.groups c.push_groups.new.groups 51) c.as_slice.ensures.value c.in_ok-push_groups.ensures.ok in
    subst (λ ls. AreGroupedBy letters ls c.push_groups.new.groups) (sym longer)
    (AreGroupedBy-push letters (take k lists) list c.loop-list.groups c.push_groups.new.groups c.loop-list.invariant adds)

pub returns-clause-groups : goal.returns-clause-groups
returns-clause-groups c =
    let lists = c.args.lists.now in
    let letters = c.as_slice-letters.result.now in
    let whole : AreGroupedBy letters lists c.loop-list.groups =
    subst (λ ls. AreGroupedBy letters ls c.loop-list.groups) (take_all c.loop-list.list-index lists c.loop-list-test.false) c.loop-list.invariant in
    subst (λ (fs : List ℕ). AreGroupedBy fs lists c.loop-list.groups) (c.as_slice-letters.ensures.value ∙ ap (λ (v : Vec ℕ). v.items) (sym c.of.ensures)) whole
