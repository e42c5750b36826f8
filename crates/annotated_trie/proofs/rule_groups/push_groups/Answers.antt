-- one group more
use Rattle.annotated_trie.proofs.RuleGroupLaws.{AddsGroups-none, AddsGroups-push}
use Rattle.std.proofs.Common.{◌∙◌}
use Rattle.annotated_trie.proofs.rule_groups.push_groups.Goals as goal

pub loop-code-init : goal.loop-code-init
loop-code-init c = AddsGroups-none c.args.firsts.now c.args.list.now c.args.groups.now

pub loop-code-preserved : goal.loop-code-preserved
loop-code-preserved c =
    AddsGroups-push c.args.firsts.now c.args.list.now c.args.groups.now c.loop-code.groups c.push.new.self c.loop-code.code c.as_slice.result.now c.loop-code.invariant
    c.in_ok-push.ensures.ok (c.as_slice.ensures.value ∙ c.in_ok-group.ensures.ok)
