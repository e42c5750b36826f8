-- the list lies between its bound and the next
use Rattle.std.proofs.Common.{◌≤◌, List, ℕ, length, ◌∙◌, ap, arith}
use Rattle.std.specs.Prelude.{slice_range}
use Rattle.annotated_trie.proofs.RuleGroupLaws.{bounds_there, list_read}
use Rattle.annotated_trie.proofs.rule_lists.RuleLists.get.Goals as goal

-- the bound where the list begins, and the next, are a part of the rules
module _ (c : goal.After-deref) where
  order : c.index-start.result.now ≤ c.index-stop.result.now
  order = (list_read c.self.inside.rules.items c.self.inside.bounds.items c.args.self.now c.args.place c.index-start.result.now c.index-stop.result.now
      c.self.view_is c.requires c.self.invariant c.index-start.ensures c.index-stop.ensures).0

  within : c.index-stop.result.now ≤ length c.deref.result.now
  within =
      let read = list_read c.self.inside.rules.items c.self.inside.bounds.items c.args.self.now c.args.place c.index-start.result.now c.index-stop.result.now
      c.self.view_is c.requires c.self.invariant c.index-start.ensures c.index-stop.ensures in
      let low = read.1 in
      let same = ap length c.deref.ensures.value in
      omega (arith, low, same)

pub index-start-requires : goal.index-start-requires
index-start-requires c =
    omega (arith, bounds_there c.self.inside.rules.items c.self.inside.bounds.items c.args.self.now c.args.place c.self.view_is c.requires)

pub overflow_add-place : goal.overflow_add-place
overflow_add-place c =
    let there = bounds_there c.self.inside.rules.items c.self.inside.bounds.items c.args.self.now c.args.place c.self.view_is c.requires in
    let small = c.self.inside.bounds.small in
    omega (arith, there, small)

pub index-stop-requires : goal.index-stop-requires
index-stop-requires c =
    omega (arith, bounds_there c.self.inside.rules.items c.self.inside.bounds.items c.args.self.now c.args.place c.self.view_is c.requires)

pub offset_bounds-deref-start : goal.offset_bounds-deref-start
offset_bounds-deref-start c =
    let size = c.deref.type_inv.1 in
    omega (arith, order c, within c, size)

pub slice_bounds-result-count : goal.slice_bounds-result-count
slice_bounds-result-count c = order c

pub slice_bounds-result-start : goal.slice_bounds-result-start
slice_bounds-result-start c = order c

pub slice_bounds-result-end : goal.slice_bounds-result-end
slice_bounds-result-end c = within c

pub returns : goal.returns
returns c =
    let start = c.index-start.result.now in
    let stop = c.index-stop.result.now in
    ap (λ (rules : List ℕ). slice_range rules start stop) c.deref.ensures.value
    ∙ (list_read c.self.inside.rules.items c.self.inside.bounds.items c.args.self.now c.args.place start stop c.self.view_is c.requires c.self.invariant
    c.index-start.ensures c.index-stop.ensures).2
