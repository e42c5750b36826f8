-- The rules below the first one come first, since they rise.
use Rattle.std.proofs.Common.{◌≤◌, ◌↔◌, ℕ, List, sym, subst, rules}
use Rattle.std.specs.Prelude.{Contains}
use Rattle.std.specs.Ordering.{nat_cmp}
use Rattle.std.specs.List.Sorted.{IsStrictlySortedBy}
use Rattle.std.proofs.lemmas.List.{take_rest}
use Rattle.std.proofs.lemmas.List.Sorted.{IsPartitionedBy-ltb, IsPartitionPoint-from_clause}
use Rattle.search_frames.proofs.RisingRules.{no_later_less, left_rises, rule_left}
use Rattle.search_frames.proofs.turning.rules_from.Goals as goal
use lib.Dec.{ltb}

pub returns-clause-left : goal.returns-clause-left
returns-clause-left c rule =
    let group = c.args.group.now in
    let first = c.args.first in
    let place = c.partition_point-place.result in
    let point = IsPartitionPoint-from_clause (λ other. ltb other first) group place c.partition_point-place.ensures.partitioned
    (IsPartitionedBy-ltb (λ other. other) group first (no_later_less group c.requires)) (λ a r q k. search rules) in
    subst (λ (left : List ℕ). Contains left rule ↔ (Contains group rule × (first ≤ rule))) (sym (take_rest group place)) (rule_left group c.requires first place point rule)

pub returns-clause-rising : goal.returns-clause-rising
returns-clause-rising c =
    let group = c.args.group.now in
    let place = c.partition_point-place.result in
    subst (IsStrictlySortedBy nat_cmp) (sym (take_rest group place)) (left_rises group c.requires place)
