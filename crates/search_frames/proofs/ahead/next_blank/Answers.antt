-- The blanks that stand after the place are found by a search, and the first of these is the next one.
use Rattle.std.proofs.Common.{◌≡◌, ◌≤◌, ◌∙◌, List, ℕ, All, length, ap, sym, subst, rules}
use Rattle.std.specs.List.Sorted.{IsStrictlyIncreasing}
use Rattle.std.proofs.lemmas.Bool.{ltb-true, ltb-false}
use Rattle.std.proofs.lemmas.List.Sorted.{IsPartitionedBy-leb, IsPartitionPoint-from_clause}
use Rattle.text_definitions.specs.Lines.{Line}
use Rattle.search_frames.specs.Ahead.{IsNextBlank}
use Rattle.search_frames.proofs.AheadBlanks.{no_later_below, none_after, next_after}
use Rattle.search_frames.proofs.ahead.next_blank.Goals as goal
use lib.Dec.{leb}

pub returns-in-None : goal.returns-in-None
returns-in-None c =
    let blanks : c.as_slice-blanks.result.now ≡ c.args.line.now.blanks = c.as_slice-blanks.ensures.value ∙ ap (λ (line : Line). line.blanks) c.line.view_is in
    let at = c.args.at in
    let all = c.as_slice-blanks.result.now in
    let rising : IsStrictlyIncreasing all = rw c.as_slice-blanks.ensures.value c.line.invariant.rising in
    let point = IsPartitionPoint-from_clause (λ blank. leb blank at) all c.partition_point-next.result c.partition_point-next.ensures.partitioned
    (IsPartitionedBy-leb (λ blank. blank) all at (no_later_below all rising)) (λ a r q k. search rules) in
    let past = ltb-false c.partition_point-next.result (length all) (sym c.in-None.ensures.lookup.0) in
    subst (λ (blanks : List ℕ). All (λ blank. blank ≤ at) blanks) blanks (none_after all at c.partition_point-next.result point past)

pub returns-in-Some : goal.returns-in-Some
returns-in-Some c =
    let blanks : c.as_slice-blanks.result.now ≡ c.args.line.now.blanks = c.as_slice-blanks.ensures.value ∙ ap (λ (line : Line). line.blanks) c.line.view_is in
    let at = c.args.at in
    let all = c.as_slice-blanks.result.now in
    let rising : IsStrictlyIncreasing all = rw c.as_slice-blanks.ensures.value c.line.invariant.rising in
    let point = IsPartitionPoint-from_clause (λ blank. leb blank at) all c.partition_point-next.result c.partition_point-next.ensures.partitioned
    (IsPartitionedBy-leb (λ blank. blank) all at (no_later_below all rising)) (λ a r q k. search rules) in
    let there = ltb-true c.partition_point-next.result (length all) (sym c.in-Some.ensures.lookup.0) in
    subst (λ (blanks : List ℕ). IsNextBlank blanks at c.in-Some.blank.now) blanks
    (next_after all at c.partition_point-next.result c.in-Some.blank.now rising point there c.in-Some.ensures.lookup.1)
