-- The entry is cut in two sides, and each is read.
use Rattle.std.proofs.Common.{sym, ◌∙◌}
use Rattle.toml.specs.View.{table_view}
use Rattle.lexicon_definitions.specs.Lexicons.{compare_pairs}
use Rattle.list_laws.specs.RisingSets.{with_elements}
use Rattle.rule_file_definitions.specs.PlainEntries.{pairs_between}
use Rattle.rule_file.proofs.PlainLemmas.{no_sides, no_left, no_right, both_sides, not_added, are_added}
use Rattle.rule_file.proofs.plain.add_entry.Goals as goal

pub returns-in_default : goal.returns-in_default
returns-in_default c = not_added _ _ _ (no_sides (table_view c.args.classes.now) c.args.entry.now c.in_default.ensures)

pub returns-in_default-2 : goal.returns-in_default-2
returns-in_default-2 c =
    not_added _ _ _ (no_left (table_view c.args.classes.now) c.args.entry.now c.in-Some.left.now c.in-Some.right.now c.in-Some.ensures (sym c.in_default-2.is ∙ c.in_ok-left.ensures))

pub returns-in_default-3 : goal.returns-in_default-3
returns-in_default-3 c =
    not_added _ _ _ (no_right (table_view c.args.classes.now) c.args.entry.now c.in-Some.left.now c.in-Some.right.now c.in-Some.ensures (sym c.in_default-3.is ∙ c.in_ok-right.ensures))

pub returns : goal.returns
returns c =
    are_added _ _ _ _
    (both_sides (table_view c.args.classes.now) c.args.entry.now c.in-Some.left.now c.in-Some.right.now c.in-Some-2.left c.in-Some-3.right c.in-Some.ensures
    (sym c.in-Some-2.is ∙ c.in_ok-left.ensures) (sym c.in-Some-3.is ∙ c.in_ok-right.ensures))
    (c.in_ok-add_pairs.ensures
    ∙ (λ i. with_elements compare_pairs c.args.pairs.now.items (pairs_between (c.as_slice.ensures.value i) (c.as_slice-2.ensures.value i))))
