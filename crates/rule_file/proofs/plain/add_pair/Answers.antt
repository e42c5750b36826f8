-- The search finds the pair, or the place where it goes.
use Rattle.std.proofs.Common.{◌≡◌, ◌∙◌, sym, subst}
use Rattle.std.specs.List.{insert}
use Rattle.std.specs.List.Sorted.{IsStrictlySortedBy}
use Rattle.lexicon_definitions.specs.Lexicons.{compare_pairs}
use Rattle.list_laws.specs.RisingSets.{with_element}
use Rattle.list_laws.proofs.RisingSetLaws.{with_element_at, with_element_found}
use Rattle.rule_file.proofs.plain.add_pair.Goals as goal
use Rattle.lexicon_definitions.proofs.PlainPairs.{pairs_total, pairs_exact}

pub returns-in_ok-insert : goal.returns-in_ok-insert
returns-in_ok-insert c =
    let s = subst (IsStrictlySortedBy compare_pairs) (sym c.deref.ensures.value) c.requires in
    let there = with_element_at pairs_total pairs_exact c.deref.result.now c.args.pair.now c.in-Err.at s c.in-Err.ensures.bound c.in-Err.ensures.position in
    c.in_ok-insert.ensures.items
    ∙ sym (subst (λ pairs. with_element compare_pairs pairs c.args.pair.now ≡ insert pairs c.in-Err.at c.args.pair.now) c.deref.ensures.value there)

pub returns-in_default : goal.returns-in_default
returns-in_default c =
    let s = subst (IsStrictlySortedBy compare_pairs) (sym c.deref.ensures.value) c.requires in
    let there = with_element_found pairs_total pairs_exact c.deref.result.now c.args.pair.now c.in_default.field-0 s c.in_default.ensures.bound c.in_default.ensures.position in
    sym (subst (λ pairs. with_element compare_pairs pairs c.args.pair.now ≡ pairs) c.deref.ensures.value there)
