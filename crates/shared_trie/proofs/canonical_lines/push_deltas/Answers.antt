-- One delta more comes after a comma.
use Rattle.std.proofs.Common.{◌++◌, ◌∙◌, ℕ, List, ap, arith}
use Rattle.form_tags.specs.Analyses.{text_delta}
use Rattle.trie_text_definitions.specs.NodeLines.{delta_text}
use Rattle.trie_text_definitions.specs.PrintableRows.{IsPrintableDelta}
use Rattle.shared_trie.proofs.ListedTexts.{listed_first, listed_more, listed_whole}
use Rattle.shared_trie.proofs.canonical_lines.push_deltas.Goals as goal

pub loop-delta-preserved : goal.loop-delta-preserved
loop-delta-preserved c =
    listed_more text_delta delta_text IsPrintableDelta c.args.out.now.items c.loop-delta.out.items _ c.args.deltas.now c.in-Some.others.now c.in-Some.first.now c.loop-delta.delta-index c.delta-item.result
    c.in-Some.ensures.cases.0 (omega arith) c.delta-item.is c.loop-delta.invariant
    (c.in_ok-push_delta-2.ensures.ok ∙ ap (λ (text : List ℕ). text ++ delta_text (text_delta c.delta-item.result)) c.in_ok-push-2.ensures.items) c.in_ok-push_delta-2.ensures.printable

pub loop-delta-init : goal.loop-delta-init
loop-delta-init c =
    listed_first text_delta delta_text IsPrintableDelta c.args.out.now.items _ c.args.deltas.now c.in-Some.others.now c.in-Some.first.now c.in-Some.ensures.cases.0
    c.in_ok-push_delta.ensures.ok c.in_ok-push_delta.ensures.printable

pub returns-clause-ok : goal.returns-clause-ok
returns-clause-ok c =
    (listed_whole text_delta delta_text IsPrintableDelta c.args.out.now.items c.loop-delta.out.items c.args.deltas.now c.in-Some.others.now c.in-Some.first.now c.loop-delta.delta-index
    c.in-Some.ensures.cases.0 c.loop-delta-test.false c.loop-delta.invariant).text

pub returns-clause-printable : goal.returns-clause-printable
returns-clause-printable c =
    (listed_whole text_delta delta_text IsPrintableDelta c.args.out.now.items c.loop-delta.out.items c.args.deltas.now c.in-Some.others.now c.in-Some.first.now c.loop-delta.delta-index
    c.in-Some.ensures.cases.0 c.loop-delta-test.false c.loop-delta.invariant).each
