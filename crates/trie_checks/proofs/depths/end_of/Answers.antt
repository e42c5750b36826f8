-- one delta more
use Rattle.std.proofs.Common.{List, take, map, min, ◌∙◌, ap}
use Rattle.lexicon_definitions.specs.Deltas.{Delta as TextDelta}
use Rattle.form_tags.specs.Analyses.{text_delta}
use Rattle.form_tags.specs.declared.delta.Delta.{Delta}
use Rattle.trie_checks.specs.Bounds.{IsLeastEnd}
use Rattle.trie_checks.specs.NodeDepths.{letters_end}
use Rattle.trie_checks.proofs.OneMore.{one_mapped, all_taken, least_next}
use Rattle.trie_checks.proofs.depths.end_of.Goals as goal

pub loop-delta-preserved : goal.loop-delta-preserved
loop-delta-preserved c =
    let deltas = c.args.deltas.now in
    let k = c.loop-delta.delta-index in
    let delta = c.delta-item.result in
    let end = c.loop-delta.end in
    one_mapped text_delta (λ (xs : List TextDelta). IsLeastEnd letters_end xs c.min-end.result) deltas k delta c.loop-delta-test.true c.delta-item.is
    (least_next letters_end (map text_delta (take k deltas)) (text_delta delta) end c.min-end.result (c.min-end.ensures ∙ ap (λ n. min end n) c.letters_end.ensures) c.loop-delta.invariant)

pub returns : goal.returns
returns c = all_taken (λ (xs : List Delta). IsLeastEnd letters_end (map text_delta xs) c.loop-delta.end) c.args.deltas.now c.loop-delta.delta-index c.loop-delta-test.false c.loop-delta.invariant
