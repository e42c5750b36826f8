-- one delta more
use Rattle.std.proofs.Common.{List, take, map, max, ◌∙◌, ap}
use Rattle.lexicon_definitions.specs.Deltas.{Delta as TextDelta}
use Rattle.form_tags.specs.Analyses.{text_delta}
use Rattle.form_tags.specs.declared.delta.Delta.{Delta}
use Rattle.trie_checks.specs.Bounds.{IsGreatest}
use Rattle.trie_checks.specs.NodeDepths.{letters_needed}
use Rattle.trie_checks.proofs.OneMore.{ord_max-nat, one_mapped, all_taken, greatest_next}
use Rattle.trie_checks.proofs.depths.least_of.Goals as goal

pub loop-delta-preserved : goal.loop-delta-preserved
loop-delta-preserved c =
    let deltas = c.args.deltas.now in
    let k = c.loop-delta.delta-index in
    let delta = c.delta-item.result in
    let least = c.loop-delta.least in
    one_mapped text_delta (λ (xs : List TextDelta). IsGreatest letters_needed xs c.max-least.result) deltas k delta c.loop-delta-test.true c.delta-item.is
    (greatest_next letters_needed (map text_delta (take k deltas)) (text_delta delta) least c.max-least.result
    (c.max-least.ensures ∙ ord_max-nat least c.letters_needed.result ∙ ap (λ n. max least n) c.letters_needed.ensures) c.loop-delta.invariant)

pub returns : goal.returns
returns c = all_taken (λ (xs : List Delta). IsGreatest letters_needed (map text_delta xs) c.loop-delta.least) c.args.deltas.now c.loop-delta.delta-index c.loop-delta-test.false c.loop-delta.invariant
