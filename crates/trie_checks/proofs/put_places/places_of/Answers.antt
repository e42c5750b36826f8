-- one delta more
use Rattle.std.proofs.Common.{◌≡◌, ◌+◌, inl, inr, List, take, map}
use Rattle.lexicon_definitions.specs.Deltas.{Delta as TextDelta}
use Rattle.form_tags.specs.Analyses.{text_delta}
use Rattle.form_tags.specs.declared.delta.Delta.{Delta}
use Rattle.trie_checks.specs.Bounds.{HasOne}
use Rattle.trie_checks.specs.NumberSets.{HasNumber}
use Rattle.trie_checks.proofs.OneMore.{one_mapped, all_taken, HasOne-push}
use Rattle.trie_checks.proofs.put_places.places_of.Goals as goal

pub loop-delta-preserved : goal.loop-delta-preserved
loop-delta-preserved c place low =
    let deltas = c.args.deltas.now in
    let k = c.loop-delta.delta-index in
    let delta = c.delta-item.result in
    let P : TextDelta → Type 0 = λ d. d.cut ≡ place + 1 in
    one_mapped text_delta (λ (xs : List TextDelta). HasOne P xs → HasNumber c.with_cut-places.result place) deltas k delta c.loop-delta-test.true c.delta-item.is
    (λ h. c.with_cut-places.ensures place low (elim ((HasOne-push P (map text_delta (take k deltas)) (text_delta delta)).0 h) [
      | inl before ↦ inl (c.loop-delta.invariant place low before)
      | inr here ↦ inr here
    ]))

pub returns : goal.returns
returns c place low =
    all_taken (λ (xs : List Delta). HasOne (λ (d : TextDelta). d.cut ≡ place + 1) (map text_delta xs) → HasNumber c.loop-delta.places place) c.args.deltas.now c.loop-delta.delta-index c.loop-delta-test.false
    (c.loop-delta.invariant place low)
