-- one delta more
use Rattle.std.proofs.Common.{◌↔◌, List, take, map}
use Rattle.lexicon_definitions.specs.Deltas.{Delta as TextDelta}
use Rattle.form_tags.specs.Analyses.{text_delta}
use Rattle.form_tags.specs.declared.delta.Delta.{Delta}
use Rattle.trie_checks.specs.Bounds.{HasOne}
use Rattle.trie_checks.specs.LettersPut.{PutsLetter}
use Rattle.trie_checks.specs.NumberSets.{HasNumber}
use Rattle.trie_checks.proofs.OneMore.{one_mapped, all_taken, told_more}
use Rattle.trie_checks.proofs.letters_put.put_by.Goals as goal

pub loop-delta-preserved : goal.loop-delta-preserved
loop-delta-preserved c letter =
    let deltas = c.args.deltas.now in
    let k = c.loop-delta.delta-index in
    let delta = c.delta-item.result in
    let P : TextDelta → Type 0 = PutsLetter c.args.before letter in
    one_mapped text_delta (λ (xs : List TextDelta). HasNumber c.with_put-set.result letter ↔ HasOne P xs) deltas k delta c.loop-delta-test.true c.delta-item.is
    (told_more P (map text_delta (take k deltas)) (text_delta delta) (HasNumber c.loop-delta.set letter) (HasNumber c.with_put-set.result letter) (c.loop-delta.invariant letter) (c.with_put-set.ensures letter))

pub returns : goal.returns
returns c letter =
    all_taken (λ (xs : List Delta). HasNumber c.loop-delta.set letter ↔ HasOne (PutsLetter c.args.before letter) (map text_delta xs)) c.args.deltas.now c.loop-delta.delta-index c.loop-delta-test.false (c.loop-delta.invariant letter)
