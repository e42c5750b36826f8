-- one root more; and a root that may not stand after no letters
use Rattle.std.proofs.Common.{ℕ, ◌<◌, List, length, take, get_or, ap, ◌∙◌, refl, arith}
use Rattle.std.specs.Prelude.{All}
use Rattle.std.proofs.lemmas.List.{get_or_read}
use Rattle.std.proofs.lemmas.List.Elements.{All-push}
use Rattle.trie_checks.specs.NodeDepths.{MayBegin}
use Rattle.trie_checks.proofs.OneMore.{one_taken, all_taken}
use Rattle.trie_checks.proofs.depths.Depths.may_begin.Goals as goal

pub loop-root-preserved : goal.loop-root-preserved
loop-root-preserved c =
    let roots = c.args.roots.now in
    let least = c.args.self.now.least.items in
    let ends = c.args.self.now.ends.items in
    let k = c.loop-root.root-index in
    let root = c.root-item.result in
    let place = c.number-number.result in
    let low : place < length least = let l = c.requires.least k root c.loop-root-test.true in let same = c.root-item.is in let is = c.number-number.ensures in omega (arith, l, same, is) in
    let low_end : place < length ends = let l = c.requires.ends k root c.loop-root-test.true in let same = c.root-item.is in let is = c.number-number.ensures in omega (arith, l, same, is) in
    let first = get_or_read least place c.index.result.now low c.index.ensures 0 ∙ ap (λ n. get_or least n 0) c.number-number.ensures in
    let second = get_or_read ends place c.index-in-loop-root.result.now low_end c.index-in-loop-root.ensures 0 ∙ ap (λ n. get_or ends n 0) c.number-number.ensures in
    let none = c.if-index-gt0.false in
    let some = c.if-index-eq0.false in
    one_taken (λ (xs : List ℕ). All (MayBegin least ends) xs) roots k root c.loop-root-test.true c.root-item.is
    (All-push (MayBegin least ends) (take k roots) root c.loop-root.invariant (omega (arith, first, none), omega (arith, second, some)))

pub returns : goal.returns
returns c =
    let least = c.args.self.now.least.items in
    let ends = c.args.self.now.ends.items in
    let each = all_taken (λ (xs : List ℕ). All (MayBegin least ends) xs) c.args.roots.now c.loop-root.root-index c.loop-root-test.false c.loop-root.invariant in
    (λ t. each, λ a. refl)
