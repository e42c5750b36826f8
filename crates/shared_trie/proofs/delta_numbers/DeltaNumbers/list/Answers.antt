-- Sorting keeps the deltas, and different ones that are sorted rise.
use Rattle.std.proofs.Common.{◌≡◌, ◌++◌, ℕ, List, length, map, take, drop, sym, ◌∙◌, ap, subst, arith}
use Rattle.std.proofs.lemmas.Grind.{common_steps}
use Rattle.std.proofs.lemmas.List.{take_all}
use Rattle.std.specs.Prelude.{IsPermutation}
use Rattle.form_tags.specs.declared.delta.Delta.{Delta}
use Rattle.form_tags.specs.Analyses.{text_delta}
use Rattle.shared_trie.specs.DeltaNumbers.{IsListFor, delta_of}
use Rattle.shared_trie.proofs.DeltaListings.{sorted_list}
use Rattle.shared_trie.proofs.delta_numbers.DeltaNumbers.list.Goals as goal

-- what is left of the list is the sorted part
sorted_part : (len : ℕ) (new old : List Delta) → length new ≡ length old → len ≡ length old → take len (new ++ drop (length new) old) ≡ new
sorted_part len new old same whole = grind (arith, common_steps)

pub returns : goal.returns
returns c =
    let old = c.loop-number.list.items in
    let new = c.sort_deltas.new.deltas in
    let part = sorted_part c.loop-number.list.len new old (c.sort_deltas.auto.deltas ∙ ap length c.deref_mut.ensures.value) c.loop-number.list.ok.0 in
    let all = c.loop-number.invariant ∙ ap (map (delta_of c.args.self.now)) (take_all c.loop-number.number-index c.args.numbers.now c.loop-number-test.false) in
    subst (λ (ds : List Delta). IsListFor c.args.self.now c.args.numbers.now (map text_delta ds)) (sym part)
    (sorted_list c.args.self.now c.args.numbers.now old new all c.requires.within c.requires.apart
    (subst (λ (xs : List Delta). IsPermutation xs new) c.deref_mut.ensures.value c.sort_deltas.ensures.permutation) c.sort_deltas.ensures.sorted)
