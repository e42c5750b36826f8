-- The nodes of the level come after all that are less high, in the order of their lines.
use Rattle.std.proofs.Common.{◌≢◌, ◌∙◌, ◌++◌, ◌+◌, ◌<◌, ℕ, List, length, map, sym, ap, subst}
use Rattle.std.specs.Prelude.{All, AllPairs, Contains}
use Rattle.lexicon_definitions.specs.Tries.{row_of}
use Rattle.shared_trie.specs.CanonicalNodes.{ArePlaced, NodeText}
use Rattle.shared_trie.proofs.CanonicalLevels.{on_ok, all_sorted, sorted_level, next_apart, next_there, next_placed, level_there, level_children}
use Rattle.shared_trie.proofs.canonical.place_level.Goals as goal

pub lines_of-requires-clause-there : goal.lines_of-requires-clause-there
lines_of-requires-clause-there c =
    subst (All (λ node. node < length c.args.store.now.rows)) (sym c.as_slice.ensures.value)
    (level_there c.args.store.now c.requires.trie c.args.height c.args.numbers.now.nodes c.in_ok-level.level.items c.requires.placed c.in_ok-level.ensures)

pub lines_of-requires-clause-children : goal.lines_of-requires-clause-children
lines_of-requires-clause-children c =
    subst (All (λ node. All (λ (child : ℕ × ℕ). Contains c.args.numbers.now.nodes child.1) (row_of c.args.store.now.rows node).children)) (sym c.as_slice.ensures.value)
    (level_children c.args.store.now c.requires.trie c.args.height c.args.numbers.now.nodes c.in_ok-level.level.items c.requires.placed c.in_ok-level.ensures)

pub number_lines-requires-clause-there : goal.number_lines-requires-clause-there
number_lines-requires-clause-there c =
    let level = sorted_level c.args.store.now c.args.height c.args.numbers.now.nodes c.in_ok-level.level.items c.as_slice.result.now c.in_ok-lines.lines.items c.as_mut_slice.result.now c.sort_lines.new.lines
    c.in_ok-level.ensures c.as_slice.ensures.value c.in_ok-lines.ensures.ok c.in_ok-lines.ensures.printable c.as_mut_slice.ensures.value c.sort_lines.ensures.permutation c.sort_lines.ensures.sorted in
    let sorted_is = c.as_slice-2.ensures.value ∙ all_sorted c.as_mut_slice.result.now c.in_ok-lines.lines.items c.sort_lines.new.lines c.in_ok-lines.lines.len c.as_mut_slice.ensures.value c.in_ok-lines.lines.ok.0 c.sort_lines.ensures.permutation in
    let there = next_there c.args.store.now c.requires.trie c.args.height c.args.numbers.now.nodes c.in_ok-level.level.items c.sort_lines.new.lines c.requires.placed level in
    subst (λ (count : ℕ). All (λ (text : NodeText). text.node < count) c.as_slice-2.result.now) (sym c.requires.count)
    (subst (All (λ (text : NodeText). text.node < length c.args.store.now.rows)) (sym sorted_is) there)

pub number_lines-requires-clause-apart : goal.number_lines-requires-clause-apart
number_lines-requires-clause-apart c =
    let level = sorted_level c.args.store.now c.args.height c.args.numbers.now.nodes c.in_ok-level.level.items c.as_slice.result.now c.in_ok-lines.lines.items c.as_mut_slice.result.now c.sort_lines.new.lines
    c.in_ok-level.ensures c.as_slice.ensures.value c.in_ok-lines.ensures.ok c.in_ok-lines.ensures.printable c.as_mut_slice.ensures.value c.sort_lines.ensures.permutation c.sort_lines.ensures.sorted in
    let sorted_is = c.as_slice-2.ensures.value ∙ all_sorted c.as_mut_slice.result.now c.in_ok-lines.lines.items c.sort_lines.new.lines c.in_ok-lines.lines.len c.as_mut_slice.ensures.value c.in_ok-lines.lines.ok.0 c.sort_lines.ensures.permutation in
    subst (λ (lines : List NodeText). AllPairs (λ (left right : ℕ). left ≢ right) (c.args.numbers.now.nodes ++ map (λ (text : NodeText). text.node) lines)) (sym sorted_is)
    (next_apart c.args.store.now c.requires.trie c.args.height c.args.numbers.now.nodes c.in_ok-level.level.items c.sort_lines.new.lines c.requires.placed level)

pub returns-clause-placed : goal.returns-clause-placed
returns-clause-placed c =
    let level = sorted_level c.args.store.now c.args.height c.args.numbers.now.nodes c.in_ok-level.level.items c.as_slice.result.now c.in_ok-lines.lines.items c.as_mut_slice.result.now c.sort_lines.new.lines
    c.in_ok-level.ensures c.as_slice.ensures.value c.in_ok-lines.ensures.ok c.in_ok-lines.ensures.printable c.as_mut_slice.ensures.value c.sort_lines.ensures.permutation c.sort_lines.ensures.sorted in
    let sorted_is = c.as_slice-2.ensures.value ∙ all_sorted c.as_mut_slice.result.now c.in_ok-lines.lines.items c.sort_lines.new.lines c.in_ok-lines.lines.len c.as_mut_slice.ensures.value c.in_ok-lines.lines.ok.0 c.sort_lines.ensures.permutation in
    let next = next_placed c.args.store.now c.requires.trie c.args.height c.args.numbers.now.nodes c.in_ok-level.level.items c.sort_lines.new.lines c.requires.placed level in
    on_ok c.number_lines.result
    (λ e. subst (ArePlaced c.args.store.now (c.args.height + 1)) (sym (e ∙ ap (λ (lines : List NodeText). c.args.numbers.now.nodes ++ map (λ (text : NodeText). text.node) lines) sorted_is)) next)
    c.number_lines.ensures.ok
