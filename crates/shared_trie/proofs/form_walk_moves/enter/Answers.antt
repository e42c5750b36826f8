-- There is room for a letter and a level more, since the child can be walked; and the child's forms come before those of the children
-- after it.
use Rattle.std.proofs.Common.{◌≡◌, ◌∷◌, ap, ◌∙◌, reverse, arith}
use Rattle.std.proofs.lemmas.List.{length-reverse}
use Rattle.lexicon_definitions.specs.Tries.{row_of}
use Rattle.shared_trie.proofs.FormWalkSteps.{next_level, entered, letter_fits, level_fits, goes_down, child_before, child_there, child_first, deepest_first}
use Rattle.shared_trie.proofs.form_walk_moves.enter.Goals as goal

pub unreachable-requires : goal.unreachable-requires
unreachable-requires c =
    let among = child_there c.children_of.result.now (row_of c.args.store.now.rows c.args.level.node).children c.args.level.walked c.index-children_of-level.result c.children_of.ensures.value c.requires.child c.index-children_of-level.is in
    let fits = letter_fits c.args.store.now.rows c.requires.rows c.args.letters.now.items (reverse c.args.levels.now.items) _ _ c.args.level c.index-children_of-level.result c.requires.on_way among in
    let full = c.in_default.ensures.full in
    let count = c.args.letters.now.ok.0 in
    omega (arith, fits, full, count)

pub unreachable-requires-in_default-push : goal.unreachable-requires-in_default-push
unreachable-requires-in_default-push c =
    let fits = level_fits c.args.store.now.rows c.args.letters.now.items (reverse c.args.levels.now.items) _ _ c.args.level.node c.requires.on_way in
    let full = c.in_default-push.ensures.full in
    let count = c.args.levels.now.ok.0 in
    let same = length-reverse c.args.levels.now.items in
    omega (arith, fits, full, count, same)

pub returns-clause-down : goal.returns-clause-down
returns-clause-down c =
    let among = child_there c.children_of.result.now (row_of c.args.store.now.rows c.args.level.node).children c.args.level.walked c.index-children_of-level.result c.children_of.ensures.value c.requires.child c.index-children_of-level.is in
    let levels_are : reverse c.push-2.new.self.items ≡ next_level c.args.level ∷ reverse c.args.levels.now.items =
    ap reverse c.in-Ok-push.ensures.items ∙ deepest_first c.args.levels.now.items (next_level c.args.level) in
    rw (c.in-Ok.ensures.items, levels_are)
    (goes_down c.args.store.now.rows c.requires.rows c.args.letters.now.items (reverse c.args.levels.now.items) _ _ c.args.level c.index-children_of-level.result c.requires.on_way among _ _ c.in-Ok.ensures.capacity c.in-Ok-push.ensures.capacity)

pub returns-clause-left : goal.returns-clause-left
returns-clause-left c =
    let first = child_first c.children_of.result.now (row_of c.args.store.now.rows c.args.level.node).children c.args.level.walked c.index-children_of-level.result c.children_of.ensures.value c.requires.child c.index-children_of-level.is in
    let levels_are : reverse c.push-2.new.self.items ≡ next_level c.args.level ∷ reverse c.args.levels.now.items =
    ap reverse c.in-Ok-push.ensures.items ∙ deepest_first c.args.levels.now.items (next_level c.args.level) in
    rw (c.in-Ok.ensures.items, levels_are)
    (entered c.args.store.now.rows c.args.letters.now.items (reverse c.args.levels.now.items) c.args.level c.index-children_of-level.result c.requires.on_way.as_many first)

pub returns-clause-before : goal.returns-clause-before
returns-clause-before c =
    let among = child_there c.children_of.result.now (row_of c.args.store.now.rows c.args.level.node).children c.args.level.walked c.index-children_of-level.result c.children_of.ensures.value c.requires.child c.index-children_of-level.is in
    child_before c.args.store.now.rows c.requires.rows c.args.letters.now.items (reverse c.args.levels.now.items) _ _ c.args.level c.index-children_of-level.result c.requires.on_way among
