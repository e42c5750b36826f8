-- A node without deltas is entered through its first child, and at a node with deltas the first form is its own.
use Rattle.std.proofs.Common.{◌≡◌, ◌≢◌, [], ◌∷◌, ap, ◌∙◌, reverse, arith}
use Rattle.std.proofs.lemmas.List.{length-reverse}
use Rattle.lexicon_definitions.specs.Tries.{row_of}
use Rattle.shared_trie.specs.declared.form_walk_level.Level.{Level}
use Rattle.shared_trie.proofs.FormWalkSteps.{level_fits, form_at_node, reached, not_reached, no_deltas, deepest_first}
use Rattle.shared_trie.proofs.form_walk_moves.go_down.Goals as goal

pub loop-letters-preserved : goal.loop-letters-preserved
loop-letters-preserved c =
    let rows = c.args.store.now.rows in
    let way = c.loop-letters.invariant.0.on_way in
    let none = no_deltas c.accepts.result (row_of rows c.loop-letters.node).deltas c.loop-letters-test.true c.accepts.ensures.1 in (
      c.enter-node.ensures.down,
      c.enter-node.ensures.left ∙ not_reached rows c.requires.rows c.loop-letters.letters.items (reverse c.loop-letters.levels.items) c.loop-letters.node way.is_level.there way.as_many none ∙ c.loop-letters.invariant.1,
    )

pub unreachable-requires : goal.unreachable-requires
unreachable-requires c =
    let fits = level_fits c.args.store.now.rows c.loop-letters.letters.items (reverse c.loop-letters.levels.items) _ _ c.loop-letters.node c.loop-letters.invariant.0.on_way in
    let full = c.in_default.ensures.full in
    let count = c.loop-letters.levels.ok.0 in
    let same = length-reverse c.loop-letters.levels.items in
    omega (arith, fits, full, count, same)

pub returns-clause-at : goal.returns-clause-at
returns-clause-at c =
    let level : Level = record { node = c.loop-letters.node; walked = 0 } in
    let levels_are : reverse c.push.new.self.items ≡ level ∷ reverse c.loop-letters.levels.items = ap reverse c.in-Ok.ensures.items ∙ deepest_first c.loop-letters.levels.items level in
    rw levels_are
    (form_at_node c.args.store.now.rows c.loop-letters.letters.items (reverse c.loop-letters.levels.items) level _ _ _ c.loop-letters.invariant.0.on_way c.in-Ok.ensures.capacity)

pub returns-clause-left : goal.returns-clause-left
returns-clause-left c =
    let rows = c.args.store.now.rows in
    let way = c.loop-letters.invariant.0.on_way in
    let level : Level = record { node = c.loop-letters.node; walked = 0 } in
    let levels_are : reverse c.push.new.self.items ≡ level ∷ reverse c.loop-letters.levels.items = ap reverse c.in-Ok.ensures.items ∙ deepest_first c.loop-letters.levels.items level in
    let some : (row_of rows c.loop-letters.node).deltas ≢ [] = c.accepts.ensures.0 c.loop-letters-test.false in
    rw levels_are
    (reached rows c.requires.rows c.loop-letters.letters.items (reverse c.loop-letters.levels.items) c.loop-letters.node way.is_level.there way.as_many some ∙ c.loop-letters.invariant.1)
