-- A level whose children were all walked is taken off with a letter, and nothing was left there.
use Rattle.std.proofs.Common.{◌≡◌, ◌-◌, [], ◌∷◌, ◌≤◌, length, ap, sym, ◌∙◌, subst, reverse, take, arith, vec_capacity}
use Rattle.std.proofs.lemmas.List.{append-nil, length-take, nil_from_length}
use Rattle.lexicon_definitions.specs.Tries.{row_of}
use Rattle.shared_trie.specs.FormWalks.{IsAtForm, forms_left, forms_to_come}
use Rattle.shared_trie.proofs.FormWalkSteps.{way_from_level, form_from_way, exhausted, shorter, none_left, deepest_first}
use Rattle.shared_trie.proofs.form_walk_moves.next_node.Goals as goal

pub loop-level-preserved : goal.loop-level-preserved
loop-level-preserved c =
    let rows = c.args.store.now.rows in
    let letters = c.loop-level.letters.items in
    let rest = c.pop-in-Some.new.self.items in
    let level = c.in-Some.level in
    let levels = reverse c.pop.new.self.items in
    let levels_are : reverse c.loop-level.levels.items ≡ level ∷ levels = ap reverse c.in-Some.ensures.items ∙ deepest_first c.pop.new.self.items level in
    let at = subst (λ ls. IsAtForm rows letters ls (vec_capacity c.loop-level.letters) (vec_capacity c.loop-level.levels)) levels_are c.loop-level.invariant.0 in
    let way = way_from_level rows letters levels level _ _ at in
    let all : length (row_of rows level.node).children ≤ level.walked = subst (λ cs. length cs ≤ level.walked) c.children_of.ensures.value c.if-level-children_of.false in
    let count = c.loop-level.letters.ok.0 in
    let taken : rest ≡ take (length letters - 1) letters = c.pop-in-Some.ensures.rest ∙ ap (λ n. take (n - 1) letters) count in
    let long : length rest ≡ length (take (length letters - 1) letters) = ap length taken in
    let few = length-take (length letters - 1) letters in
    let short : length rest ≡ length letters - 1 = omega (arith, long, few) in (
      rw (c.pop.ensures.capacity, c.pop-in-Some.ensures.capacity) (form_from_way rows letters rest levels _ _ level.node way short),
      shorter rows letters rest levels c.pop-in-Some.result c.pop-in-Some.ensures.items way.as_many
          ∙ sym (exhausted rows letters levels level all) ∙ ap (forms_to_come rows letters) (sym levels_are) ∙ c.loop-level.invariant.1,
    )

pub returns : goal.returns
returns c =
    let rows = c.args.store.now.rows in
    let letters = c.loop-level.letters.items in
    let same = c.in_default.ensures.items ∙ append-nil c.pop.new.self.items in
    let count = c.pop.new.self.ok.0 in
    let empty = c.in_default.ensures.cases.1 in
    let none : c.pop.new.self.items ≡ [] = nil_from_length c.pop.new.self.items (omega (arith, count, empty)) in (
      subst (λ ls. IsAtForm rows letters (reverse ls) (vec_capacity c.loop-level.letters) (vec_capacity c.pop.new.self)) same (rw c.pop.ensures.capacity c.loop-level.invariant.0),
      ap (λ ls. forms_left rows letters (reverse ls)) none ∙ none_left rows letters ∙ ap (λ ls. forms_to_come rows letters (reverse ls)) (sym none ∙ sym same) ∙ c.loop-level.invariant.1,
    )
