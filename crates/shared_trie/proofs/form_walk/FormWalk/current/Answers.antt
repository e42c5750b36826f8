-- The present form ends at the deepest level.
use Rattle.std.proofs.Common.{◌≡◌, ◌∷◌, ◌∙◌, ◌-◌, List, sym, ap, length, take, reverse}
use Rattle.std.specs.Prelude.{slice_get}
use Rattle.shared_trie.specs.declared.form_walk_level.Level.{Level}
use Rattle.shared_trie.specs.FormWalks.{forms_left, forms_to_come}
use Rattle.shared_trie.proofs.FormWalkSteps.{present, no_levels, last_there, none_there, deepest_first}
use Rattle.shared_trie.proofs.form_walk.FormWalk.current.Goals as goal

pub returns-in_default : goal.returns-in_default
returns-in_default c =
    let rows = c.self.inside.store.now.rows in
    let letters = c.self.inside.letters.items in
    let levels = c.self.inside.levels.items in
    let none = none_there levels (c.in_default.ensures.value ∙ ap (λ (ls : List Level). slice_get ls (length ls - 1)) c.deref.ensures.value) in
    sym c.self.view_is ∙ ap (λ (ls : List Level). forms_left rows letters (reverse ls)) none ∙ no_levels rows letters

pub returns : goal.returns
returns c =
    let rows = c.self.inside.store.now.rows in
    let letters = c.self.inside.letters.items in
    let levels = c.self.inside.levels.items in
    let level = c.in-Some.level.now in
    let last = last_there levels level (c.in-Some.ensures.value ∙ ap (λ (ls : List Level). slice_get ls (length ls - 1)) c.deref.ensures.value) in
    let above = reverse (take (length levels - 1) levels) in
    let levels_are : reverse levels ≡ level ∷ above = ap reverse last ∙ deepest_first (take (length levels - 1) levels) level in (
      forms_to_come rows letters (level ∷ above),
      sym c.self.view_is ∙ ap (forms_left rows letters) levels_are ∙ present rows letters above level
          ∙ (λ i. record { word = sym c.as_slice.ensures.value i; deltas = sym c.deltas.ensures i } ∷ forms_to_come rows letters (level ∷ above)),
    )
