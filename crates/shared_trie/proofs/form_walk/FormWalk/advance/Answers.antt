-- What is left after the present form is what was to come.
use Rattle.std.proofs.Common.{sym, ap, ◌∙◌, drop, reverse}
use Rattle.shared_trie.proofs.FormWalkSteps.{after_present}
use Rattle.shared_trie.proofs.form_walk.FormWalk.advance.Goals as goal

pub returns-in_default : goal.returns-in_default
returns-in_default c =
    c.in_default.ensures.1 ∙ sym (after_present c.self.inside.store.now.rows c.self.inside.letters.items (reverse c.self.inside.levels.items)) ∙ ap (drop 1) c.self.view_is

pub returns : goal.returns
returns c =
    c.go_down.ensures.left ∙ c.in-Some.ensures.1
    ∙ sym (after_present c.self.inside.store.now.rows c.self.inside.letters.items (reverse c.self.inside.levels.items)) ∙ ap (drop 1) c.self.view_is
