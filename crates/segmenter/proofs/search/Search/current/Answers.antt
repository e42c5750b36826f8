-- The frames of an answer are within the room, and their steps are those of the answer.
use Rattle.std.proofs.Common.{◌≤◌, ◌∙◌, Some, refl, sym, subst}
use Rattle.search_frames.specs.Stacks.{depth_of, steps_in}
use Rattle.segmenter.specs.Searches.{IsCurrent}
use Rattle.segmenter.proofs.SearchMoves.{current_at}
use Rattle.segmenter.proofs.SearchStacks.{depth_within}
use Rattle.segmenter.proofs.search.Search.current.Goals as goal

pub steps-requires-clause-stack : goal.steps-requires-clause-stack
steps-requires-clause-stack g c = c.self.invariant.2.is_stack

pub steps-requires-clause-within : goal.steps-requires-clause-within
steps-requires-clause-within g c =
    let s = c.self.inside in
    subst (λ room. depth_of s.stack ≤ room) c.self.invariant.2.is_stack.steps
    (depth_within s.space.lexicon.now s.space.line.now s.space.choices.now s.stack (c.self.invariant.2.answer (sym c.cursor.ensures ∙ c.in-At.is)))

pub returns-in-At : goal.returns-in-At
returns-in-At g c =
    let s = c.self.inside in
    record {
      answer = subst (λ steps. IsCurrent c.args.self.now (Some steps)) (sym c.steps.ensures)
          (subst (λ search. IsCurrent search (Some (steps_in s.stack))) c.self.view_is
          (current_at s.space.lexicon.now s.space.line.now s.space.choices.now s.stack c.self.invariant.0 c.self.invariant.2 (sym c.cursor.ensures ∙ c.in-At.is) s.stack.steps.items refl));
    }
