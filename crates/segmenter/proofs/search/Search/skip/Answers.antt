-- The view is told by the stack.
use Rattle.std.proofs.Common.{subst}
use Rattle.segmenter.specs.Searches.{SearchValue, Skipped, cursor_of}
use Rattle.segmenter.proofs.PathsFound.{on_true}
use Rattle.segmenter.proofs.SkippedAnswers.{skipped}
use Rattle.segmenter.specs.Skips.{value_of}
use Rattle.segmenter.proofs.LevelCosts.{CostsAtMost, move_within}
use Rattle.segmenter.proofs.search.Search.skip.Goals as goal

pub returns-clause-moved : goal.returns-clause-moved
returns-clause-moved g c =
    let s = c.self.inside in
    let now : SearchValue = record {
      searched = s.space.lexicon.now;
      line = s.space.line.now;
      choices = s.space.choices.now;
      cursor = cursor_of s.space.lexicon.now s.space.line.now c.skip_on.new.stack;
    } in
    on_true c.skip_on.result
    (λ moved. subst (λ old. Skipped c.args.depth old now) c.self.view_is
    (skipped s.space.lexicon.now s.space.line.now s.space.choices.now c.args.depth s.stack c.skip_on.new.stack moved))
    c.skip_on.ensures.moved

pub returns-clause-steps : goal.returns-clause-steps
returns-clause-steps g c =
    let s = c.self.inside in
    let within : CostsAtMost g.row.D.Denot g.D.SearchGuide.known g.D.Guide.says (value_of s.space.lexicon.now s.space.line.now s.space.choices.now s.stack) c.args.steps.now c.skip_on.new.steps =
    λ exact most few. move_within s.space.lexicon.now s.space.line.now s.space.choices.now c.self.invariant.0 most c.args.steps.now c.skip_on.new.steps
    (c.skip_on.ensures.steps (exact s.space.guide.now c.self.invariant.3) most few) in
    subst (λ search. CostsAtMost g.row.D.Denot g.D.SearchGuide.known g.D.Guide.says search c.args.steps.now c.skip_on.new.steps) c.self.view_is within
