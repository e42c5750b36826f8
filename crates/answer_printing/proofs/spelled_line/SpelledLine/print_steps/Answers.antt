-- Each step stands within the rule set and the line; one more is printed in each turn, and the last one after these.
use Rattle.std.proofs.Common.{◌≡◌, ◌-◌, [], ◌∷◌, ◌++◌, length, get_or, ap, sym, ◌∙◌, arith}
use Rattle.std.proofs.lemmas.Grind.{common_steps}
use Rattle.std.proofs.lemmas.List.{take_more}
use Rattle.segmentation_definitions.specs.PrintedAnswers.{printed_steps}
use Rattle.derivation.specs.Steps.{steps_of}
use Rattle.answer_printing.specs.Fronts.{nothing}
use Rattle.answer_printing.proofs.PrintedFronts.{with_last}
use Rattle.derivation.proofs.StepLemmas.{within}
use Rattle.answer_printing.proofs.spelled_line.SpelledLine.print_steps.Goals as goal

pub push_joined-requires-clause-phase : goal.push_joined-requires-clause-phase
push_joined-requires-clause-phase c = let low = c.loop-j-test.true in (within _ _ c.args.steps.now c.loop-j.j _ 0 [] c.requires.stand (omega (arith, low))).phase

pub push_joined-requires-clause-rule : goal.push_joined-requires-clause-rule
push_joined-requires-clause-rule c = let low = c.loop-j-test.true in (within _ _ c.args.steps.now c.loop-j.j _ 0 [] c.requires.stand (omega (arith, low))).rule

pub push_joined-requires-clause-within : goal.push_joined-requires-clause-within
push_joined-requires-clause-within c = let low = c.loop-j-test.true in (within _ _ c.args.steps.now c.loop-j.j _ 0 [] c.requires.stand (omega (arith, low))).taken

pub push_last-requires-clause-phase : goal.push_last-requires-clause-phase
push_last-requires-clause-phase c = let some = c.requires.some in (within _ _ c.args.steps.now _ _ 0 [] c.requires.stand (omega (arith, some))).phase

pub push_last-requires-clause-rule : goal.push_last-requires-clause-rule
push_last-requires-clause-rule c = let some = c.requires.some in (within _ _ c.args.steps.now _ _ 0 [] c.requires.stand (omega (arith, some))).rule

pub push_last-requires-clause-within : goal.push_last-requires-clause-within
push_last-requires-clause-within c = let some = c.requires.some in (within _ _ c.args.steps.now _ _ 0 [] c.requires.stand (omega (arith, some))).taken

pub loop-j-preserved : goal.loop-j-preserved
loop-j-preserved c =
    let low = c.loop-j-test.true in
    let step = get_or c.args.steps.now c.loop-j.j nothing.step in
    record {
      may_follow = c.in_ok-push_joined.ensures.open;
      so_far = c.in_ok-push_joined.ensures.steps ∙ ap (λ front. front ++ step ∷ []) c.loop-j.invariant.so_far
          ∙ sym (take_more c.args.steps.now c.loop-j.j nothing.step (omega (arith, low)));
    }

pub returns-clause-text : goal.returns-clause-text
returns-clause-text c =
    let at : c.loop-j.j ≡ length c.args.steps.now - 1 = grind (arith, common_steps) in
    c.in_ok-push_last.ensures.text
    ∙ ap (λ steps. printed_steps c.args.self.now.rules (steps_of c.args.self.now.rules c.args.self.now.letters steps))
    (with_last c.args.steps.now _ c.loop-j.j nothing.step c.loop-j.invariant.so_far at c.requires.some)
