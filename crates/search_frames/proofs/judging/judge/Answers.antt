-- The key of the step is the key that is judged.
use Rattle.std.proofs.Common.{sym, subst}
use Rattle.derivation.specs.Steps.{key_meant}
use Rattle.derivation.specs.declared.step.Key.{Key}
use Rattle.search_frames.specs.Configurations.{IsPossible}
use Rattle.search_frames.specs.FirstKeys.{IsJudged}
use Rattle.search_frames.specs.Frames.{numbered_of}
use Rattle.search_frames.specs.LetterTests.{IsLetterTestOf}
use Rattle.search_frames.proofs.judging.judge.Goals as goal

pub judge_test-requires-clause-possible : goal.judge_test-requires-clause-possible
judge_test-requires-clause-possible g c =
    subst (λ (key : Key). IsPossible c.args.space.now.lexicon.now c.args.space.now.line.now (numbered_of c.args.space.now.lexicon.now c.args.place.now) (key_meant key)) (sym c.key.ensures) c.requires.possible

pub judge_test-requires-clause-test : goal.judge_test-requires-clause-test
judge_test-requires-clause-test g c =
    subst (λ (key : Key). IsLetterTestOf c.args.space.now.lexicon.now c.args.space.now.line.now c.args.space.now.choices.now (numbered_of c.args.space.now.lexicon.now c.args.place.now) (key_meant key) c.test_letters-test.result)
    (sym c.key.ensures) c.test_letters-test.ensures.exact

pub returns-clause-judged : goal.returns-clause-judged
returns-clause-judged g c =
    subst (λ (key : Key). IsJudged c.args.space.now.lexicon.now c.args.space.now.line.now c.args.space.now.choices.now (g.D.Guide.says c.args.space.now.guide.now) (numbered_of c.args.space.now.lexicon.now c.args.place.now) (key_meant key) c.judge_test.result)
    c.key.ensures c.judge_test.ensures.judged
