-- The key with a choice is possible.
use Rattle.std.proofs.Common.{sym, ap, subst, arith}
use Rattle.segmentation_definitions.specs.Listings.{Key}
use Rattle.derivation.specs.Steps.{key_of, key_meant}
use Rattle.derivation.specs.declared.step.Step.{Step}
use Rattle.search_frames.specs.Configurations.{IsPossible}
use Rattle.search_frames.specs.FirstKeys.{IsJudged}
use Rattle.search_frames.specs.Turns.{BeginsPath}
use Rattle.search_frames.specs.Frames.{numbered_of}
use Rattle.search_frames.proofs.TriedRules.{none_of_one, choice_possible, first_of_choice}
use Rattle.search_frames.proofs.turning.turn_by_rule.Goals as goal

pub judge-requires-clause-possible : goal.judge-requires-clause-possible
judge-requires-clause-possible g c =
    let searched = c.args.space.now.lexicon.now in
    let here = numbered_of searched c.args.place.now in
    subst (λ (s : Step). IsPossible searched c.args.space.now.line.now here (key_of s)) (sym c.step_with.ensures)
    (choice_possible c.args.space.now.lexicon.now c.args.space.now.line.now c.args.space.now.choices.now here (key_meant c.args.from) c.requires.searched c.requires.phase c.requires.letters c.args.node c.requires.node c.args.rule c.requires.rule)

pub returns-in-Refused-clause-first : goal.returns-in-Refused-clause-first
returns-in-Refused-clause-first g c key begins meant =
    let searched = c.args.space.now.lexicon.now in
    let here = numbered_of searched c.args.place.now in
    let is = ap key_of c.step_with.ensures in
    none_of_one c.args.space.now.lexicon.now c.args.space.now.line.now c.args.space.now.choices.now here (key_meant c.args.from) c.args.rule
    (subst (λ (k : Key). BeginsPath c.args.space.now.lexicon.now c.args.space.now.line.now c.args.space.now.choices.now here k → ⊥) is c.in-Refused.ensures.judged)
    key begins meant.0.0.0 meant.0.0.1 meant.1

pub returns-in_default : goal.returns-in_default
returns-in_default g c =
    let searched = c.args.space.now.lexicon.now in
    let here = numbered_of searched c.args.place.now in
    let is = ap key_of c.step_with.ensures in
    record {
      first = first_of_choice c.args.space.now.lexicon.now c.args.space.now.line.now c.args.space.now.choices.now here (key_meant c.args.from) c.requires.searched c.requires.phase c.requires.letters c.args.node c.requires.node
          (g.D.Guide.says c.args.space.now.guide.now) c.args.rule c.judge.result c.requires.rule c.requires.order
          (subst (λ (k : Key). IsJudged c.args.space.now.lexicon.now c.args.space.now.line.now c.args.space.now.choices.now (g.D.Guide.says c.args.space.now.guide.now) here k c.judge.result) is c.judge.ensures.judged)
          c.in_default.not-Refused;
      steps = omega (arith, c.judge.ensures.steps, c.tick.ensures);
    }
