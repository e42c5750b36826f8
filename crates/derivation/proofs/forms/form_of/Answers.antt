-- The step at the place stands in the line, and its form is that of the definitions.
use Rattle.std.proofs.Common.{◌≡◌, ◌∙◌, [], arith, sym}
use Rattle.derivation.specs.declared.step.Step.{Step as ProgramStep}
use Rattle.derivation.proofs.StepLemmas.{rule_before, rule_before-first, rule_before-later, within, before_within, form_found}
use Rattle.derivation.proofs.forms.form_of.Goals as goal
use Rattle.derivation.proofs.forms.form_of.Goals.{Joined-place-eq0, then-place-eq0, else-place-eq0}

-- the step past the end
abbrev nothing : ProgramStep
nothing = record { phase = 0; rule = 0; at = 0; lead = 0; taken = 0 }

-- the number that the code chose is that of the rule before the step
chosen : (c : Joined-place-eq0) → c.if-place-eq0.before ≡ rule_before 0 c.args.steps.now c.args.j nothing
chosen c = elim c.if-place-eq0.branch [
  | then-place-eq0 w ↦ w.before-is ∙ sym (rule_before-first 0 c.args.steps.now c.args.j _ w.if-place-eq0.true)
  | else-place-eq0 w ↦ w.before-is ∙ sym (rule_before-later 0 c.args.steps.now c.args.j _ (omega arith))
]

pub form_after-requires-clause-before : goal.form_after-requires-clause-before
form_after-requires-clause-before c =
    let bound = before_within c.args.rules.now c.args.line.now.letters c.args.steps.now c.args.j nothing 0 0 [] c.requires.stand c.requires.place (omega arith)
    in let e = chosen c in omega (arith, bound, e)

pub form_after-requires-clause-rule : goal.form_after-requires-clause-rule
form_after-requires-clause-rule c =
    (within c.args.rules.now c.args.line.now.letters c.args.steps.now c.args.j _ 0 [] c.requires.stand c.requires.place).rule

pub form_after-requires-clause-within : goal.form_after-requires-clause-within
form_after-requires-clause-within c =
    (within c.args.rules.now c.args.line.now.letters c.args.steps.now c.args.j _ 0 [] c.requires.stand c.requires.place).taken

pub returns : goal.returns
returns c = record {
  ok = form_found c.args.rules.now c.args.line.now.letters c.args.steps.now c.args.j nothing _ _ c.requires.place
      (chosen (goal.at.returns c).Joined-place-eq0) c.form_after.ensures.ok;
}
