-- The step stands in the line after those before it, so that it is tested with the lead that they leave.
use Rattle.reader_choices.proofs.StandingSteps.{rules_are_numbers, last_within}
use Rattle.reader_choices.proofs.choices.Choices.allows.Goals as goal

pub lead_after-lead-requires : goal.lead_after-lead-requires
lead_after-lead-requires c = rules_are_numbers c.args.rules.now c.args.line.now.letters c.args.before.now _ c.requires

pub allows_entered-requires-clause-rule : goal.allows_entered-requires-clause-rule
allows_entered-requires-clause-rule c = (last_within c.args.rules.now c.args.line.now.letters c.args.before.now c.args.step.now c.requires).rule

pub allows_entered-requires-clause-within : goal.allows_entered-requires-clause-within
allows_entered-requires-clause-within c = (last_within c.args.rules.now c.args.line.now.letters c.args.before.now c.args.step.now c.requires).taken
