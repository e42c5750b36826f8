-- What was named has rules of the lexicon, and is as long as what was written.
use Rattle.std.proofs.Common.{◌≤◌, List, length, All, sym, ap, subst, arith}
use Rattle.lexicon_definitions.specs.Lexicons.{RuleSet}
use Rattle.segmentation_definitions.specs.Derivations.{Step}
use Rattle.joiner.proofs.LinksNamed.{rules_low, as_many}
use Rattle.joiner.proofs.reading.read_chain.Goals as goal

pub first_not_meeting-requires-clause-numbers : goal.first_not_meeting-requires-clause-numbers
first_not_meeting-requires-clause-numbers c =
    subst (λ (rules : RuleSet). All (λ (step : Step). step.rule ≤ length rules.rules) c.as_slice.result.now) (sym c.rules.ensures.value)
    (subst (λ (links : List Step). All (λ (step : Step). step.rule ≤ length c.args.lexicon.now.lexicon.rules.rules) links) (sym c.as_slice.ensures.value)
    (rules_low c.args.lexicon.now.lexicon c.in-Ok.steps.items c.in-Ok-name_steps.links.items c.in-Ok-name_steps.ensures))

pub first_not_meeting-requires-clause-few : goal.first_not_meeting-requires-clause-few
first_not_meeting-requires-clause-few c =
    let same = ap length c.as_slice.ensures.value in
    let many = as_many c.args.lexicon.now.lexicon c.in-Ok.steps.items c.in-Ok-name_steps.links.items c.in-Ok-name_steps.ensures in
    let few = c.in-Ok.ensures.few in
    let short = c.requires in
    omega (arith, same, many, few, short)
