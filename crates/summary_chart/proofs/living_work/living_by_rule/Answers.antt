-- A rule that leads on leads to one set of the table (`LivingKeys`).
use Rattle.std.proofs.Common.{subst}
use Rattle.lexicon_definitions.specs.Lexicons.{RuleSet}
use Rattle.search_frames.specs.Ahead.{RuleLeadsTo}
use Rattle.summary_chart.proofs.LivingKeys.{lives_led}
use Rattle.summary_chart.proofs.living_work.living_by_rule.Goals as goal

pub returns-in-LeadsOn : goal.returns-in-LeadsOn
returns-in-LeadsOn c =
    let work = c.args.work.now in
    let led = subst (λ (rules : RuleSet). RuleLeadsTo rules c.args.line.now work.end work.phase c.args.rule c.in-LeadsOn.at c.in-LeadsOn.entrance)
    c.rules.ensures.value c.in-LeadsOn.ensures in
    lives_led c.args.lexicon.now c.args.line.now c.args.table.now work c.args.rule c.in-LeadsOn.at c.in-LeadsOn.entrance c.get.result
    led c.get.ensures.entrance c.get.ensures.set
