-- The letters that a rule supplies are few.
use Rattle.std.proofs.Common.{◌≡◌, length, ap, ◌∙◌, arith}
use Rattle.lexicon_definitions.specs.Leads.{leads_of}
use Rattle.lexicon_definitions.specs.Lexicons.{RuleSet}
use Rattle.derivation.specs.Guides.{entrance_of}
use Rattle.answer_paths.specs.Fronts.{supplied}
use Rattle.search_frames.specs.Frames.{numbered_of}
use Rattle.search_frames.proofs.WalkLeads.{short_supplied}
use Rattle.summary_chart.proofs.walking.LeadWalk.node.Goals as goal

pub returns-clause-steps : goal.returns-clause-steps
returns-clause-steps g c =
    let searched = c.args.site.lexicon.now in
    let here = numbered_of searched c.args.site.place.now in
    let short = short_supplied searched.lexicon.rules c.args.site.place.now.entrance c.requires.site.searched.limits c.requires.site.place.over in
    let lead : c.supplied_letters-lead.result.now ≡ supplied here.entrance =
    c.supplied_letters-lead.ensures ∙ ap (λ (r : RuleSet). supplied (entrance_of (leads_of r.rules) c.args.site.place.now.entrance)) c.rules.ensures.value in
    let same = ap length lead in
    omega (arith, short, same, c.walk_word-self.ensures.steps)
