-- The front that takes no letter is begun where its phase may begin (`AlikeLists`).
use Rattle.std.proofs.Common.{subst}
use Rattle.lexicon_definitions.specs.Leads.{leads_of}
use Rattle.lexicon_definitions.specs.Lexicons.{RuleSet}
use Rattle.derivation.specs.Guides.{entrance_of}
use Rattle.search_frames.specs.Ahead.{MayBegin}
use Rattle.search_frames.specs.Frames.{numbered_of}
use Rattle.summary_chart.proofs.AlikeLists.{begun_if_next}
use Rattle.summary_chart.proofs.alike.begun_front.Goals as goal

pub returns-clause-begun : goal.returns-clause-begun
returns-clause-begun g c =
    let searched = c.args.site.lexicon.now in
    begun_if_next searched c.args.site.line.now c.args.site.choices.now (numbered_of searched c.args.site.place.now) c.args.phase c.first_front_after.result
    (subst (λ (r : RuleSet). MayBegin (entrance_of (leads_of r.rules) c.args.site.place.now.entrance) c.args.phase) c.rules.ensures.value
    (c.may_begin.ensures.0 c.if-not-may_begin.false))
    c.first_front_after.ensures.front
