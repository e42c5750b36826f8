-- Few letters are supplied.
use Rattle.std.proofs.Common.{◌≡◌, length, ap, ◌∙◌, arith}
use Rattle.lexicon_definitions.specs.Leads.{leads_of}
use Rattle.lexicon_definitions.specs.Lexicons.{RuleSet}
use Rattle.derivation.specs.Guides.{entrance_of}
use Rattle.answer_paths.specs.Fronts.{supplied}
use Rattle.search_frames.proofs.WalkLeads.{short_supplied}
use Rattle.search_frames.proofs.opening.open_frame.Goals as goal

pub overflow_cast-supplied_letters : goal.overflow_cast-supplied_letters
overflow_cast-supplied_letters c =
    let rules = c.args.lexicon.now.lexicon.rules in
    let entrance = c.args.place.entrance in
    let short = short_supplied rules entrance c.rules.ensures.searched.limits c.requires.place.over in
    let is : c.supplied_letters.result.now ≡ supplied (entrance_of (leads_of rules.rules) entrance) =
    c.supplied_letters.ensures ∙ ap (λ (r : RuleSet). supplied (entrance_of (leads_of r.rules) entrance)) c.rules.ensures.value in
    let same = ap length is in
    omega (arith, short, same)
