-- Few letters are supplied, and what the choices leave free at the rank of the place, they allow there.
use Rattle.std.proofs.Common.{length, ap, arith}
use Rattle.lexicon_definitions.specs.Leads.{leads_of}
use Rattle.derivation.specs.Guides.{entrance_of}
use Rattle.search_frames.proofs.AheadTests.{allowed_if_free}
use Rattle.search_frames.proofs.WalkLeads.{short_supplied}
use Rattle.search_frames.proofs.ahead.leave_free.Goals as goal

pub overflow_cast-lead : goal.overflow_cast-lead
overflow_cast-lead c =
    let short = short_supplied c.args.rules.now c.args.place.now.entrance c.requires.limits c.requires.over in
    let same = ap length c.supplied_letters-lead.ensures in
    omega (arith, short, same)

pub returns : goal.returns
returns c =
    allowed_if_free c.args.rules.now c.args.choices.now c.args.place.now.at (entrance_of (leads_of c.args.rules.now.rules) c.args.place.now.entrance)
    (length c.supplied_letters-lead.result.now) c.args.taken c.is_first.result c.leave_free.result c.requires.limits (ap length c.supplied_letters-lead.ensures)
    (c.is_first.ensures (leads_of c.args.rules.now.rules)) c.leave_free.ensures
